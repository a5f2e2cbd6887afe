-- The text of a recording (document 01), as it is written: "Recording: `recording`, C, N; C lines `owns`, mask; N lines `at`, run marks, word".
use Rattle.std.specs.Prelude.{ℕ, zero, suc, ◌+◌, ◌/◌, ◌%◌, List, [], ◌∷◌, ◌++◌, ltb}
use Rattle.definitions.specs.Bounded.{pick}
use Rattle.definitions.specs.Recordings.{atoms_of, marks_of}
use Rattle.definitions.specs.Lines.{tab, newline, digits}
use Rattle.definitions.specs.RecordingText.{recording_word, owns_word, at_word, word_digits, mark_digits}

-- a "lower-case hexadecimal" digit
unfoldable pub hex_byte : ℕ → ℕ
hex_byte d = pick (ltb d 10) (48 + d) (87 + d)

-- so many "lower-case hexadecimal digits", highest first
unfoldable pub hex_text : (width v : ℕ) → List ℕ
hex_text zero v = []
hex_text (suc width) v = hex_text width (v / 16) ++ (hex_byte (v % 16) ∷ [])

-- `recording`, C, N
unfoldable pub recording_heading_text : (C N : ℕ) → List ℕ
recording_heading_text C N = recording_word ++ (tab ∷ (digits C ++ (tab ∷ digits N)))

-- "`owns`, mask"
unfoldable pub mask_text : (m : ℕ) → List ℕ
mask_text m = owns_word ++ (tab ∷ hex_text word_digits m)

-- "`at`, run marks, word"
unfoldable pub state_text : (C s : ℕ) → List ℕ
state_text C s = at_word ++ (tab ∷ (hex_text (mark_digits C) (marks_of s) ++ (tab ∷ hex_text word_digits (atoms_of s))))

-- "C lines `owns`", and then another text
unfoldable pub masks_text : (masks rest : List ℕ) → List ℕ
masks_text [] rest = rest
masks_text (m ∷ ms) rest = mask_text m ++ (newline ∷ masks_text ms rest)

-- "N lines `at`"
unfoldable pub states_text : (C : ℕ) (states : List ℕ) → List ℕ
states_text C [] = []
states_text C (s ∷ ss) = state_text C s ++ (newline ∷ states_text C ss)

-- "the heading and `owns` lines", and then another text
unfoldable pub opening_text : (C N : ℕ) (masks rest : List ℕ) → List ℕ
opening_text C N masks rest = recording_heading_text C N ++ (newline ∷ masks_text masks rest)

-- the recording text
unfoldable pub recording_text : (C N : ℕ) (masks states : List ℕ) → List ℕ
recording_text C N masks states = opening_text C N masks (states_text C states)
