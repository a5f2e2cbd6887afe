-- "The full size of the lent space is 8,192 bytes either way": both texts of a held recording fit in it.
use mathlib.Core.Path.{◌≡◌, ◌∙◌}
use Prim.Native.Nat.{ℕ, ◌+◌, ◌*◌, ◌/◌, ◌%◌, ◌<◌, ◌≤◌}
use native.Mathlib.Omega.{arith}
use mathlib.Core.List.{List, [], ◌∷◌, ◌++◌}
use mathlib.Core.Bool.{Bool}
use lib.ListN.{length, length-append}
use lib.Dec.{ltb}
use borrow.Author.Tests.{ltb-true, ltb-false}
use Rattle.definitions.specs.Limits.{max_controllers, max_states, two_digit_controllers}
use Rattle.definitions.specs.Lines.{tab, newline, digits}
use Rattle.definitions.specs.Recordings.{atoms_of, marks_of}
use Rattle.definitions.specs.RecordingText.{recording_word, owns_word, at_word, word_digits, mark_digits}
use Rattle.definitions.specs.RecordingWriting.{hex_text, recording_heading_text, mask_text, state_text, masks_text, states_text, opening_text, recording_text}
use Rattle.definitions.specs.Archive.{runs_word, bits_word, signal_word, signal_text, signal_line, signals_text, signals_of, archive_text}
use Rattle.theorems.proofs.Choice.{by_test, pick_true, pick_false}
use Rattle.theorems.proofs.DecimalLaws.{two_digits, digits_step}
use Rattle.theorems.proofs.HexLaws.{text_length}
use Rattle.theorems.proofs.TurnLaws.{Even}
use Rattle.theorems.proofs.SignalLaws.{signals_count, signals_even}
use Rattle.theorems.proofs.RecordingTexts.{Held, heading_limits}
use Rattle.theorems.proofs.ArchiveTexts.{signal_length}

three_digits : (n : ℕ) → n < 1000 → length (digits n) ≤ 3
three_digits n h =
    by_test (ltb n 10)
    (λ e. omega (arith, two_digits n (omega (arith, ltb-true n 10 e))))
    (λ e. rw (digits_step n (ltb-false n 10 e)) (omega (arith, two_digits (n / 10) (omega arith), length-append (digits (n / 10)) ((48 + n % 10) ∷ []))))

heading_length : (C N : ℕ) → C ≤ max_controllers → N ≤ max_states → length (recording_heading_text C N) ≤ 16
unfolding recording_heading_text
heading_length C N h k =
    omega (arith, two_digits C (omega arith), three_digits N (omega arith), length-append recording_word (tab ∷ (digits C ++ (tab ∷ digits N))), length-append (digits C) (tab ∷ digits N))

mask_length : (m : ℕ) → length (mask_text m) ≡ 13
unfolding mask_text
mask_length m = length-append owns_word (tab ∷ hex_text word_digits m) ∙ omega (arith, text_length word_digits m)

masks_length : (ms rest : List ℕ) → length (masks_text ms rest) ≡ length ms * 14 + length rest
unfolding masks_text
masks_length [] rest = omega arith
masks_length (m ∷ ms) rest = length-append (mask_text m) (newline ∷ masks_text ms rest) ∙ omega (arith, mask_length m, masks_length ms rest)

opening_length : (C N : ℕ) (masks rest : List ℕ) → C ≤ max_controllers → N ≤ max_states → length masks ≡ C → length (opening_text C N masks rest) ≤ 171 + length rest
unfolding opening_text
opening_length C N masks rest h k e =
    omega (arith, heading_length C N h k, masks_length masks rest, length-append (recording_heading_text C N) (newline ∷ masks_text masks rest))

state_length : (C s : ℕ) → length (state_text C s) ≡ 12 + mark_digits C
unfolding state_text
state_length C s =
    let a = hex_text (mark_digits C) (marks_of s) in
    let b = hex_text word_digits (atoms_of s) in
    length-append at_word (tab ∷ (a ++ (tab ∷ b))) ∙ omega (arith, length-append a (tab ∷ b), text_length (mark_digits C) (marks_of s), text_length word_digits (atoms_of s))

-- "two digits", and three where C is above 8
few_digits : (C : ℕ) → mark_digits C ≤ 3
unfolding mark_digits
few_digits C =
    by_test (ltb two_digit_controllers C)
    (λ e. rw (pick_true {A = ℕ} (ltb two_digit_controllers C) 3 2 e) (omega arith))
    (λ e. rw (pick_false {A = ℕ} (ltb two_digit_controllers C) 3 2 e) (omega arith))

states_length : (C : ℕ) (ss : List ℕ) → length (states_text C ss) ≤ length ss * 16
unfolding states_text
states_length C [] = omega arith
states_length C (s ∷ ss) = omega (arith, length-append (state_text C s) (newline ∷ states_text C ss), state_length C s, few_digits C, states_length C ss)

word_length : (C j : ℕ) → length (signal_word C j) ≡ 4
unfolding signal_word
word_length C j = by_test (ltb j C) (λ e. rw (pick_true (ltb j C) runs_word bits_word e)) (λ e. rw (pick_false (ltb j C) runs_word bits_word e))

line_length_lem : (C j : ℕ) (l : List Bool) → length (signal_line C j l) ≡ 5 + length l
unfolding signal_line
line_length_lem C j l = length-append (signal_word C j) (tab ∷ signal_text l) ∙ omega (arith, word_length C j, signal_length l)

signals_length : (C N j : ℕ) (ls : List (List Bool)) → N ≤ max_states → Even N ls → length (signals_text C j ls) ≤ length ls * 134
unfolding signals_text Even
signals_length C N j [] h e = omega arith
signals_length C N j (l ∷ ls) h e =
    omega (arith, e.0, line_length_lem C j l, signals_length C N (j + 1) ls h e.1, length-append (signal_line C j l) (newline ∷ signals_text C (j + 1) ls))

-- at most 2,219 bytes of recording text
pub recording_fits_lem : (C N : ℕ) (masks states : List ℕ) → Held C N masks states → length (recording_text C N masks states) ≤ 2219
unfolding recording_text
recording_fits_lem C N masks states h =
    let (c, n) = heading_limits C N h.heading in
    omega (arith, opening_length C N masks (states_text C states) c n h.mask_count, states_length C states, h.state_count)

-- at most 5,933 bytes of archive text
pub archive_fits : (C N : ℕ) (masks states : List ℕ) → Held C N masks states → length (archive_text C N masks states) ≤ 5933
unfolding archive_text
archive_fits C N masks states h =
    let (c, n) = heading_limits C N h.heading in
    omega (
      arith,
      opening_length C N masks (signals_text C 0 (signals_of C states)) c n h.mask_count,
      signals_count C states,
      signals_length C N 0 (signals_of C states) n (rw h.state_count at (signals_even C states)),
    )
