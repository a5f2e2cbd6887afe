-- "One line per atom" (document 02): the archive text of a recording without gauges, what reading it answers, and each text from the other.
use Rattle.std.specs.Prelude.{ℕ, zero, suc, ◌+◌, ◌*◌, Bool, List, [], ◌∷◌, ◌++◌, map, length, take, drop, replicate, eqb, ltb}
use Rattle.definitions.specs.Limits.{accepted, recording_form, recording_lines, atom_count}
use Rattle.definitions.specs.Bounded.{pick, bit, bit_of, within, or_else, tabulate}
use Rattle.definitions.specs.Recordings.{state_of, atoms_of, marks_of, states_refusal}
use Rattle.definitions.specs.Lines.{bytes, tab, newline, is_empty, Parsed, formed, malformed, on_parsed, worded, NextLine, on_next, next_line}
use Rattle.definitions.specs.RecordingText.{RecordingScan, scan_opening, scan_plain}
use Rattle.definitions.specs.RecordingWriting.{opening_text, recording_text}

-- ---- lines turned
-- one entry more in front of each line
unfoldable pub in_front : {A : Type 0} (xs : List A) (rows : List (List A)) → List (List A)
in_front [] rows = []
in_front (x ∷ xs) [] = []
in_front (x ∷ xs) (r ∷ rows) = (x ∷ r) ∷ in_front xs rows

-- "Rearrange": the columns of lines of `width` entries each, as lines
unfoldable pub turned : {A : Type 0} (width : ℕ) (rows : List (List A)) → List (List A)
turned width [] = replicate width []
turned width (r ∷ rows) = in_front r (turned width rows)

-- the number of which these are the bits, bit 0 first
unfoldable pub number_of_bits : List Bool → ℕ
number_of_bits [] = 0
number_of_bits (b ∷ l) = number_of_bits l * 2 + bit b

-- the digits of a state: a run mark for each of the C controllers, "controller 0 first", and its word, "atom 0 first"
unfoldable pub state_digits : (C s : ℕ) → List Bool
state_digits C s = tabulate C (bit_of (marks_of s)) ++ tabulate atom_count (bit_of (atoms_of s))

-- the state that has these digits
unfoldable pub state_of_digits : (C : ℕ) (l : List Bool) → ℕ
state_of_digits C l = state_of (number_of_bits (take C l)) (number_of_bits (drop C l))

-- "The archive stores a signal as one line": a signal for each controller and each atom, "state 0 first"
unfoldable pub signals_of : (C : ℕ) (states : List ℕ) → List (List Bool)
signals_of C states = turned (C + atom_count) (map (state_digits C) states)

-- the N states of these signals
unfoldable pub states_of_signals : (C N : ℕ) (signals : List (List Bool)) → List ℕ
states_of_signals C N signals = map (state_of_digits C) (turned N signals)

-- ---- the archive text
-- the words that open its lines
abbrev pub runs_word : List ℕ
runs_word = bytes "runs"

abbrev pub bits_word : List ℕ
bits_word = bytes "bits"

-- "C lines `runs`, .. and 32 lines `bits`": the word of line j
unfoldable pub signal_word : (C j : ℕ) → List ℕ
signal_word C j = pick (ltb j C) runs_word bits_word

-- "digits 0 or 1"
unfoldable pub signal_text : List Bool → List ℕ
signal_text [] = []
signal_text (b ∷ l) = (48 + bit b) ∷ signal_text l

-- the line of signal j: its word, and "one field of N digits"
unfoldable pub signal_line : (C j : ℕ) (l : List Bool) → List ℕ
signal_line C j l = signal_word C j ++ (tab ∷ signal_text l)

-- the lines of the signals from signal j on
unfoldable pub signals_text : (C j : ℕ) (signals : List (List Bool)) → List ℕ
signals_text C j [] = []
signals_text C j (l ∷ ls) = signal_line C j l ++ (newline ∷ signals_text C (j + 1) ls)

-- "the heading and `owns` lines, then C lines `runs`, controller 0 first, and 32 lines `bits`, atom 0 first"
unfoldable pub archive_text : (C N : ℕ) (masks states : List ℕ) → List ℕ
archive_text C N masks states = opening_text C N masks (signals_text C 0 (signals_of C states))

-- ---- reading
-- "digits 0 or 1"
unfoldable pub signal_on : List ℕ → Parsed (List Bool)
signal_on [] = formed []
signal_on (x ∷ t) = pick (within 48 49 x) (on_parsed (signal_on t) malformed (λ l. formed (eqb x 49 ∷ l))) malformed

-- "one field of N digits 0 or 1"
unfoldable pub signal : (N : ℕ) → List ℕ → Parsed (List Bool)
signal N s = pick (eqb (length s) N) (signal_on s) malformed

-- the line of signal j
unfoldable pub signal_form : (C N j : ℕ) → List ℕ → Parsed (List Bool)
signal_form C N j s = worded (signal_word C j) (signal N) s

-- the next line, as that of signal j
abbrev pub next_signal : (C N j : ℕ) → List ℕ → NextLine (List Bool)
next_signal C N j t = next_line recording_lines recording_form (signal_form C N j) (λ l. accepted) t

-- what a reader of signals has: the refusal or 0, the signals read, and the text from the refused line on
pub record SignalScan : Type 0 where
  pub number : ℕ
  pub signals : List (List Bool)
  pub rest : List ℕ

-- a reader that stops, with its refusal or with 0
abbrev pub signal_stop : ℕ → List ℕ → SignalScan
signal_stop number t = record { number = number; signals = []; rest = t }

-- one signal more in front of what the rest of the lines gave
abbrev pub more_signals : List Bool → SignalScan → SignalScan
more_signals l s = record { number = s.number; signals = l ∷ s.signals; rest = s.rest }

-- so many lines, from signal j on, and then the end: "a line missing or one too many"
unfoldable pub scan_signals : (C N lines j : ℕ) → List ℕ → SignalScan
scan_signals C N zero j t = signal_stop (pick (is_empty t) accepted recording_lines) t
scan_signals C N (suc lines) j t =
    on_next (next_signal C N j t) (λ number. signal_stop number t) (λ l rest. more_signals l (scan_signals C N lines (j + 1) rest))

-- what the signals gave, after the masks: "5, 6 and 7 line by line, then 8, then the output rule after all lines"
abbrev pub archive_states : (C N : ℕ) (masks : List ℕ) (s : SignalScan) → RecordingScan
archive_states C N masks s = record {
  number = or_else s.number (states_refusal C masks 0 0 (states_of_signals C N s.signals));
  controllers = C;
  count = N;
  masks = masks;
  states = states_of_signals C N s.signals;
  rest = s.rest;
}

-- what follows the `owns` lines of an archive text
unfoldable pub after_opening : (C N : ℕ) (masks : List ℕ) → List ℕ → RecordingScan
after_opening C N masks t = archive_states C N masks (scan_signals C N (C + atom_count) 0 t)

-- reading an archive text
unfoldable pub scan_archive : List ℕ → RecordingScan
scan_archive t = scan_opening after_opening t

-- ---- each text from the other
-- the archive text of what a reading gave
abbrev pub archive_of : RecordingScan → List ℕ
archive_of s = archive_text s.controllers s.count s.masks s.states

-- the recording text of what a reading gave
abbrev pub recording_from : RecordingScan → List ℕ
recording_from s = recording_text s.controllers s.count s.masks s.states

-- "Rearrange a recording without gauges": "A gauge line is refused with 5 here"
unfoldable pub archived : List ℕ → List ℕ
archived t = archive_of (scan_plain t)

-- "the inverse"
unfoldable pub restored : List ℕ → List ℕ
restored t = recording_from (scan_archive t)
