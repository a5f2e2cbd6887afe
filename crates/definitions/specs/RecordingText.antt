-- "Recording: `recording`, C, N; C lines `owns`, mask; N lines `at`, run marks (.., bit c for controller c), word" (document 01), the run marks of two or three
-- digits, and "After the `owns` lines a recording may have up to 8 lines `gauge`" (document 02); and "The joint reading".
use Rattle.std.specs.Prelude.{ℕ, zero, suc, ◌+◌, ◌-◌, ◌^◌, Bool, true, false, ◌&&◌, ◌||◌, List, [], ◌∷◌, length, eqb, ltb, leb, ℤ}
use Rattle.definitions.specs.Limits.{two_digit_controllers, max_gauges, accepted, recording_form, recording_limits, recording_lines, no_controller, gauge_bit_set}
use Rattle.definitions.specs.Bounded.{pick}
use Rattle.definitions.specs.Recordings.{state_of, atoms_of, marks_of, state_refusal, mask_refusal, recording_heading_refusal, controller_refusal}
use Rattle.definitions.specs.Lines.{bytes, tab, has, up_to, after, is_empty, line_length, line_of, Parsed, formed, malformed, on_parsed, hexadecimal, same, Heading, two_fields, worded, heading_form, NextLine, on_next, next_line, Scan, stop, more}
use Rattle.definitions.specs.Gauges.{gauge_word, Gauge, gauge_form, gauge_refusal, Gauges, no_gauges, values_after, any_outside, finished, any_set}
use Rattle.definitions.specs.RuleText.{scan_rule}

-- the words that open its lines
abbrev pub recording_word : List ℕ
recording_word = bytes "recording"

abbrev pub owns_word : List ℕ
owns_word = bytes "owns"

abbrev pub at_word : List ℕ
at_word = bytes "at"

-- "Masks and words are eight lower-case hexadecimal digits"
abbrev pub word_digits : ℕ
word_digits = 8

-- "Run marks are three hexadecimal digits where C is above 8 and two otherwise, in every text" (document 02)
unfoldable pub mark_digits : (C : ℕ) → ℕ
mark_digits C = pick (ltb two_digit_controllers C) 3 2

-- the first line: `recording`, C, N
abbrev pub recording_heading : List ℕ → Parsed Heading
recording_heading s = heading_form recording_word s

-- "`owns`, mask"
unfoldable pub mask_form : List ℕ → Parsed ℕ
mask_form s = worded owns_word (hexadecimal word_digits) s

-- `at`, run marks, word, of a recording of C controllers without gauges
unfoldable pub state_form : (C : ℕ) → List ℕ → Parsed ℕ
state_form C s = worded at_word (two_fields (hexadecimal (mark_digits C)) (hexadecimal word_digits) state_of) s

-- a state as it stands on its line, and the values
pub record Measured : Type 0 where
  pub state : ℕ
  pub values : List ℤ

-- word and n values
unfoldable pub word_and_values : (n marks : ℕ) (s : List ℕ) → Parsed Measured
word_and_values n marks s =
    on_parsed (hexadecimal word_digits (up_to tab s)) malformed
    (λ w. on_parsed (values_after n s) malformed (λ vs. formed (record { state = state_of marks w; values = vs })))

-- run marks of so many digits, word and n values
unfoldable pub measured_fields : (digits n : ℕ) (s : List ℕ) → Parsed Measured
measured_fields digits n s =
    pick (has tab s) (on_parsed (hexadecimal digits (up_to tab s)) malformed (λ m. word_and_values n m (after tab s))) malformed

-- `at`, run marks, word: "each `at` line then ends with one value per gauge"
unfoldable pub at_form : (C n : ℕ) → List ℕ → Parsed Measured
at_form C n s = worded at_word (measured_fields (mark_digits C) n) s

-- the state with its finished word
unfoldable pub finished_state : (g : Gauges) (m : Measured) → ℕ
finished_state g m = state_of (marks_of m.state) (finished g.atoms g.thresholds m.values (atoms_of m.state))

-- "6 a number outside its limits, a run mark at C or above"; "20, .. tested after 6 and before 10"; "The output rule is tested after that"
unfoldable pub at_refusal : (C : ℕ) (masks : List ℕ) (g : Gauges) (k prior : ℕ) (m : Measured) → ℕ
at_refusal C masks g k prior m =
    pick (leb (2 ^ C) (marks_of m.state) || any_outside m.values) recording_limits
    (pick (any_set g.atoms (atoms_of m.state)) gauge_bit_set (state_refusal C masks k prior (finished_state g m)))

-- the next line, as the first of a recording
abbrev pub recording_heading_line : List ℕ → NextLine Heading
recording_heading_line t = next_line recording_lines recording_form recording_heading (λ h. recording_heading_refusal h.first h.second) t

-- the next line, as an `owns` line
abbrev pub mask_line : (earlier : List ℕ) → List ℕ → NextLine ℕ
mask_line earlier t = next_line recording_lines recording_form mask_form (mask_refusal earlier) t

-- the next line, as a gauge line after those of the earlier atoms
abbrev pub gauge_line : (earlier : List ℕ) → List ℕ → NextLine Gauge
gauge_line earlier t = next_line recording_lines recording_form gauge_form (gauge_refusal earlier) t

-- the next line, as the `at` line of state k; `prior` is the state before it, with its finished word
abbrev pub at_line : (C : ℕ) (masks : List ℕ) (g : Gauges) (k prior : ℕ) → List ℕ → NextLine Measured
at_line C masks g k prior t = next_line recording_lines recording_form (at_form C (length g.atoms)) (at_refusal C masks g k prior) t

-- so many `owns` lines
unfoldable pub scan_masks : (lines : ℕ) (earlier : List ℕ) → List ℕ → Scan
scan_masks zero earlier t = stop accepted t
scan_masks (suc lines) earlier t =
    on_next (mask_line earlier t) (λ number. stop number t) (λ m rest. more m (scan_masks lines (m ∷ earlier) rest))

-- what the gauge lines gave: the refusal or 0, the gauges, and the text from the next line on
pub record GaugeScan : Type 0 where
  pub number : ℕ
  pub gauges : Gauges
  pub rest : List ℕ

-- the gauge lines end at a line
abbrev pub gauges_stop : ℕ → List ℕ → GaugeScan
gauges_stop number t = record { number = number; gauges = no_gauges; rest = t }

-- one gauge more in front of what the rest of the lines gave
abbrev pub gauges_more : Gauge → GaugeScan → GaugeScan
gauges_more g s =
    record { number = s.number; gauges = record { atoms = g.atom ∷ s.gauges.atoms; thresholds = g.threshold ∷ s.gauges.thresholds }; rest = s.rest }

-- the next line opens with the word of a gauge line and a tab
unfoldable pub is_gauge : List ℕ → Bool
is_gauge t = same (up_to tab (line_of t)) gauge_word && has tab (line_of t)

-- the gauge lines, up to as many as `lines` says: the first other line is left to the `at` lines, and so is "A ninth `gauge` line"
unfoldable pub scan_gauges : (lines : ℕ) (earlier : List ℕ) → List ℕ → GaugeScan
scan_gauges zero earlier t = gauges_stop accepted t
scan_gauges (suc lines) earlier t =
    pick (is_gauge t)
    (on_next (gauge_line earlier t) (λ number. gauges_stop number t) (λ g rest. gauges_more g (scan_gauges lines (g.atom ∷ earlier) rest)))
    (gauges_stop accepted t)

-- so many `at` lines, from state k on, and then the end: "a line missing or one too many". The states with their finished words
unfoldable pub scan_states : (C : ℕ) (masks : List ℕ) (g : Gauges) (lines k prior : ℕ) → List ℕ → Scan
scan_states C masks g zero k prior t = stop (pick (is_empty t) accepted recording_lines) t
scan_states C masks g (suc lines) k prior t =
    on_next (at_line C masks g k prior t) (λ number. stop number t)
    (λ m rest. more (finished_state g m) (scan_states C masks g lines (k + 1) (finished_state g m) rest))

-- what reading a recording text gives: the refusal or 0, C, N, masks and states, and the text from the refused line on
pub record RecordingScan : Type 0 where
  pub number : ℕ
  pub controllers : ℕ
  pub count : ℕ
  pub masks : List ℕ
  pub states : List ℕ
  pub rest : List ℕ

-- a reading that stops at a line
abbrev pub recording_stop : ℕ → List ℕ → RecordingScan
recording_stop number t = record { number = number; controllers = 0; count = 0; masks = []; states = []; rest = t }

-- what the `at` lines gave, after the masks
abbrev pub recording_states : (C N : ℕ) (masks : List ℕ) (s : Scan) → RecordingScan
recording_states C N masks s = record { number = s.number; controllers = C; count = N; masks = masks; states = s.words; rest = s.rest }

-- so many `at` lines after the masks, of a recording without gauges
unfoldable pub after_masks : (C N : ℕ) (masks t : List ℕ) → RecordingScan
after_masks C N masks t = recording_states C N masks (scan_states C masks no_gauges N 0 0 t)

-- what the gauge lines gave, and then the `at` lines
abbrev pub after_gauges : (C N : ℕ) (masks : List ℕ) (s : GaugeScan) → RecordingScan
after_gauges C N masks s =
    pick (eqb s.number accepted) (recording_states C N masks (scan_states C masks s.gauges N 0 0 s.rest)) (recording_stop s.number s.rest)

-- "After the `owns` lines a recording may have up to 8 lines `gauge`"
unfoldable pub gauged_after_masks : (C N : ℕ) (masks t : List ℕ) → RecordingScan
gauged_after_masks C N masks t = after_gauges C N masks (scan_gauges max_gauges [] t)

-- what the `owns` lines gave, and then what follows them
abbrev pub opening_masks : (next : (C N : ℕ) (masks t : List ℕ) → RecordingScan) (C N : ℕ) (m : Scan) → RecordingScan
opening_masks next C N m = pick (eqb m.number accepted) (next C N m.words m.rest) (recording_stop m.number m.rest)

-- the first line and the `owns` lines, and then what follows them
unfoldable pub scan_opening : (next : (C N : ℕ) (masks t : List ℕ) → RecordingScan) → List ℕ → RecordingScan
scan_opening next t =
    on_next (recording_heading_line t) (λ number. recording_stop number t)
    (λ h rest. opening_masks next h.first h.second (scan_masks h.first [] rest))

-- reading a recording text
unfoldable pub scan_recording : List ℕ → RecordingScan
scan_recording t = scan_opening gauged_after_masks t

-- reading a recording text without gauges, as before them
unfoldable pub scan_plain : List ℕ → RecordingScan
scan_plain t = scan_opening after_masks t

-- "a part of the text it came from": of the rule text or of the recording text, from a byte on, so many bytes
pub record Part : Type 0 where
  pub of_rule : Bool
  pub from : ℕ
  pub count : ℕ

-- the line with which `rest`, the end of the text, begins, without its ending: all that is left of an unclosed one, and nothing where nothing is left
abbrev pub line_in : (of_rule : Bool) (text rest : List ℕ) → Part
line_in of_rule text rest = record { of_rule = of_rule; from = length text - length rest; count = line_length rest }

-- "for 13 the empty start of the rule text"
abbrev pub empty_start : Part
empty_start = record { of_rule = true; from = 0; count = 0 }

-- "The joint reading takes the rule text, then the recording text"; then "joining"
unfoldable pub joint_number : (rule recording : List ℕ) → ℕ
joint_number rule recording =
    pick (eqb (scan_rule rule).number accepted)
    (pick (eqb (scan_recording recording).number accepted)
    (controller_refusal (scan_recording recording).controllers (scan_rule rule).controller)
    (scan_recording recording).number)
    (scan_rule rule).number

-- "hands back the refused line itself": "for 11 the rule's first line", "on acceptance the empty end of the recording text"
unfoldable pub joint_part : (rule recording : List ℕ) → Part
joint_part rule recording =
    pick (eqb (scan_rule rule).number accepted)
    (pick (eqb (joint_number rule recording) no_controller) (line_in true rule rule) (line_in false recording (scan_recording recording).rest))
    (line_in true rule (scan_rule rule).rest)
