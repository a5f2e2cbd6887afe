-- Trials of document 02's gauges: "After the `owns` lines a recording may have up to 8 lines `gauge`, atom, threshold, with distinct atoms, and each `at` line
-- then ends with one value per gauge, in the same order."
use mathlib.Core.Path.{◌≡◌, refl}
use Prim.Native.Nat.{ℕ}
use Prim.Native.String.{String}
use mathlib.Core.List.{List, [], ◌∷◌, ◌++◌}
use lib.ListN.{replicate}
use Rattle.definitions.specs.Recordings.{state_of}
use Rattle.definitions.specs.Lines.{bytes}
use Rattle.definitions.specs.RecordingText.{scan_recording, scan_plain}
use Rattle.definitions.specs.Operations.{read_recording_states}
use Rattle.definitions.specs.Program.{program_output}
use Rattle.definitions.proofs.Samples.{computed}

-- a recording text of one controller with own atom 0, and two states, with these lines after its `owns` line
abbrev text : String → List ℕ
text lines = bytes "recording\t1\t2\nowns\t00000001\n" ++ bytes lines

-- its refusal
abbrev refusal : String → ℕ
refusal lines = (scan_recording (text lines)).number

pub record GaugesRead : Type 0 where
  pub accepted : refusal "gauge\t3\t-0.50\nat\t01\t00000002\t-0.51\nat\t00\t00000002\t-0.50\n" ≡ 0
  -- "19, a second gauge for an atom, tested after 6 on its line"
  pub second : refusal "gauge\t3\t-0.50\ngauge\t3\t1.00\n" ≡ 19
  pub second_outside : refusal "gauge\t3\t0.00\ngauge\t3\t327.68\n" ≡ 6
  pub atom : refusal "gauge\t32\t-0.50\n" ≡ 6
  pub threshold : refusal "gauge\t3\t-327.69\n" ≡ 6
  pub form_first : refusal "gauge\t32\t-0.5\n" ≡ 5
  pub minus_zero : refusal "gauge\t3\t-0.00\n" ≡ 5
  -- "20, a gauge's bit already set in the word, tested after 6 and before 10", where the value would set it and where not
  pub bit_set : refusal "gauge\t3\t-0.50\nat\t01\t00000008\t7.00\n" ≡ 20
  pub bit_set_below : refusal "gauge\t3\t-0.50\nat\t01\t00000008\t-7.00\n" ≡ 20
  pub value : refusal "gauge\t3\t-0.50\nat\t01\t00000008\t400.00\n" ≡ 6
  pub marks_first : refusal "gauge\t3\t-0.50\nat\t02\t00000008\t7.00\n" ≡ 6
  pub bit_set_first : refusal "gauge\t0\t0.00\nat\t00\t00000000\t0.00\nat\t00\t00000001\t-0.01\n" ≡ 20
  -- "5 not of its form", before a value outside its limits
  pub outside_then_malformed : refusal "gauge\t3\t0.00\ngauge\t4\t0.00\nat\t01\t00000000\t400.00\t1.5\n" ≡ 5
  pub few_values : refusal "gauge\t3\t-0.50\nat\t01\t00000000\n" ≡ 5
  pub many_values : refusal "gauge\t3\t-0.50\nat\t01\t00000000\t7.00\t7.00\n" ≡ 5
  pub value_without_gauge : refusal "at\t01\t00000000\t7.00\n" ≡ 5
  -- "The output rule is tested after that": an own atom, whose bit the value sets and then not
  pub output_rule : refusal "gauge\t0\t0.00\nat\t00\t00000000\t0.00\nat\t00\t00000000\t-0.01\n" ≡ 10
  pub output_kept : refusal "gauge\t0\t0.00\nat\t00\t00000000\t0.00\nat\t00\t00000000\t0.01\n" ≡ 0
  -- "A ninth `gauge` line is 5", whatever it holds
  pub eight : refusal "gauge\t0\t0.00\ngauge\t1\t0.00\ngauge\t2\t0.00\ngauge\t3\t0.00\ngauge\t4\t0.00\ngauge\t5\t0.00\ngauge\t6\t0.00\ngauge\t7\t0.00\nat\t01\t00000000\t0.00\t0.00\t0.00\t0.00\t0.00\t0.00\t0.00\t0.00\nat\t00\t00000000\t-0.01\t-0.01\t-0.01\t-0.01\t-0.01\t-0.01\t-0.01\t-0.01\n" ≡ 0
  pub ninth : refusal "gauge\t0\t0.00\ngauge\t1\t0.00\ngauge\t2\t0.00\ngauge\t3\t0.00\ngauge\t4\t0.00\ngauge\t5\t0.00\ngauge\t6\t0.00\ngauge\t7\t0.00\ngauge\t0\t999.00\n" ≡ 5
  -- the first line that is no gauge line must be an `at` line
  pub other_line : refusal "gauges\t3\t0.00\n" ≡ 5
  pub late : refusal "at\t00\t00000000\ngauge\t0\t0.00\n" ≡ 5
  pub after_last : refusal "at\t00\t00000000\nat\t00\t00000000\ngauge\t0\t0.00\n" ≡ 8
  pub missing : refusal "gauge\t3\t0.00\n" ≡ 8
  pub unclosed : refusal "gauge\t3\t0.00" ≡ 5
  -- "becomes 1 exactly when the value is at least the threshold": below it, and at it
  pub states : (scan_recording (text "gauge\t3\t-0.50\nat\t01\t00000002\t-0.51\nat\t00\t00000002\t-0.50\n")).states ≡ state_of 1 2 ∷ state_of 0 10 ∷ []
  -- values in the order of the gauges
  pub order : (scan_recording (text "gauge\t5\t1.00\ngauge\t1\t-1.00\nat\t01\t00000000\t1.00\t-1.01\nat\t00\t00000000\t0.99\t-1.00\n")).states ≡ state_of 1 32 ∷ state_of 0 2 ∷ []
  -- the answer stays C, N, masks, finished states
  pub held : read_recording_states (text "gauge\t3\t0.00\nat\t01\t00000000\t0.00\nat\t00\t00000000\t-0.01\n") (replicate 11 7) (replicate 129 7)
      ≡ state_of 1 8 ∷ 0 ∷ (replicate 126 0 ++ (7 ∷ []))
  -- the program judges the finished words: atom 1 is at or above its threshold in the first state
  pub judged : program_output (bytes "rule\t0\t1\natom\t1\n-\n" ++ text "gauge\t1\t20.50\nat\t01\t00000000\t20.50\nat\t00\t00000000\t20.49\n")
      ≡ program_output (bytes "rule\t0\t1\natom\t1\n-\n" ++ text "at\t01\t00000002\nat\t00\t00000000\n")
  -- a gauge line in place of an `at` line
  pub plain : (scan_plain (text "gauge\t3\t0.00\nat\t01\t00000000\t0.00\nat\t00\t00000000\t0.00\n")).number ≡ 5

gauges_read : GaugesRead
unfolding computed
gauges_read = record {
  accepted = refl;
  second = refl;
  second_outside = refl;
  atom = refl;
  threshold = refl;
  form_first = refl;
  minus_zero = refl;
  bit_set = refl;
  bit_set_below = refl;
  value = refl;
  marks_first = refl;
  bit_set_first = refl;
  outside_then_malformed = refl;
  few_values = refl;
  many_values = refl;
  value_without_gauge = refl;
  output_rule = refl;
  output_kept = refl;
  eight = refl;
  ninth = refl;
  other_line = refl;
  late = refl;
  after_last = refl;
  missing = refl;
  unclosed = refl;
  states = refl;
  order = refl;
  held = refl;
  judged = refl;
  plain = refl;
}
