-- What the code answers of an `at` line that ends with values.
use Rattle.std.specs.Prelude.{ℕ, ◌^◌, List, leb, Result, Ok, Err}
use Rattle.definitions.specs.Limits.{recording_form, recording_limits, gauge_bit_set}
use Rattle.definitions.specs.Bounded.{pick}
use Rattle.definitions.specs.Lines.{Parsed, on_parsed, NextLine}
use Rattle.definitions.specs.Recordings.{state_of, marks_of, atoms_of}
use Rattle.definitions.specs.Gauges.{Gauges, any_outside, any_set, finished}
use Rattle.definitions.specs.RecordingText.{Measured, finished_state}
use Rattle.lines.specs.Told.{next_told}

-- the run marks (6), a gauge's bit that is set (20), else the state with its finished word
unfoldable pub tested_of : (C : ℕ) (atoms : List ℕ) (s finished : ℕ) → Result ℕ ℕ
tested_of C atoms s finished =
    pick (leb (2 ^ C) (marks_of s)) (Err recording_limits)
    (pick (any_set atoms (atoms_of s)) (Err gauge_bit_set) (Ok (state_of (marks_of s) finished)))

-- the values in their limits (6)
unfoldable pub measured_tested : (C : ℕ) (g : Gauges) (m : Measured) → Result ℕ ℕ
measured_tested C g m =
    pick (any_outside m.values) (Err recording_limits)
    (tested_of C g.atoms m.state (finished g.atoms g.thresholds m.values (atoms_of m.state)))

-- 5 before all
unfoldable pub measured_told : (C : ℕ) (g : Gauges) → Parsed Measured → Result ℕ ℕ
measured_told C g p = on_parsed p (Err recording_form) (measured_tested C g)

-- the finished state of an `at` line, or its refusal
abbrev pub at_told : (g : Gauges) → NextLine Measured → Result ℕ ℕ
at_told g = next_told (finished_state g)
