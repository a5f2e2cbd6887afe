-- What the code answers of the values of a line.
use Rattle.std.specs.Prelude.{ℕ, List, length, ℤ, Option, None, option_map, Result, Ok, Err}
use Rattle.definitions.specs.Limits.{recording_form, recording_limits}
use Rattle.definitions.specs.Bounded.{pick}
use Rattle.definitions.specs.Lines.{on_parsed}
use Rattle.definitions.specs.Gauges.{Gauge, values_after, any_outside, finished_bit, finished}
use Rattle.measures.specs.declared.Flaw.{Flaw}
use Rattle.measures.specs.declared.Flaw.TheVariants.{Outside, Malformed}
use Rattle.gauges.specs.Held.{atoms_of, thresholds_of}
use Rattle.gauges.specs.declared.gauge.Gauge as code

-- one value more after the word so far, if it is still there
unfoldable pub step_of : Option ℕ → Gauge → Result ℤ Flaw → Result (Option ℕ) ℕ
step_of sofar g (Ok value) = Ok (option_map (λ w. finished_bit w g.atom g.threshold value) sofar)
step_of sofar g (Err Outside) = Ok None
step_of sofar g (Err Malformed) = Err recording_form

-- the values that follow the first field: 5 before 6, else the finished word
unfoldable pub values_read : List code.Gauge → ℕ → List ℕ → Result ℕ ℕ
values_read gauges w s =
    on_parsed (values_after (length gauges) s) (Err recording_form)
    (λ vs. pick (any_outside vs) (Err recording_limits) (Ok (finished (atoms_of gauges) (thresholds_of gauges) vs w)))
