-- What the code answers of a gauge line.
use Rattle.std.specs.Prelude.{ℕ, List, eqb, Result, Ok, Err}
use Rattle.definitions.specs.Limits.{accepted, recording_form}
use Rattle.definitions.specs.Bounded.{pick}
use Rattle.definitions.specs.Lines.{Parsed, on_parsed, NextLine}
use Rattle.definitions.specs.Gauges.{Gauge, gauge_refusal}
use Rattle.lines.specs.Told.{next_told}
use Rattle.rules.specs.Refusals.{number_of}
use Rattle.rules.specs.declared.refusal.Refusal.{Refusal}
use Rattle.gauges.specs.Held.{gauge_in}
use Rattle.gauges.specs.declared.gauge.Gauge as code

-- an answer of the code: the gauge that is meant, or the number of the refusal
abbrev pub gauge_told : Result code.Gauge Refusal → Result Gauge ℕ
gauge_told (Ok gauge) = Ok (gauge_in gauge)
gauge_told (Err refusal) = Err (number_of refusal)

-- a gauge after these atoms: 5 where it is of no form, else its refusal (6, 19), else the gauge
unfoldable pub gauge_answer : List ℕ → Parsed Gauge → Result Gauge ℕ
gauge_answer earlier p = on_parsed p (Err recording_form) (λ g. pick (eqb (gauge_refusal earlier g) accepted) (Ok g) (Err (gauge_refusal earlier g)))

-- the gauge of the next line, or its refusal
abbrev pub gauge_next : NextLine Gauge → Result Gauge ℕ
gauge_next = next_told (λ g. g)
