-- What the code has of the gauge lines of a text.
use Rattle.std.specs.Prelude.{◌≡◌, ℕ, ◌≤◌, List, length, drop, Result, Ok, Err}
use Rattle.definitions.specs.Limits.{accepted}
use Rattle.definitions.specs.RecordingText.{GaugeScan}
use Rattle.lines.specs.Reading.{read_of}
use Rattle.lines.specs.declared.CutShort.{CutShort}
use Rattle.rules.specs.Refusals.{number_of}
use Rattle.gauges.specs.Held.{gauges_in}
use Rattle.gauges.specs.declared.gauge.Gauges.{Gauges}

-- the number of the refusal that stopped the reading, or `accepted`
abbrev pub gauges_number : Result Gauges (CutShort Gauges) → ℕ
gauges_number (Ok gauges) = accepted
gauges_number (Err cut) = number_of cut.stop.refusal

-- where the text goes on after the gauge lines, or where the reading stopped
abbrev pub gauges_at : Result Gauges (CutShort Gauges) → ℕ
gauges_at (Ok gauges) = gauges.at
gauges_at (Err cut) = cut.stop.at

-- the gauge lines of a text were read as s says: the gauges are all of them, or those before the refused line
pub record GaugesScanned (s : GaugeScan) (text : List ℕ) (r : Result Gauges (CutShort Gauges)) : Type 0 where
  pub number : gauges_number r ≡ s.number
  pub inside : gauges_at r ≤ length text
  pub rest : drop (gauges_at r) text ≡ s.rest
  pub gauges : gauges_in (read_of r) ≡ s.gauges
