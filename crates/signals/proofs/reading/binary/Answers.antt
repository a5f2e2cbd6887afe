-- `binary` meets its contract: byte by byte (LayingLaws, `binary_other`).
use Rattle.std.proofs.Common.{rules}
use Rattle.definitions.specs.Bounded.{pick}
use Rattle.signals.specs.Laying.{digit_read}
use Rattle.signals.proofs.LayingLaws.{binary_other}
use Rattle.signals.proofs.reading.binary.Goals as goal

pub returns-in-48 : goal.returns-in-48
unfolding digit_read pick
returns-in-48 c = rw c.in-48.is

pub returns-in-49 : goal.returns-in-49
unfolding digit_read pick
returns-in-49 c = rw c.in-49.is

pub returns-in_default : goal.returns-in_default
returns-in_default c = search (rules, binary_other)
