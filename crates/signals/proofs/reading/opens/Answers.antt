-- `opens` meets its contract (ScanningLaws: opens_laws).
use Rattle.signals.proofs.ScanningLaws.{opens_laws}
use Rattle.signals.proofs.reading.opens.Goals as goal

pub same-requires : goal.same-requires
same-requires c = search opens_laws

pub returns-then-j-controllers : goal.returns-then-j-controllers
returns-then-j-controllers c = search opens_laws

pub same-requires-2 : goal.same-requires-2
same-requires-2 c = search opens_laws

pub returns : goal.returns
returns c = search opens_laws
