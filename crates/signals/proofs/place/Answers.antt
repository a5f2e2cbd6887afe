-- `place` meets its contract (ScanningLaws: place_laws).
use Rattle.signals.proofs.ScanningLaws.{place_laws}
use Rattle.signals.proofs.place.Goals as goal

pub overflow_add-result : goal.overflow_add-result
overflow_add-result c = search place_laws

pub returns-then-j-controllers : goal.returns-then-j-controllers
returns-then-j-controllers c = search place_laws

pub returns : goal.returns
returns c = search place_laws
