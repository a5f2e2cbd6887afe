-- `held_by` meets its contract (HeldLaws, `by_next`, `by_end`).
use Rattle.recordings.proofs.HeldLaws.{by_laws}
use Rattle.recordings.proofs.held.held_by.Goals as goal

pub loop-c-init : goal.loop-c-init
loop-c-init c = search by_laws

pub loop-c-preserved : goal.loop-c-preserved
loop-c-preserved c = search by_laws

pub returns : goal.returns
returns c = search by_laws
