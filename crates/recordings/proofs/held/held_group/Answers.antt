-- `held_group` meets its contract (HeldLaws, `held_laws`).
use Rattle.recordings.proofs.HeldLaws.{held_laws}
use Rattle.recordings.proofs.held.held_group.Goals as goal

pub returns : goal.returns
returns c = search held_laws
