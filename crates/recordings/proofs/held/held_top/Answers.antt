-- `held_top` meets its contract (HeldLaws, `group_none`).
use Rattle.recordings.proofs.HeldLaws.{held_laws}
use Rattle.recordings.proofs.held.held_top.Goals as goal

pub returns-then-controllers-le-TWO_TABLES : goal.returns-then-controllers-le-TWO_TABLES
returns-then-controllers-le-TWO_TABLES c = search held_laws
