-- `turn_operator` meets its contract (WalkLaws, `operator_done`).
use Rattle.walk.proofs.WalkLaws.{operator_done}
use Rattle.walk.proofs.turn_operator.Goals as goal

pub returns : goal.returns
returns c = search operator_done
