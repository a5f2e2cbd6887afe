-- `turn` meets its contract (WalkLaws, `turn_leaf`).
use Rattle.walk.proofs.WalkLaws.{turn_leaf}
use Rattle.walk.proofs.turn.Goals as goal

pub returns-else-not-is_leaf : goal.returns-else-not-is_leaf
returns-else-not-is_leaf c = search turn_leaf
