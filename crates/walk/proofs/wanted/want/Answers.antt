-- `want` meets its contract (WantedLaws, `wish_done`).
use Rattle.walk.proofs.WantedLaws.{wish_done}
use Rattle.walk.proofs.wanted.want.Goals as goal

pub returns : goal.returns
returns c = search wish_done
