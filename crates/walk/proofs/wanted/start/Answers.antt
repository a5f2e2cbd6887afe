-- `start` meets its contract (WantedLaws, `start_done`).
use Rattle.walk.proofs.WantedLaws.{start_done}
use Rattle.walk.proofs.wanted.start.Goals as goal

pub returns : goal.returns
returns c = search start_done
