-- `walk` meets its contract (WalkLaws, `walk_start`, `walk_more`, `walk_done`).
use Rattle.walk.proofs.WalkLaws.{walk_start, walk_more, walk_done}
use Rattle.walk.proofs.walk.Goals as goal

pub loop-m-init : goal.loop-m-init
loop-m-init c = search walk_start

pub loop-m-preserved : goal.loop-m-preserved
loop-m-preserved c = search walk_more

pub returns : goal.returns
returns c = search walk_done
