-- `refuse` meets its contract (OpeningLaws: refuse_done).
use Rattle.watch_opening.proofs.OpeningLaws.{refuse_done}
use Rattle.watch_opening.proofs.refuse.Goals as goal

pub returns : goal.returns
returns c = search refuse_done
