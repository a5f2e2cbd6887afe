-- `output_broken` meets its contract (HeldLaws, `broken_is`).
use Rattle.recordings.proofs.HeldLaws.{broken_is}
use Rattle.recordings.proofs.held.output_broken.Goals as goal

pub returns : goal.returns
returns c = search broken_is
