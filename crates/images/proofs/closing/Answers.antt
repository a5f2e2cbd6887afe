-- `closing` meets its contract (ImageLaws, `closed_by`).
use Rattle.images.proofs.ImageLaws.{closed_by}
use Rattle.images.proofs.closing.Goals as goal

pub returns : goal.returns
returns c = search closed_by
