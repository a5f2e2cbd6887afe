-- `draw_image` meets its contract (ImageLaws, `stepped`).
use Rattle.images.proofs.ImageLaws.{stepped}
use Rattle.images.proofs.draw_image.Goals as goal

pub returns : goal.returns
returns c = search stepped
