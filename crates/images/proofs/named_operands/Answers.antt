-- `named_operands` meets its contract (ImageLaws, `names_are`).
use Rattle.images.proofs.ImageLaws.{names_are}
use Rattle.images.proofs.named_operands.Goals as goal

pub returns : goal.returns
returns c = search names_are
