-- `Pass::length` meets its contract: the ones of the row, and one more (PassLaws, `counted`).
use Rattle.projection.proofs.PassLaws.{counted}
use Rattle.projection.proofs.pass.Pass.length.Goals as goal

pub returns : goal.returns
returns c = search counted
