-- `Pass::begin` meets its contract: one state has one place (PassLaws, `held_first`).
use Rattle.projection.proofs.PassLaws.{held_first}
use Rattle.projection.proofs.pass.Pass.begin.Goals as goal

pub returns : goal.returns
returns c = search held_first
