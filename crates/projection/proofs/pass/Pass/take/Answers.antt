-- `Pass::take` meets its contract: the local trace of one state more (PassLaws, `held_more`).
use Rattle.projection.proofs.PassLaws.{held_more}
use Rattle.projection.proofs.pass.Pass.take.Goals as goal

pub returns : goal.returns
returns c = search held_more
