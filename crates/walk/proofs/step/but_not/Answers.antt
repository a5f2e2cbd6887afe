-- `but_not` meets its contract (StepLaws, `but_not_made`).
use Rattle.walk.proofs.StepLaws.{but_not_made}
use Rattle.walk.proofs.step.but_not.Goals as goal

pub returns : goal.returns
returns c = but_not_made c.args.p c.args.q c.not.result c.and.result c.requires c.not.ensures c.and.ensures
