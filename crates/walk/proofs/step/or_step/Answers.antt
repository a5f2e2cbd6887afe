-- `or_step` meets its contract (StepLaws, `or_step`).
use Rattle.walk.proofs.StepLaws.{or_step}
use Rattle.walk.proofs.step.or_step.Goals as goal

pub returns : goal.returns
returns c = search or_step
