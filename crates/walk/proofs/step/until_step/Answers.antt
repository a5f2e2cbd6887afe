-- `until_step` meets its contract (StepLaws, `until_step`).
use Rattle.walk.proofs.StepLaws.{until_step}
use Rattle.walk.proofs.step.until_step.Goals as goal

pub returns : goal.returns
returns c = search until_step
