-- `since_step` meets its contract (StepLaws, `since_step`).
use Rattle.walk.proofs.StepLaws.{since_step}
use Rattle.walk.proofs.step.since_step.Goals as goal

pub returns : goal.returns
returns c = search since_step
