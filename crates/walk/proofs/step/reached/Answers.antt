-- `reached` meets its contract (StepLaws, `reached_step`).
use Rattle.walk.proofs.StepLaws.{reached_step}
use Rattle.walk.proofs.step.reached.Goals as goal

pub returns : goal.returns
returns c = search reached_step
