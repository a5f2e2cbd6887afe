-- `step_of` meets its contract: a not takes all its wanted places (StepLaws, `step_not`); the check finds the other kinds.
use Rattle.walk.proofs.StepLaws.{step_not}
use Rattle.walk.proofs.step.step_of.Goals as goal

pub returns-in-Not : goal.returns-in-Not
returns-in-Not c = rw c.in-Not.is (search step_not)
