-- `step` meets its contract (StepLaws: step_laws).
use Rattle.watch_program.proofs.StepLaws.{step_laws}
use Rattle.watch_program.proofs.step.Goals as goal

pub returns-in-Opening : goal.returns-in-Opening
returns-in-Opening c = search step_laws

pub returns-in-Running : goal.returns-in-Running
returns-in-Running c = search step_laws

pub returns-in-Ruling : goal.returns-in-Ruling
returns-in-Ruling c = search step_laws

pub returns-in-Ended : goal.returns-in-Ended
returns-in-Ended c = search step_laws
