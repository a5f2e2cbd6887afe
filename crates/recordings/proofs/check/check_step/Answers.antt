-- `check_step` meets its contract: the limit, then the output rule.
use Rattle.rules.proofs.RefusalLaws.{refusals}
use Rattle.recordings.specs.Turns.{step_refusal}
use Rattle.recordings.proofs.check.check_step.Goals as goal

pub returns-in_err-unless : goal.returns-in_err-unless
unfolding step_refusal
returns-in_err-unless c = search refusals

pub returns : goal.returns
unfolding step_refusal
returns c = search refusals
