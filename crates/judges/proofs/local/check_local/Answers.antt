-- `check_local` meets its contract: the rule, then the recording and its controller.
use Rattle.definitions.specs.Operations.{judge_local_number}
use Rattle.rules.proofs.RefusalLaws.{refusals}
use Rattle.judges.proofs.local.check_local.Goals as goal

pub returns-in_err-check_rule : goal.returns-in_err-check_rule
unfolding judge_local_number
returns-in_err-check_rule c = search refusals

pub returns : goal.returns
unfolding judge_local_number
returns c = search refusals
