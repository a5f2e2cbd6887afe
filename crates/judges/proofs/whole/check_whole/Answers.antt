-- `check_whole` meets its contract: the table, then the recording and its controller.
use Rattle.rules.proofs.RefusalLaws.{refusals}
use Rattle.judges.proofs.whole.check_whole.Goals as goal

pub returns-in_err-check_table : goal.returns-in_err-check_table
returns-in_err-check_table c = search refusals

pub returns : goal.returns
returns c = search refusals
