-- `judge_accepted_table` meets its contract (WholeLaws: accepted_laws).
use Rattle.judges.proofs.WholeLaws.{accepted_laws}
use Rattle.judges.proofs.whole.judge_accepted_table.Goals as goal

pub evaluate-requires : goal.evaluate-requires
evaluate-requires c = search accepted_laws

pub at_tops-verdicts-requires : goal.at_tops-verdicts-requires
at_tops-verdicts-requires c = search accepted_laws

pub overflow_mul-table : goal.overflow_mul-table
overflow_mul-table c = search accepted_laws

pub clear-requires : goal.clear-requires
clear-requires c = search accepted_laws

pub returns : goal.returns
returns c = search accepted_laws
