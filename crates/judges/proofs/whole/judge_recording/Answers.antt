-- `judge_recording` meets its contract: one law for each return (WholeLaws).
use Rattle.std.proofs.Common.{arith}
use Rattle.judges.proofs.WholeLaws.{whole_laws, whole_refused, whole_judged}
use Rattle.judges.proofs.whole.judge_recording.Goals as goal

pub returns-then-rows-lt-ROWS_WORDS : goal.returns-then-rows-lt-ROWS_WORDS
returns-then-rows-lt-ROWS_WORDS c = search whole_laws

pub returns-in-Err : goal.returns-in-Err
returns-in-Err c = whole_refused _ _ _ _ _ _ _ _ _ _ (omega arith) c.in-Err.refusal c.in-Err.ensures _ c.clear.ensures

pub judge_accepted_table-requires : goal.judge_accepted_table-requires
judge_accepted_table-requires c = search whole_laws

pub returns : goal.returns
returns c = whole_judged _ _ _ _ _ _ _ _ _ _ (omega arith) c.in_default.ensures _ _ c.judge_accepted_table.ensures
