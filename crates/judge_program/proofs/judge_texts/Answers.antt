-- `judge_texts` meets its contract (OutputLaws: judged_printed, refused_printed).
use Rattle.judge_program.proofs.OutputLaws.{judged_printed, refused_printed}
use Rattle.judge_program.proofs.judge_texts.Goals as goal

pub returns-in-Ok : goal.returns-in-Ok
returns-in-Ok c = let h = c.in-Ok.ensures in search (judged_printed, h)

pub returns-in-Err : goal.returns-in-Err
returns-in-Err c = let h = c.in-Err.ensures in search (refused_printed, h)
