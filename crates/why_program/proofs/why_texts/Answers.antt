-- `why_texts` meets its contract (WhyLaws: behind_printed, refused_printed).
use Rattle.why_program.proofs.WhyLaws.{behind_printed, refused_printed}
use Rattle.why_program.proofs.why_texts.Goals as goal

pub returns-in-Ok : goal.returns-in-Ok
returns-in-Ok c = let h = c.in-Ok.ensures in search (behind_printed, h)

pub returns-in-Err : goal.returns-in-Err
returns-in-Err c = let h = c.in-Err.ensures in search (refused_printed, h)
