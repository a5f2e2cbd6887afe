-- `take_text` meets its contract (RulingLaws: text_laws).
use Rattle.watch_program.proofs.RulingLaws.{text_laws}
use Rattle.watch_program.proofs.ruling.take_text.Goals as goal

pub returns-then-lacks_lines : goal.returns-then-lacks_lines
returns-then-lacks_lines c = let t = c.in-Err.ensures in search text_laws

pub returns-in-Ok : goal.returns-in-Ok
returns-in-Ok c = let t = c.in-Ok.ensures in search text_laws

pub returns-else-lacks_lines : goal.returns-else-lacks_lines
returns-else-lacks_lines c = let t = c.in-Err.ensures in search text_laws
