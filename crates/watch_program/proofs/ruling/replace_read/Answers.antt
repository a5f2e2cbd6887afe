-- `replace_read` meets its contract (RulingLaws: replace_laws).
use Rattle.watch_program.proofs.RulingLaws.{replace_laws}
use Rattle.watch_program.proofs.ruling.replace_read.Goals as goal

pub returns-in-Ok : goal.returns-in-Ok
returns-in-Ok c = let t = c.in-Ok.ensures in search replace_laws

pub returns-in-Err : goal.returns-in-Err
returns-in-Err c = let t = c.in-Err.ensures in search replace_laws
