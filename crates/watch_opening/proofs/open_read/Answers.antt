-- `open_read` meets its contract (OpeningLaws: read_laws).
use Rattle.watch_opening.proofs.OpeningLaws.{read_laws}
use Rattle.watch_opening.proofs.open_read.Goals as goal

pub returns-in-Ok : goal.returns-in-Ok
returns-in-Ok c = let o = c.in-Ok.ensures in search read_laws

pub returns-in-Err : goal.returns-in-Err
returns-in-Err c = let o = c.in-Err.ensures in search read_laws
