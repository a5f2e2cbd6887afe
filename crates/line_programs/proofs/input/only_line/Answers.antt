-- `only_line` meets its contract (PrintLaws: only_laws).
use Rattle.line_programs.proofs.PrintLaws.{only_laws}
use Rattle.line_programs.proofs.input.only_line.Goals as goal

pub returns-in-Ok : goal.returns-in-Ok
returns-in-Ok c = let n = c.in-Ok.ensures in search only_laws

pub returns-in-Err : goal.returns-in-Err
returns-in-Err c = let n = c.in-Err.ensures in search only_laws
