-- `first_line`: by where the first newline stands (NextLaws: line_laws).
use Rattle.lines.proofs.NextLaws.{line_laws}
use Rattle.lines.proofs.first_line.Goals as goal

pub returns-then-end-t : goal.returns-then-end-t
returns-then-end-t c = search line_laws

pub returns : goal.returns
returns c = search line_laws
