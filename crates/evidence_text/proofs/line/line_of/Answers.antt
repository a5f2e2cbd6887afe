-- `line_of` meets its contract (LineLaws: line_laws).
use Rattle.evidence_text.proofs.LineLaws.{line_laws}
use Rattle.evidence_text.proofs.line.line_of.Goals as goal

pub overflow_cast-result : goal.overflow_cast-result
overflow_cast-result c = search line_laws

pub returns : goal.returns
returns c = search line_laws
