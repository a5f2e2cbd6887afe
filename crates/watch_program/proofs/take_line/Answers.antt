-- `take_line` meets its contract (StepLaws: line_laws).
use Rattle.watch_program.proofs.StepLaws.{line_laws}
use Rattle.watch_program.proofs.take_line.Goals as goal

pub returns-then-is_empty : goal.returns-then-is_empty
returns-then-is_empty c = search line_laws

pub returns-then-begins_rule : goal.returns-then-begins_rule
returns-then-begins_rule c = search line_laws

pub returns : goal.returns
returns c = search line_laws
