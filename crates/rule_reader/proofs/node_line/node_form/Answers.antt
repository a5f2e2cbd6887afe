-- `node_form` meets its contract (FormLaws: line_unknown, line_known).
use Rattle.rule_reader.proofs.FormLaws.{line_unknown, line_known}
use Rattle.rule_reader.proofs.node_line.node_form.Goals as goal

pub returns-then-is_unknown : goal.returns-then-is_unknown
returns-then-is_unknown c = search (line_unknown, c.if-is_unknown.ensures)

pub returns : goal.returns
returns c = search (line_known, c.if-is_unknown.ensures)
