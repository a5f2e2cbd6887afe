-- `operand_fields`: the return of two operands; the ruleset of the function finds the rest.
use Rattle.rule_reader.proofs.FormLaws.{two_read}
use Rattle.rule_reader.proofs.node_line.operand_fields.Goals as goal

pub returns : goal.returns
returns c = search (two_read, c.in_ok-fields.ensures)
