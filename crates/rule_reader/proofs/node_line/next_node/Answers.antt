-- `next_node` meets its contract: one law for each return (NodeLaws).
use Rattle.lines.proofs.NextLaws.{line_part_laws}
use Rattle.lines.proofs.ToldLaws.{told_exit}
use Rattle.rule_reader.proofs.NodeLaws.{node_unread, node_malformed, node_refused, node_wordable, node_read}
use Rattle.rule_reader.proofs.node_line.next_node.Goals as goal

pub returns-in_err-check_end : goal.returns-in_err-check_end
returns-in_err-check_end c = told_exit _ _ _ c.from_residual.ensures.1 (search (node_unread, c.in_err-check_end.ensures))

pub slice_bounds-node_form-end : goal.slice_bounds-node_form-end
slice_bounds-node_form-end c = search line_part_laws

pub returns-in_err-n : goal.returns-in_err-n
returns-in_err-n c = told_exit _ _ _ c.from_residual-in_err-n.ensures.1 (search (node_malformed, c.in_ok-check_end.ensures, c.in_err-n.ensures.value))

pub returns-in_err-check_node : goal.returns-in_err-check_node
returns-in_err-check_node c =
    told_exit _ _ _ c.from_residual-in_err-check_node.ensures.1 (search (node_refused, c.in_ok-check_end.ensures, c.in_ok-n.ensures.value, c.in_err-check_node.ensures))

pub word-requires : goal.word-requires
word-requires c = search (node_wordable, c.in_ok-check_end.ensures, c.in_ok-n.ensures.value, c.in_ok-check_node.ensures)

pub returns : goal.returns
returns c = search (node_read, c.in_ok-check_end.ensures, c.in_ok-n.ensures.value, c.in_ok-check_node.ensures)
