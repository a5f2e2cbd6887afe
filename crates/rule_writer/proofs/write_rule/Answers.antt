-- `write_rule` meets its contract: one law for each return (WriteLaws).
use Rattle.rule_writer.proofs.WriteLaws.{write_short, write_refused, write_accepted, write_laws}
use Rattle.rule_writer.proofs.write_rule.Goals as goal

pub returns-then-text-lt-RULE_BYTES : goal.returns-then-text-lt-RULE_BYTES
returns-then-text-lt-RULE_BYTES c = search write_short

pub returns-in-Err : goal.returns-in-Err
returns-in-Err c = search (write_refused, c.in-Err.ensures)

pub overflow_cast-rule : goal.overflow_cast-rule
overflow_cast-rule c = search (write_laws, c.in_default.ensures)

pub overflow_cast-rule-2 : goal.overflow_cast-rule-2
overflow_cast-rule-2 c = search (write_laws, c.in_default.ensures)

pub put_heading-after_heading-requires : goal.put_heading-after_heading-requires
put_heading-after_heading-requires c = search (write_laws, c.in_default.ensures)

pub slice_bounds-put_nodes-end : goal.slice_bounds-put_nodes-end
slice_bounds-put_nodes-end c = search (write_laws, c.in_default.ensures)

pub put_nodes-end-requires : goal.put_nodes-end-requires
put_nodes-end-requires c = search (write_laws, c.in_default.ensures)

pub clear-requires-2 : goal.clear-requires-2
clear-requires-2 c = search (write_laws, c.in_default.ensures)

pub returns : goal.returns
returns c = search (write_accepted, c.in_default.ensures)
