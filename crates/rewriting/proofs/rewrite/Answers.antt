-- `rewrite` meets its contract: one law for each return (AnswerLaws).
use Rattle.rewriting.proofs.AnswerLaws.{rule_there, ruled, rewrote_short, rewrote_refused, rewrote_done}
use Rattle.rewriting.proofs.rewrite.Goals as goal

pub returns-then-table-lt-TABLE_NODES : goal.returns-then-table-lt-TABLE_NODES
returns-then-table-lt-TABLE_NODES c = search rewrote_short

pub returns-in-Err : goal.returns-in-Err
returns-in-Err c = search (rewrote_refused, c.in-Err.ensures)

pub slice_bounds-nodes-end : goal.slice_bounds-nodes-end
slice_bounds-nodes-end c = search (rule_there, c.in_default.ensures)

pub rewrite_accepted-tops-requires : goal.rewrite_accepted-tops-requires
rewrite_accepted-tops-requires c = search (ruled, c.in_default.ensures)

pub returns : goal.returns
returns c = search (rewrote_done, c.in_default.ensures)
