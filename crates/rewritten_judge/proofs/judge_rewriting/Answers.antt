-- `judge_rewriting` meets its contract (RewrittenLaws: rewriting_laws).
use Rattle.rewritten_judge.proofs.RewrittenLaws.{rewriting_laws}
use Rattle.rewritten_judge.proofs.judge_rewriting.Goals as goal

pub slice_bounds-nodes-end : goal.slice_bounds-nodes-end
slice_bounds-nodes-end c = search rewriting_laws

pub rewrite_accepted-tops-requires : goal.rewrite_accepted-tops-requires
rewrite_accepted-tops-requires c = search rewriting_laws

pub judge_accepted_table-verdicts-requires : goal.judge_accepted_table-verdicts-requires
judge_accepted_table-verdicts-requires c = search rewriting_laws

pub returns : goal.returns
returns c = search rewriting_laws
