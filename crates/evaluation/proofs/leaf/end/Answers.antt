-- `end` meets its contract (LeafLaws, `end_row`).
use Rattle.evaluation.proofs.LeafLaws.{end_row}
use Rattle.evaluation.proofs.leaf.end.Goals as goal

pub returns : goal.returns
returns c = search end_row
