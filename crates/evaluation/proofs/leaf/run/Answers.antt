-- `run` meets its contract (LeafLaws, `run_row`).
use Rattle.evaluation.proofs.LeafLaws.{run_row}
use Rattle.evaluation.proofs.leaf.run.Goals as goal

pub returns : goal.returns
returns c = search run_row
