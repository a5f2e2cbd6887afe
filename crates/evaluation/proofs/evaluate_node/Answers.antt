-- `evaluate_node` meets its contract (EvaluateLaws, `turn_laid`).
use Rattle.evaluation.proofs.EvaluateLaws.{turn_laid}
use Rattle.evaluation.proofs.evaluate_node.Goals as goal

pub returns : goal.returns
returns c = search turn_laid
