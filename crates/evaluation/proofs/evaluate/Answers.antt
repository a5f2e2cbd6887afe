-- `evaluate` meets its contract (EvaluateLaws, `evaluated_none`, `evaluated_more`).
use Rattle.evaluation.proofs.EvaluateLaws.{evaluated_none, evaluated_more}
use Rattle.evaluation.proofs.evaluate.Goals as goal

pub loop-i-init : goal.loop-i-init
loop-i-init c = search evaluated_none

pub loop-i-preserved : goal.loop-i-preserved
loop-i-preserved c = search evaluated_more
