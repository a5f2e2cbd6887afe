-- `is_again` meets its contract (EvaluateLaws, `again_tested`, `again_late`).
use Rattle.evaluation.proofs.EvaluateLaws.{again_tested, again_late}
use Rattle.evaluation.proofs.is_again.Goals as goal

pub returns-then-earlier-i : goal.returns-then-earlier-i
returns-then-earlier-i c = search again_tested

pub returns-else-earlier-i : goal.returns-else-earlier-i
returns-else-earlier-i c = search again_late
