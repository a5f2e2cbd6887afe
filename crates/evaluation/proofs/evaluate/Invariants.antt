-- `evaluate` meets its contract (EvaluateLaws, `evaluated_none`, `evaluated_more`). The invariant: the rows of the nodes before node i are laid.
use Rattle.evaluation.proofs.EvaluateLaws.{Evaluated}
use Rattle.evaluation.proofs.evaluate.Given as goal

abbrev pub invariant-loop-i : goal.invariant-loop-i
invariant-loop-i l = Evaluated l.nodes l.count l.traced.states.now l.traced.count l.traced.controller l.traced.own l.initial.rows l.i l.rows
