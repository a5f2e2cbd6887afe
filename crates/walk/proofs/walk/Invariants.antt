-- `walk` meets its contract (WalkLaws, `walk_start`, `walk_more`, `walk_done`).
use Rattle.walk.proofs.WalkLaws.{Walking}
use Rattle.walk.proofs.walk.Given as goal

abbrev pub invariant-loop-m : goal.invariant-loop-m
invariant-loop-m l = Walking l.nodes l.count l.n l.rows l.weak l.initial.wanted l.m l.wanted
