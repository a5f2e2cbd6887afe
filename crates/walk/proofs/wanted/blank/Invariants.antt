-- `blank` meets its contract (WantedLaws, `blank_none`, `blank_more`, `blank_done`).
use Rattle.walk.proofs.WantedLaws.{Blanking}
use Rattle.walk.proofs.wanted.blank.Given as goal

abbrev pub invariant-loop-j : goal.invariant-loop-j
invariant-loop-j l = Blanking l.n l.count l.initial.wanted l.j l.wanted
