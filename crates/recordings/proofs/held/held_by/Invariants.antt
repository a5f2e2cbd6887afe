-- `held_by` meets its contract (HeldLaws, `by_next`, `by_end`).
use Rattle.recordings.proofs.HeldLaws.{HeldLeft}
use Rattle.recordings.proofs.held.held_by.Given as goal

abbrev pub invariant-loop-c : goal.invariant-loop-c
invariant-loop-c l = HeldLeft l.controllers l.masks l.marks l.held l.c
