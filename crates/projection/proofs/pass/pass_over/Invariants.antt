-- `pass_over` meets its contract: the invariant says what is held of each beginning (PassLaws, `passing_next`, `passing_end`).
use Prim.Native.Nat.{◌+◌}
use Rattle.projection.proofs.PassLaws.{Passing}
use Rattle.projection.proofs.pass.pass_over.Given as goal

abbrev pub invariant-loop-state : goal.invariant-loop-state
invariant-loop-state l = Passing l.count l.mask l.c l.states l.initial.places l.places l.held (l.state-index + 1)
