-- `copy` meets its contract (LayLaws, `copying_more`, `copying_done`). The invariant: the words before i are there.
use Prim.Native.Nat.{◌-◌}
use Rattle.lent.proofs.LayLaws.{Copying}
use Rattle.lent.proofs.copy.Given as goal

abbrev pub invariant-loop-i : goal.invariant-loop-i
invariant-loop-i l = Copying l.words l.n l.initial.lent l.i l.lent

abbrev pub decreases-loop-i : goal.decreases-loop-i
decreases-loop-i l = l.n - l.i
