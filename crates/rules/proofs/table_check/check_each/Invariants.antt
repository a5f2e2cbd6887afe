-- `check_each` meets its contract (TableLaws, `node_laws`). The invariant: what is left to test at node i is the answer.
use Prim.Native.Nat.{◌-◌}
use Rattle.rules.proofs.TableLaws.{Left}
use Rattle.rules.proofs.table_check.check_each.Given as goal

abbrev pub invariant-loop-i : goal.invariant-loop-i
invariant-loop-i l = Left l.rewritten l.count l.nodes l.i

abbrev pub decreases-loop-i : goal.decreases-loop-i
decreases-loop-i l = l.count - l.i
