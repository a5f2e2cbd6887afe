-- `all_fit` meets its contract (TableLaws, `fit_next`). The invariant: where all so far fit, what is left to test is the answer.
use Prim.Native.Nat.{◌-◌}
use Rattle.rules.proofs.TableLaws.{Fitting}
use Rattle.rules.proofs.table_check.all_fit.Given as goal

abbrev pub invariant-loop-i : goal.invariant-loop-i
invariant-loop-i l = Fitting l.rewritten l.count l.nodes l.fit l.i

abbrev pub decreases-loop-i : goal.decreases-loop-i
decreases-loop-i l = l.count - l.i
