-- `line_count` meets its contract (NumberLaws: count_laws, counted_none, counted_less, counted_next, counted_end).
use Prim.Native.Nat.{◌-◌}
use lib.ListN.{length}
use Rattle.refused_line.proofs.NumberLaws.{Counted}
use Rattle.refused_line.proofs.number.line_count.Given as goal

abbrev pub invariant-loop-at : goal.invariant-loop-at
invariant-loop-at l = Counted l.text l.at l.count

abbrev pub decreases-loop-at : goal.decreases-loop-at
decreases-loop-at l = length l.text - l.at
