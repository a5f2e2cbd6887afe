-- `rule_length` meets its contract (SplitLaws: search_laws, searched_none, searched_open, searched_found, searched_less, searched_next, searched_end).
use Prim.Native.Nat.{◌-◌}
use lib.ListN.{length}
use Rattle.program_input.proofs.SplitLaws.{Searched}
use Rattle.program_input.proofs.rule_length.Given as goal

abbrev pub invariant-loop-at : goal.invariant-loop-at
invariant-loop-at l = Searched l.input l.at

abbrev pub decreases-loop-at : goal.decreases-loop-at
decreases-loop-at l = length l.input - l.at
