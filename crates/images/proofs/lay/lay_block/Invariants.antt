-- `lay_block` meets its contract (LayLaws, `lay_laws`). The invariant: what is laid by now, and what is left.
use Rattle.images.proofs.LayLaws.{Laying}
use Rattle.images.proofs.lay.lay_block.Given as goal

abbrev pub invariant-loop-i : goal.invariant-loop-i
invariant-loop-i l = Laying l.initial.named l.at l.rows l.i l.initial.table l.table l.named
