-- `clear` meets its contract. The invariant: the entries before this one are zero.
use Rattle.std.proofs.Common.{◌≡◌, take, replicate}
use Rattle.lent.proofs.clear.Given as goal

abbrev pub invariant-loop-entry : goal.invariant-loop-entry
invariant-loop-entry g l = take l.entry-index l.entry-items ≡ replicate l.entry-index g.T.Zero.ZERO
