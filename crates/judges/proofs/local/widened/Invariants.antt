-- `widened` meets its contract: the invariant says that the words before the i-th are there.
use Rattle.std.proofs.Common.{◌≡◌, length, take}
use Rattle.judges.proofs.local.widened.Given as goal

abbrev pub invariant-loop-i : goal.invariant-loop-i
invariant-loop-i l = record { size : length l.states ≡ length l.words; taken : take l.i l.states ≡ take l.i l.words }
