-- `is_own` meets its contract: a shift and a remainder are a bit.
use Rattle.std.proofs.Common.{rules}
use Rattle.definitions.specs.Bounded.{bit_of}
use Rattle.recordings.proofs.masks.is_own.Goals as goal

pub returns : goal.returns
unfolding bit_of
returns c = search rules
