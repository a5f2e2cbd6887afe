-- `check_mask` meets its contract: the definition, its test turned round.
use Rattle.std.proofs.Common.{rules}
use Rattle.definitions.specs.Bounded.{pick}
use Rattle.recordings.specs.Unions.{union_refusal}
use Rattle.recordings.proofs.masks.check_mask.Goals as goal

pub returns : goal.returns
unfolding union_refusal pick
returns c = search rules
