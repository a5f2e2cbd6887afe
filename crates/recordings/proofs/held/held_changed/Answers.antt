-- `held_changed` meets its contract: the atoms that differ, by the definition.
use Rattle.std.proofs.Common.{rules}
use Rattle.recordings.specs.Held.{held_changed}
use Rattle.recordings.proofs.held.held_changed.Goals as goal

pub returns : goal.returns
unfolding held_changed
returns c = search rules
