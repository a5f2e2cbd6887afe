-- `node_fits` meets its contract: its tests are those of the definition.
use Rattle.std.proofs.Common.{rules}
use Rattle.rules.specs.Fits.{node_fits}
use Rattle.rules.proofs.node_check.node_fits.Goals as goal

pub returns : goal.returns
unfolding node_fits
returns c = search rules
