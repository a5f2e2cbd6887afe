-- `check_node` meets its contract: a node that fits, and one that does not (FitLaws).
use Rattle.rules.proofs.FitLaws.{fit_laws}
use Rattle.rules.proofs.node_check.check_node.Goals as goal

pub returns-then-node_fits : goal.returns-then-node_fits
returns-then-node_fits c = search fit_laws
