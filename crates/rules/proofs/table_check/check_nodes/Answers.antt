-- `check_nodes` meets its contract: where all nodes fit, nothing refuses them (TableLaws, `all_fit`).
use Rattle.rules.proofs.TableLaws.{all_fit}
use Rattle.rules.proofs.table_check.check_nodes.Goals as goal

pub returns-then-all_fit : goal.returns-then-all_fit
returns-then-all_fit c = search all_fit
