-- `check_each` meets its contract (TableLaws, `node_laws`).
use Rattle.rules.proofs.TableLaws.{node_laws}
use Rattle.rules.proofs.table_check.check_each.Goals as goal

pub returns-then-nodes-i : goal.returns-then-nodes-i
returns-then-nodes-i c = search node_laws

pub returns-in_err-check_node : goal.returns-in_err-check_node
returns-in_err-check_node c = search node_laws

pub loop-i-preserved : goal.loop-i-preserved
loop-i-preserved c = search node_laws

pub returns : goal.returns
returns c = search node_laws
