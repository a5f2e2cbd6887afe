-- `check_table` meets its contract: the count, the nodes, then the tops (TableLaws).
use Rattle.definitions.specs.Tables.{table_refusal, tops_refusal}
use Rattle.rules.proofs.TableLaws.{table_laws}
use Rattle.rules.proofs.table_check.check_table.Goals as goal

pub returns-in_err-unless : goal.returns-in_err-unless
unfolding table_refusal
returns-in_err-unless c = search table_laws

pub check_nodes-requires : goal.check_nodes-requires
check_nodes-requires c = search table_laws

pub returns-in_err-check_nodes : goal.returns-in_err-check_nodes
unfolding table_refusal
returns-in_err-check_nodes c = search table_laws

pub returns : goal.returns
unfolding table_refusal tops_refusal
returns c = search table_laws
