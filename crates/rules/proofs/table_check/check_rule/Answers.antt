-- `check_rule` meets its contract: the heading, then the nodes (TableLaws).
use Rattle.definitions.specs.Tables.{rule_refusal}
use Rattle.rules.proofs.TableLaws.{table_laws}
use Rattle.rules.proofs.table_check.check_rule.Goals as goal

pub returns-in_err-check_rule_heading : goal.returns-in_err-check_rule_heading
unfolding rule_refusal
returns-in_err-check_rule_heading c = search table_laws

pub check_nodes-requires : goal.check_nodes-requires
check_nodes-requires c = search table_laws

pub returns : goal.returns
unfolding rule_refusal
returns c = search table_laws
