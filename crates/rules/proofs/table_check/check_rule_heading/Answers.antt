-- `check_rule_heading` meets its contract: the definition, test by test.
use Rattle.std.proofs.Common.{rules}
use Rattle.definitions.specs.Tables.{rule_heading_refusal}
use Rattle.rules.proofs.table_check.check_rule_heading.Goals as goal

pub returns : goal.returns
unfolding rule_heading_refusal
returns c = search rules
