-- What a rule and a table that are handed over mean.
use Rattle.definitions.specs.Tables as table
use Rattle.definitions.specs.Tables.{rule_of, table_of}
use Rattle.rules.specs.declared.rule.Rule.{Rule}
use Rattle.rules.specs.declared.rule.Table.{Table}

abbrev pub rule_in : Rule → table.Rule
rule_in r = rule_of r.controller r.count r.nodes.now

abbrev pub table_in : Table → table.Table
table_in t = table_of t.count t.nodes.now t.weak_top t.strong_top
