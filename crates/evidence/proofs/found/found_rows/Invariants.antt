-- `found_rows` meets its contract (FindLaws, `finding_none`, `finding_more`, `finding_done`).
use Rattle.rules.specs.Handed.{rule_in}
use Rattle.evidence.proofs.FindLaws.{Finding}
use Rattle.evidence.proofs.found.found_rows.Given as goal

abbrev pub invariant-loop-j : goal.invariant-loop-j
invariant-loop-j l = Finding (rule_in l.rule) l.trace l.wanted l.initial.found l.j l.found
