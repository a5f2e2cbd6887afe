-- `read_rule` meets its contract (ReadLaws).
use Rattle.std.proofs.Common.{rules}
use Rattle.lines.proofs.StopLaws.{place_dropped}
use Rattle.lines.specs.declared.CutShort.{CutShort}
use Rattle.rules.specs.declared.rule.RuleHeading.{RuleHeading}
use Rattle.rule_reader.proofs.ReadLaws.{kept_is, read_short, read_done}
use Rattle.rule_reader.proofs.read_rule.Goals as goal

pub returns-then-nodes-lt-RULE_NODES : goal.returns-then-nodes-lt-RULE_NODES
returns-then-nodes-lt-RULE_NODES c = search read_short

pub returns : goal.returns
returns c =
    read_done _ _ _ _ c.if-nodes-lt-RULE_NODES.false _ c.scan_rule-read.ensures _ (kept_is _ _ _ c.map_or-kept.ensures (λ h q. search rules)) c.clear.ensures _
    (place_dropped (λ (cut : CutShort RuleHeading). cut.stop.refusal) _ _ _ c.map_err.ensures.cases (λ s e q. search rules))
