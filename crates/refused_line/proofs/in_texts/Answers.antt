-- `in_texts` meets its contract (FindLaws).
use Rattle.refused_line.proofs.FindLaws.{accepted_none, rule_start, rule_line, recording_start, recording_line}
use Rattle.refused_line.proofs.in_texts.Goals as goal

pub returns-then-is_ok : goal.returns-then-is_ok
returns-then-is_ok c = accepted_none c.args.rule.now c.args.recording.now _ _ _ c.join-found.result c.join-found.ensures c.is_ok.result c.is_ok.ensures.value c.if-is_ok.true

pub line_number-requires : goal.line_number-requires
line_number-requires c =
    rule_start c.args.rule.now c.args.recording.now _ _ _ c.join-found.result c.join-found.ensures c.is_ok.result c.is_ok.ensures.value c.if-is_ok.false c.requires c.in-Rule.is

pub line_number-requires-in-Recording : goal.line_number-requires-in-Recording
line_number-requires-in-Recording c =
    recording_start c.args.rule.now c.args.recording.now _ _ _ c.join-found.result c.join-found.ensures c.is_ok.result c.is_ok.ensures.value c.if-is_ok.false c.requires c.in-Recording.is

pub returns-in-Rule : goal.returns-in-Rule
returns-in-Rule c =
    rule_line c.args.rule.now c.args.recording.now _ _ _ c.join-found.result c.join-found.ensures c.is_ok.result c.is_ok.ensures.value c.if-is_ok.false c.requires c.in-Rule.is
    c.line_number.result c.line_number.ensures

pub returns-in-Recording : goal.returns-in-Recording
returns-in-Recording c =
    recording_line c.args.rule.now c.args.recording.now _ _ _ c.join-found.result c.join-found.ensures c.is_ok.result c.is_ok.ensures.value c.if-is_ok.false c.requires c.in-Recording.is
    c.line_number-in-Recording.result c.line_number-in-Recording.ensures
