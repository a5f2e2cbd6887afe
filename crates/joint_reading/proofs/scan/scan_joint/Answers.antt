-- `scan_joint` meets its contract: one law for each return (ScanLaws).
use Rattle.joint_reading.proofs.ScanLaws.{rule_refused, recording_refused, joining_refused, joint_accepted}
use Rattle.joint_reading.proofs.scan.scan_joint.Goals as goal

pub returns-in-Err : goal.returns-in-Err
returns-in-Err c =
    let a = c.args in
    rule_refused a.rule.now a.recording.now a.nodes.now a.masks.now a.states.now c.scan_rule.new.nodes c.scan_rule.ensures.nodes_past c.in-Err.cut c.in-Err.ensures.ended
    c.refused_at.result c.refused_at.ensures

pub returns-in-Err-scan_recording : goal.returns-in-Err-scan_recording
returns-in-Err-scan_recording c =
    let a = c.args in
    let s = c.scan_recording in
    recording_refused a.rule.now a.recording.now a.nodes.now a.masks.now a.states.now c.scan_rule.new.nodes c.scan_rule.ensures.nodes_past c.scan_rule.ensures.nodes_laid
    c.in-Ok.heading c.in-Ok.ensures.ended s.new.masks s.new.states s.ensures.masks_past s.ensures.states_past c.in-Err-scan_recording.cut c.in-Err-scan_recording.ensures.ended
    c.refused_at-in-Err-scan_recording.result c.refused_at-in-Err-scan_recording.ensures

pub returns-then-recorded-ruled : goal.returns-then-recorded-ruled
returns-then-recorded-ruled c =
    let a = c.args in
    let s = c.scan_recording in
    joining_refused a.rule.now a.recording.now a.nodes.now a.masks.now a.states.now c.scan_rule.new.nodes c.scan_rule.ensures.nodes_past c.scan_rule.ensures.nodes_laid
    c.in-Ok.heading c.in-Ok.ensures.ended s.new.masks s.new.states s.ensures.masks_past s.ensures.states_past s.ensures.states_laid c.in-Ok-scan_recording.heading c.in-Ok-scan_recording.ensures.ended
    c.refused_at-then-recorded-ruled.result c.if-recorded-ruled.true c.refused_at-then-recorded-ruled.ensures

pub returns : goal.returns
returns c =
    let a = c.args in
    let s = c.scan_recording in
    joint_accepted a.rule.now a.recording.now a.nodes.now a.masks.now a.states.now c.scan_rule.new.nodes c.scan_rule.ensures.nodes_past c.scan_rule.ensures.nodes_laid
    c.in-Ok.heading c.in-Ok.ensures.ended s.new.masks s.new.states s.ensures.masks_past s.ensures.states_past s.ensures.states_laid c.in-Ok-scan_recording.heading c.in-Ok-scan_recording.ensures.ended
    c.if-recorded-ruled.false
