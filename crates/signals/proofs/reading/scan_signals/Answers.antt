-- `scan_signals`: what is left to read and to lay (ScanningLaws: scan_laws).
use Rattle.std.proofs.Common.{rules}
use Rattle.signals.proofs.ScanningLaws.{scan_laws, signals_next}
use Rattle.signals.proofs.reading.scan_signals.Goals as goal

pub lay_next-requires : goal.lay_next-requires
lay_next-requires c = search scan_laws

pub returns-in-Err : goal.returns-in-Err
returns-in-Err c = search scan_laws

pub loop-j-preserved : goal.loop-j-preserved
loop-j-preserved c =
    let a = c.args in
    let l = c.loop-j in
    signals_next a.controllers a.count a.start a.text.now a.states.now l.states l.at l.j l.invariant c.requires c.loop-j-test.true c.first_line-line.result
    c.first_line-line.ensures c.lay_next.new.states c.in_default.ensures (search rules)

pub returns-then-at-text : goal.returns-then-at-text
returns-then-at-text c = search scan_laws

pub returns : goal.returns
returns c = search scan_laws
