-- `scan_signals`: what is left to read and to lay (ScanningLaws: scan_laws).
use Rattle.signals.proofs.ScanningLaws.{SignalsLeft}
use Rattle.signals.proofs.reading.scan_signals.Given as goal

abbrev pub invariant-loop-j : goal.invariant-loop-j
invariant-loop-j l = SignalsLeft l.controllers l.count l.start l.text l.initial.states l.states l.at l.j
