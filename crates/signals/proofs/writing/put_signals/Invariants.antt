-- `put_signals`: the lines of the signals passed lie in the text (WritingLaws: put_signals_laws).
use Rattle.signals.proofs.WritingLaws.{SignalsLined}
use Rattle.signals.proofs.writing.put_signals.Given as goal

abbrev pub invariant-loop-j : goal.invariant-loop-j
invariant-loop-j l = SignalsLined l.controllers l.states l.initial.text l.start l.text l.at l.j
