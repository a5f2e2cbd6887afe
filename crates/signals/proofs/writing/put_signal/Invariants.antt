-- `put_signal`: the digits of the states passed lie in the text (WritingLaws: writing_laws).
use Rattle.signals.proofs.WritingLaws.{Writing}
use Rattle.signals.proofs.writing.put_signal.Given as goal

abbrev pub invariant-loop-k : goal.invariant-loop-k
invariant-loop-k l = Writing l.states l.place l.at l.initial.text l.text l.k
