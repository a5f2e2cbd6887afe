-- `lay`: the bytes passed are in the states, and the rest of the states is as it was (LayingLaws: lay_laws).
use Rattle.signals.proofs.LayingLaws.{Laying}
use Rattle.signals.proofs.reading.lay.Given as goal

abbrev pub invariant-loop-k : goal.invariant-loop-k
invariant-loop-k l = Laying l.s l.weight l.initial.states l.states l.k
