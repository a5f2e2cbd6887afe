-- `scan_states` meets its contract (LoopLaws). The invariant: the first k states are read, and `prior` is the last of them.
use Rattle.gauges.specs.Held.{gauges_in}
use Rattle.recording_reader.proofs.LoopLaws.{StatesLeft}
use Rattle.recording_reader.proofs.scan.scan_states.Given as goal

abbrev pub invariant-loop-k : goal.invariant-loop-k
invariant-loop-k l = StatesLeft l.heading l.masks (gauges_in l.fn.gauges) l.fn.gauges.at l.text l.initial.states l.states l.at l.prior l.k
