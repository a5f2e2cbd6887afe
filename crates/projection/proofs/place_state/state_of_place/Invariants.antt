-- `state_of_place` meets its contract (StateLaws: state_laws).
use Rattle.projection.proofs.StateLaws.{Counted}
use Rattle.projection.proofs.place_state.state_of_place.Given as goal

abbrev pub invariant-loop-s : goal.invariant-loop-s
invariant-loop-s l = Counted l.count l.c l.k l.states l.here l.after l.s
