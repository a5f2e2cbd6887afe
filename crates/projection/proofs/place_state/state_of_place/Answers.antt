-- `state_of_place` meets its contract (StateLaws: state_laws).
use Rattle.projection.proofs.StateLaws.{state_laws}
use Rattle.projection.proofs.place_state.state_of_place.Goals as goal

pub returns-then-ran-here : goal.returns-then-ran-here
returns-then-ran-here c = search state_laws

pub overflow_add-here : goal.overflow_add-here
overflow_add-here c = search state_laws

pub loop-s-preserved : goal.loop-s-preserved
loop-s-preserved c = search state_laws

pub returns : goal.returns
returns c = search state_laws
