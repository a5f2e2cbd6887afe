-- `check_states` meets its contract (CheckLaws, `states_next`).
use Rattle.recordings.proofs.CheckLaws.{StatesLeft}
use Rattle.recordings.proofs.check.check_states.Given as goal

abbrev pub invariant-loop-state : goal.invariant-loop-state
invariant-loop-state l = StatesLeft l.controllers l.masks l.state-items l.prior l.held l.state-index
