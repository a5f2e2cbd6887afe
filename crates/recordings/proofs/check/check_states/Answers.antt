-- `check_states` meets its contract (CheckLaws, `states_next`).
use Rattle.std.proofs.Common.{arith}
use Rattle.recordings.proofs.CheckLaws.{states_end, states_next, state_laws}
use Rattle.recordings.proofs.check.check_states.Goals as goal

pub loop-state-init : goal.loop-state-init
loop-state-init c = search state_laws

pub returns-in_err-check_step : goal.returns-in_err-check_step
returns-in_err-check_step c = search state_laws

pub loop-state-preserved : goal.loop-state-preserved
loop-state-preserved c =
    states_next _ _ _ _ _ _ c.loop-state.invariant (omega arith) _ _ c.state_limit-limit.ensures c.held_changed.ensures c.in_ok-check_step.ensures
    c.requires _ c.new-tables.ensures _ _ c.marks_of.ensures c.at-held.ensures

pub returns : goal.returns
returns c = rw (← c.counted-state-items.ensures) (states_end _ _ _ _ _ _ c.loop-state.invariant (omega arith))
