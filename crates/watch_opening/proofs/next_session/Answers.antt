-- `next_session` meets its contract (SessionLines: session_laws).
use Rattle.watch_opening.proofs.SessionLines.{session_laws}
use Rattle.watch_opening.proofs.next_session.Goals as goal

pub returns-in_err-check_end : goal.returns-in_err-check_end
returns-in_err-check_end c = search session_laws

pub slice_bounds-worded_decimal-end : goal.slice_bounds-worded_decimal-end
slice_bounds-worded_decimal-end c = search session_laws

pub returns-in_err-controllers : goal.returns-in_err-controllers
returns-in_err-controllers c = search session_laws

pub returns-in_err-check_controllers : goal.returns-in_err-check_controllers
returns-in_err-check_controllers c = search session_laws

pub returns : goal.returns
returns c = search session_laws
