-- `check_state` meets its contract (CheckLaws, `state_is`).
use Rattle.recordings.proofs.CheckLaws.{state_laws}
use Rattle.recordings.proofs.check.check_state.Goals as goal

pub returns : goal.returns
returns c = search state_laws
