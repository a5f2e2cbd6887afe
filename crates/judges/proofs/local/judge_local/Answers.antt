-- `judge_local` meets its contract (LocalLaws: local_laws).
use Rattle.judges.proofs.LocalLaws.{local_laws}
use Rattle.judges.proofs.local.judge_local.Goals as goal

pub returns-in_err-check_local : goal.returns-in_err-check_local
returns-in_err-check_local c = search local_laws

pub local_trace-trace-requires : goal.local_trace-trace-requires
local_trace-trace-requires c = search local_laws

pub judge_accepted_locally-requires : goal.judge_accepted_locally-requires
judge_accepted_locally-requires c = search local_laws

pub returns : goal.returns
returns c = search local_laws
