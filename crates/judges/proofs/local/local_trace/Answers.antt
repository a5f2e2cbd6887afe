-- `local_trace` meets its contract (LocalLaws: trace_laws).
use Rattle.judges.proofs.LocalLaws.{trace_laws}
use Rattle.judges.proofs.local.local_trace.Goals as goal

pub project_counted-count-requires : goal.project_counted-count-requires
project_counted-count-requires c = search trace_laws

pub returns : goal.returns
returns c = search trace_laws
