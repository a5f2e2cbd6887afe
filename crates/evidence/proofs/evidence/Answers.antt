-- `evidence` meets its contract (EvidenceLaws: evidence_laws).
use Rattle.evidence.proofs.EvidenceLaws.{evidence_laws}
use Rattle.evidence.proofs.evidence.Goals as goal

pub returns-then-pairs-lt-PAIRS : goal.returns-then-pairs-lt-PAIRS
returns-then-pairs-lt-PAIRS c = search evidence_laws

pub returns-in-Err : goal.returns-in-Err
returns-in-Err c = search (evidence_laws, c.in-Err.ensures)

pub local_trace-trace-requires : goal.local_trace-trace-requires
local_trace-trace-requires c = search (evidence_laws, c.in_default.ensures)

pub evidence_accepted-explained-requires : goal.evidence_accepted-explained-requires
evidence_accepted-explained-requires c = search (evidence_laws, c.in_default.ensures)

pub returns : goal.returns
returns c = search (evidence_laws, c.in_default.ensures)
