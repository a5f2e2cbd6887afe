-- `evidence_accepted` meets its contract (AcceptedLaws: accepted_laws).
use Rattle.evidence.proofs.AcceptedLaws.{accepted_laws}
use Rattle.evidence.proofs.accepted.evidence_accepted.Goals as goal

pub lay_pairs-count-requires : goal.lay_pairs-count-requires
lay_pairs-count-requires c = search accepted_laws

pub returns : goal.returns
returns c = search accepted_laws
