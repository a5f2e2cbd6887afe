-- `wanted_places` meets its contract (AcceptedLaws: wanted_laws).
use Rattle.evidence.proofs.AcceptedLaws.{wanted_laws}
use Rattle.evidence.proofs.accepted.wanted_places.Goals as goal

pub walk-requires : goal.walk-requires
walk-requires c = search wanted_laws

pub returns : goal.returns
returns c = search wanted_laws
