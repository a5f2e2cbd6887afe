-- `lay_pairs` meets its contract (LayLaws, `lay_done`).
use Rattle.evidence.proofs.LayLaws.{lay_laws}
use Rattle.evidence.proofs.pairs.lay_pairs.Goals as goal

pub returns : goal.returns
returns c = search lay_laws
