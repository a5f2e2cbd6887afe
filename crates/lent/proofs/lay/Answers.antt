-- `lay` meets its contract (LayLaws, `lay_is`).
use Rattle.lent.proofs.LayLaws.{lay_laws}
use Rattle.lent.proofs.lay.Goals as goal

pub returns : goal.returns
returns c = search lay_laws
