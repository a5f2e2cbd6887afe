-- `lay_place` meets its contract (LayLaws, `place_none`, `place_more`, `place_done`).
use Rattle.evidence.proofs.LayLaws.{lay_laws}
use Rattle.evidence.proofs.pairs.lay_place.Goals as goal

pub overflow_add-end : goal.overflow_add-end
overflow_add-end c = search lay_laws

pub loop-j-preserved : goal.loop-j-preserved
loop-j-preserved c = search lay_laws

pub returns : goal.returns
returns c = search lay_laws
