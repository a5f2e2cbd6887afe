-- `lay_block` meets its contract (LayLaws, `lay_laws`).
use Rattle.images.proofs.LayLaws.{lay_laws}
use Rattle.images.proofs.lay.lay_block.Goals as goal

pub loop-i-init : goal.loop-i-init
loop-i-init c = search lay_laws

pub made-requires : goal.made-requires
made-requires c = search lay_laws

pub loop-i-preserved : goal.loop-i-preserved
loop-i-preserved c = search lay_laws

pub returns-clause-laid : goal.returns-clause-laid
returns-clause-laid c = search lay_laws
