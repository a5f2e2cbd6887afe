-- `Row::high` meets its contract: of a whole row (PackedLaws).
use Rattle.rows.proofs.PackedLaws.{packed_laws}
use Rattle.rows.proofs.Row.high.Goals as goal

pub returns : goal.returns
returns c = search packed_laws
