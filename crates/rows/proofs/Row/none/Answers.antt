-- `Row::none` meets its contract: no mark, not even the last (PackedLaws).
use Rattle.rows.proofs.PackedLaws.{packed_laws}
use Rattle.rows.proofs.Row.none.Goals as goal

pub returns : goal.returns
returns c = search packed_laws
