-- `Row::total` meets its contract: the ones of its two words (PackedLaws).
use Rattle.rows.proofs.PackedLaws.{packed_laws}
use Rattle.rows.proofs.Row.total.Goals as goal

pub returns : goal.returns
returns c = search packed_laws
