-- `Row::prev` meets its contract: the low word carries into the high, and the full row cuts (RowLaws, `prev_made`).
use Rattle.rows.proofs.RowLaws.{prev_made}
use Rattle.rows.proofs.Row.prev.Goals as goal

pub returns : goal.returns
returns c = search prev_made
