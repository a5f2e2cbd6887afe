-- `Row::with_last` meets its contract: its last mark is cut off, then put (RowLaws, `last_made`).
use Rattle.rows.proofs.RowLaws.{last_made}
use Rattle.rows.proofs.Row.with_last.Goals as goal

pub returns : goal.returns
returns c = search last_made
