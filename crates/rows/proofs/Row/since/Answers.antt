-- `Row::since` meets its contract: the low word carries into the high (RowLaws, `since_made`).
use Rattle.rows.proofs.RowLaws.{since_made}
use Rattle.rows.proofs.Row.since.Goals as goal

pub returns : goal.returns
returns c = search since_made
