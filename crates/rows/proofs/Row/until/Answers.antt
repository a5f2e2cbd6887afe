-- `Row::until` meets its contract: the ending enters at the last place, the high word at the end of the low (RowLaws, `until_made`).
use Rattle.rows.proofs.RowLaws.{until_made}
use Rattle.rows.proofs.Row.until.Goals as goal

pub returns : goal.returns
returns c = search until_made
