-- `Row::not` meets its contract: against the full row (RowLaws, `not_made`).
use Rattle.rows.proofs.RowLaws.{not_made}
use Rattle.rows.proofs.Row.not.Goals as goal

pub returns : goal.returns
returns c = search not_made
