-- `Row::next` meets its contract: the row one place on, and the ending at its last place (RowLaws, `next_made`).
use Rattle.rows.proofs.RowLaws.{moved_whole, next_made}
use Rattle.rows.proofs.Row.next.Goals as goal

pub or-requires : goal.or-requires
or-requires c = search moved_whole

pub returns : goal.returns
returns c = search next_made
