-- `untils` meets its contract (PairLaws, `untils_made`).
use Rattle.rows.proofs.PairLaws.{untils_made}
use Rattle.rows.proofs.pair.untils.Goals as goal

pub returns : goal.returns
returns c = search untils_made
