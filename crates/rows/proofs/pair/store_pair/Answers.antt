-- `store_pair` meets its contract: what two stores leave (PairLaws, `pair_stored`).
use Rattle.rows.proofs.PairLaws.{pair_stored}
use Rattle.rows.proofs.pair.store_pair.Goals as goal

pub returns : goal.returns
returns c = search pair_stored
