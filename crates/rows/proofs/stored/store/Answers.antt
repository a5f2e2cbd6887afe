-- `store` meets its contract: three words are set one after the other (StoredLaws, `stored`).
use Rattle.rows.proofs.StoredLaws.{stored}
use Rattle.rows.proofs.stored.store.Goals as goal

pub returns : goal.returns
returns c = search stored
