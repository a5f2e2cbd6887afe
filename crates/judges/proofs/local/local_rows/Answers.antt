-- `local_rows` meets its contract (LocalLaws: rows_laws).
use Rattle.judges.proofs.LocalLaws.{rows_laws}
use Rattle.judges.proofs.local.local_rows.Goals as goal

pub evaluate-requires : goal.evaluate-requires
evaluate-requires c = search rows_laws

pub returns : goal.returns
returns c = search rows_laws
