-- `at_tops` meets its contract (TopLaws, `tops_read`).
use Rattle.judges.proofs.TopLaws.{top_laws}
use Rattle.judges.proofs.verdicts.at_tops.Goals as goal

pub returns : goal.returns
returns c = search top_laws
