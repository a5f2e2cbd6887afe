-- `Pass::close` meets its contract: the last place is laid after the others (PassLaws, `closed`).
use Rattle.projection.proofs.PassLaws.{closed}
use Rattle.projection.proofs.pass.Pass.close.Goals as goal

pub returns : goal.returns
returns c = search closed
