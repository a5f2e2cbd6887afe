-- `project_counted` meets its contract (PlaceLaws, `into_counted`, `into_laid`).
use Rattle.projection.proofs.PlaceLaws.{counted_laws}
use Rattle.projection.proofs.places.project_counted.Goals as goal

pub returns : goal.returns
returns c = search counted_laws
