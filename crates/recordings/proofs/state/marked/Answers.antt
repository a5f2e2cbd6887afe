-- `marked` meets its contract (WordLaws, `marked_shifted`).
use Rattle.recordings.proofs.WordLaws.{marked_shifted}
use Rattle.recordings.proofs.state.marked.Goals as goal

pub returns : goal.returns
returns c = search marked_shifted
