-- `Tables::at` meets its contract (HeldLaws, `at_few`, `at_many`).
use Rattle.recordings.proofs.HeldLaws.{at_few, at_many}
use Rattle.recordings.proofs.held.Tables.at.Goals as goal

pub returns-then-controllers-le-TWO_TABLES : goal.returns-then-controllers-le-TWO_TABLES
returns-then-controllers-le-TWO_TABLES c = search at_few

pub returns : goal.returns
returns c = search at_many
