-- `unless` meets its contract: one return for each answer of the test (ChoiceLaws, `pick_yes`, `pick_no`).
use Rattle.rules.proofs.ChoiceLaws.{choices}
use Rattle.rules.proofs.refusal.unless.Goals as goal

pub returns-then-holds : goal.returns-then-holds
returns-then-holds c = search choices

pub returns : goal.returns
returns c = search choices
