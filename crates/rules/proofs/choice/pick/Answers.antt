-- `pick` meets its contract: one return for each answer of the test (ChoiceLaws, `pick_yes`, `pick_no`).
use Rattle.rules.proofs.ChoiceLaws.{choices}
use Rattle.rules.proofs.choice.pick.Goals as goal

pub returns-then-test : goal.returns-then-test
returns-then-test g c = search choices

pub returns : goal.returns
returns g c = search choices
