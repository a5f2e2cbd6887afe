-- `chosen` meets its contract (WantedLaws, `chosen_weak`, `chosen_strong`).
use Rattle.walk.proofs.WantedLaws.{chosen_weak, chosen_strong}
use Rattle.walk.proofs.wanted.chosen.Goals as goal

pub returns-then-weak : goal.returns-then-weak
returns-then-weak c = search chosen_weak

pub returns : goal.returns
returns c = search chosen_strong
