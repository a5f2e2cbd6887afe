-- `under` meets its contract (TakenLaws, `under_not`, `under_other`).
use Rattle.std.proofs.Common.{rules}
use Rattle.walk.proofs.TakenLaws.{under_not, under_other}
use Rattle.walk.proofs.taken.under.Goals as goal

pub returns-then-eq : goal.returns-then-eq
returns-then-eq c = search (rules, under_not)

pub returns : goal.returns
returns c = search (rules, under_other)
