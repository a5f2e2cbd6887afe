-- `take` meets its contract (TakenLaws, `taken_made`).
use Rattle.walk.proofs.TakenLaws.{taken_made}
use Rattle.walk.proofs.taken.take.Goals as goal

pub returns : goal.returns
returns c =
    let o = c.args.operator in
    taken_made o.wanted o.own o.first o.second c.requires.1 _ _ _
    (rw c.weak.ensures at c.step_of-weak.ensures) (rw c.strong.ensures at c.step_of-strong.ensures) _ _ c.under.ensures c.under-2.ensures
