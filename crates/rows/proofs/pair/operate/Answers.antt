-- `operate` meets its contract: one law for each kind (PairLaws, `not_pair` to `since_pair`).
use Rattle.rows.proofs.PairLaws.{not_pair, or_pair, next_pair, prev_pair, since_pair}
use Rattle.rows.proofs.pair.operate.Goals as goal

pub returns-in-Not : goal.returns-in-Not
returns-in-Not c = rw c.in-Not.is (search not_pair)

pub returns-in-Or : goal.returns-in-Or
returns-in-Or c = rw c.in-Or.is (search or_pair)

pub returns-in-Next : goal.returns-in-Next
returns-in-Next c = rw c.in-Next.is (search next_pair)

pub returns-in-Prev : goal.returns-in-Prev
returns-in-Prev c = rw c.in-Prev.is (search prev_pair)

pub returns-in-Since : goal.returns-in-Since
returns-in-Since c = rw c.in-Since.is (search since_pair)
