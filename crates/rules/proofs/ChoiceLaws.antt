-- Choice by a test, as the code of `pick` has it.
use Rattle.std.proofs.Common.{rules, Bool, true, false, ◌≡◌}
use Rattle.definitions.specs.Bounded.{pick}

-- `pick`, the test holds: `pick` is the first value
pub pick_yes : {A : Type 0} (z : Bool) (a b : A) → z ≡ true → a ≡ pick z a b
unfolding pick
pick_yes z a b e = rw e

-- `pick`, the test fails: `pick` is the second value
pub pick_no : {A : Type 0} (z : Bool) (a b : A) → z ≡ false → b ≡ pick z a b
unfolding pick
pick_no z a b e = rw e

pub ruleset choices = (rules, pick_yes, pick_no)
