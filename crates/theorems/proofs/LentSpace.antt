-- What an operation answers and what it leaves in lent space, by its number.
use mathlib.Core.Path.{◌≡◌, refl}
use Prim.Native.Nat.{ℕ, ◌-◌}
use mathlib.Core.List.{List, [], ◌++◌}
use lib.ListN.{length, drop, replicate}
use borrow.Author.Tests.{ne_eqb}
use Rattle.definitions.specs.Limits.{lent_short}
use Rattle.definitions.specs.Bounded.{pick}
use Rattle.definitions.specs.Operations.{answer, left}

-- a refusal carries its number alone
pub refused_answer : (number : ℕ) (values : List ℕ) → (number ≡ 0 → ⊥) → record { number = number; values = [] } ≡ answer number values
unfolding answer pick
refused_answer number values z = rw (ne_eqb number 0 z)

-- accepted, an answer carries its values
pub accepted_answer : (number : ℕ) (values : List ℕ) → number ≡ 0 → record { number = 0; values = values } ≡ answer number values
unfolding answer pick
accepted_answer number values z = rw z

-- after 13 it is untouched
pub left_short : (full : ℕ) (content entry : List ℕ) → left lent_short full content entry ≡ entry
unfolding left pick
left_short full content entry = refl

-- accepted, it holds the content, then zeros, then what it had
pub left_accepted : (full : ℕ) (content entry : List ℕ) → left 0 full content entry ≡ content ++ (replicate (full - length content) 0 ++ drop full entry)
unfolding left pick
left_accepted full content entry = refl

-- after another refusal its full size is zero
pub left_refused : (number full : ℕ) (content entry : List ℕ) → (number ≡ 0 → ⊥) → (number ≡ lent_short → ⊥) →
    left number full content entry ≡ replicate full 0 ++ drop full entry
unfolding left pick
left_refused number full content entry n l = rw (ne_eqb number lent_short l, ne_eqb number 0 n)
