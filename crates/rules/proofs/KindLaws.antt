-- The kind of a number above every known one.
use Rattle.std.proofs.Common.{ℕ, ◌<◌, ◌≡◌}
use native.Mathlib.Omega.{arith}
use borrow.Author.Tests.{ne_eqb}
use Rattle.definitions.specs.Bounded.{pick}
use Rattle.definitions.specs.Nodes.{Unknown, kind_of}

-- `Kind::from`, any other number: it is an unknown kind
pub unknown_kind_lem : (k : ℕ) → 9 < k → Unknown ≡ kind_of k
unfolding kind_of pick
unknown_kind_lem k h =
    rw (
      ne_eqb k 0 (λ e. omega arith),
      ne_eqb k 1 (λ e. omega arith),
      ne_eqb k 2 (λ e. omega arith),
      ne_eqb k 3 (λ e. omega arith),
      ne_eqb k 4 (λ e. omega arith),
      ne_eqb k 5 (λ e. omega arith),
      ne_eqb k 6 (λ e. omega arith),
      ne_eqb k 7 (λ e. omega arith),
      ne_eqb k 8 (λ e. omega arith),
      ne_eqb k 9 (λ e. omega arith),
    )
