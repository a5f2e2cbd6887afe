-- What a since takes, said plainly as `Reached` says it, against the tests of `Evidence`: an until backwards.
use mathlib.Core.Path.{◌≡◌, refl, sym, ◌∙◌}
use Prim.Native.Nat.{ℕ, suc, ◌-◌, ◌≤◌, ◌<◌}
use native.Mathlib.Omega.{arith}
use mathlib.Core.Bool.{Bool, true, false}
use lib.Dec.{leb}
use borrow.Author.Tests.{le-leb, leb-true}
use Rattle.definitions.specs.Readings.{until_at, since_at}
use Rattle.definitions.specs.Evidence.{until_first, until_second, back, since_first, since_second}
use Rattle.theorems.proofs.Choice.{clash, both_true}
use Rattle.theorems.proofs.EvidenceSteps.{since_mirror}
use Rattle.definitions.specs.Reached.{Holds, Fits, FirstFit, FirstFailure, FitsBack, LatestFit, LatestFailure}
use Rattle.theorems.proofs.TakenPlaces.{FirstTaken, before, ending, fails, SecondTaken, fit, up_to, never_fails, first_taken_lem, second_taken_lem, taken_first_lem, taken_second_lem}

-- what a since takes of its first operand
pub data FirstTakenBack (p q : ℕ → Bool) (i k : ℕ) : Type 0 where
  after : (f : ℕ) → since_at p q i ≡ true → LatestFit p q i f → f < k → k ≤ i → FirstTakenBack p q i k
  fails_back : since_at p q i ≡ false → LatestFailure p i k → FirstTakenBack p q i k

-- what it takes of its second operand
pub data SecondTakenBack (p q : ℕ → Bool) (i k : ℕ) : Type 0 where
  fit_back : since_at p q i ≡ true → LatestFit p q i k → SecondTakenBack p q i k
  down_to : (f : ℕ) → since_at p q i ≡ false → LatestFailure p i f → f ≤ k → k ≤ i → SecondTakenBack p q i k
  never_fails_back : since_at p q i ≡ false → Holds p 0 (suc i) → k ≤ i → SecondTakenBack p q i k

module _ (p q : ℕ → Bool) (i : ℕ) where
  -- a place and its mirror image
  twice : (k : ℕ) → k ≤ i → i - (i - k) ≡ k
  twice k l = omega arith

  holds_back : (k : ℕ) → Holds p (suc k) (suc i) → Holds (back i p) 0 (i - k)
  holds_back k h = λ j a b. h (i - j) (omega arith) (omega arith)

  back_holds_lem : (k : ℕ) → Holds (back i p) 0 (i - k) → Holds p (suc k) (suc i)
  back_holds_lem k h = λ j a b. rw (twice j (omega arith)) at (h (i - j) (omega arith) (omega arith))

  fits_back : (k : ℕ) → FitsBack p q i k → Fits (suc i) (back i p) (back i q) 0 (i - k)
  fits_back k F = record {
    not_before = omega arith;
    below = omega arith;
    met = rw (twice k F.not_after) F.met;
    meanwhile = holds_back k F.meanwhile;
  }

  back_fits : (k : ℕ) → k ≤ i → Fits (suc i) (back i p) (back i q) 0 (i - k) → FitsBack p q i k
  back_fits k l F = record { not_after = l; met = rw (twice k l) at F.met; meanwhile = back_holds_lem k F.meanwhile }

  latest_first : (k : ℕ) → LatestFit p q i k → FirstFit (suc i) (back i p) (back i q) 0 (i - k)
  latest_first k F = record {
    fitting = fits_back k F.fitting;
    earliest = λ j b G. F.latest (i - j) (omega arith) (back_fits (i - j) (omega arith) (rw (twice j (omega arith)) G));
  }

  first_latest : (k : ℕ) → k ≤ i → FirstFit (suc i) (back i p) (back i q) 0 (i - k) → LatestFit p q i k
  first_latest k l F = record {
    fitting = back_fits k l F.fitting;
    latest = λ j b G. F.earliest (i - j) (omega (arith, G.not_after)) (fits_back j G);
  }

  latest_failure : (k : ℕ) → LatestFailure p i k → FirstFailure (suc i) (back i p) 0 (i - k)
  latest_failure k F = record {
    not_before = omega arith;
    below = omega arith;
    failed = rw (twice k F.not_after) F.failed;
    meanwhile = holds_back k F.meanwhile;
  }

  failure_latest : (k : ℕ) → k ≤ i → FirstFailure (suc i) (back i p) 0 (i - k) → LatestFailure p i k
  failure_latest k l F = record { not_after = l; failed = rw (twice k l) at F.failed; meanwhile = back_holds_lem k F.meanwhile }

  mirrored : (x : Bool) → since_at p q i ≡ x → until_at false (suc i) (back i p) (back i q) 0 ≡ x
  mirrored x e = sym (since_mirror p q i) ∙ e

  unmirrored : (x : Bool) → until_at false (suc i) (back i p) (back i q) 0 ≡ x → since_at p q i ≡ x
  unmirrored x e = since_mirror p q i ∙ e

  pub first_taken_back : (k : ℕ) → FirstTakenBack p q i k → since_first p q i k ≡ true
  first_taken_back k (after f is F a b) =
      rw (le-leb k i b)
      (first_taken_lem false (suc i) (back i p) (back i q) 0 (i - k) (before (i - f) (mirrored true is) (latest_first f F) (omega arith) (omega arith)))
  first_taken_back k (fails_back is F) =
      rw (le-leb k i F.not_after)
      (first_taken_lem false (suc i) (back i p) (back i q) 0 (i - k) (fails (mirrored false is) (latest_failure k F)))

  pub second_taken_back : (k : ℕ) → SecondTakenBack p q i k → since_second p q i k ≡ true
  second_taken_back k (fit_back is F) =
      rw (le-leb k i F.fitting.not_after)
      (second_taken_lem false (suc i) (back i p) (back i q) 0 (i - k) (fit (mirrored true is) (latest_first k F)))
  second_taken_back k (down_to f is F a b) =
      rw (le-leb k i b)
      (second_taken_lem false (suc i) (back i p) (back i q) 0 (i - k) (up_to (i - f) (mirrored false is) (latest_failure f F) (omega arith) (omega arith)))
  second_taken_back k (never_fails_back is N a) =
      rw (le-leb k i a)
      (second_taken_lem false (suc i) (back i p) (back i q) 0 (i - k)
      (never_fails (mirrored false is) (λ j c e. N (i - j) (omega arith) (omega arith)) (omega arith) (omega arith)))

  turned_first : (k : ℕ) → k ≤ i → FirstTaken false (suc i) (back i p) (back i q) 0 (i - k) → FirstTakenBack p q i k
  turned_first k l (before f is F a b) =
      let u : f < suc i = F.fitting.below in
      after (i - f) (unmirrored true is) (first_latest (i - f) (omega arith) (rw (twice f (omega arith)) F)) (omega arith) l
  turned_first k l (ending is w N a b) = clash w refl
  turned_first k l (fails is F) = fails_back (unmirrored false is) (failure_latest k l F)

  turned_second : (k : ℕ) → k ≤ i → SecondTaken false (suc i) (back i p) (back i q) 0 (i - k) → SecondTakenBack p q i k
  turned_second k l (fit is F) = fit_back (unmirrored true is) (first_latest k l F)
  turned_second k l (up_to f is F a b) =
      let u : f < suc i = F.below in
      down_to (i - f) (unmirrored false is) (failure_latest (i - f) (omega arith) (rw (twice f (omega arith)) F)) (omega arith) l
  turned_second k l (never_fails is N a b) =
      never_fails_back (unmirrored false is) (λ j c e. rw (twice j (omega arith)) at (N (i - j) (omega arith) (omega arith))) l

  pub taken_first_back : (k : ℕ) → since_first p q i k ≡ true → FirstTakenBack p q i k
  taken_first_back k e =
      let (x, y) = both_true (leb k i) (until_first false (suc i) (back i p) (back i q) 0 (i - k)) e in
      turned_first k (leb-true k i x) (taken_first_lem false (suc i) (back i p) (back i q) 0 (i - k) y)

  pub taken_second_back : (k : ℕ) → since_second p q i k ≡ true → SecondTakenBack p q i k
  taken_second_back k e =
      let (x, y) = both_true (leb k i) (until_second false (suc i) (back i p) (back i q) 0 (i - k)) e in
      turned_second k (leb-true k i x) (taken_second_lem false (suc i) (back i p) (back i q) 0 (i - k) y)
