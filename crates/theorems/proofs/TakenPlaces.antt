-- What an until takes, said plainly as `Reached` says it, against the tests of `Evidence`: each where the other is.
use mathlib.Core.Path.{◌≡◌, refl, sym}
use Prim.Native.Nat.{ℕ, suc, ◌-◌, ◌≤◌, ◌<◌}
use native.Mathlib.Omega.{arith}
use native.Mathlib.Decide.{dec_lt}
use mathlib.Core.Bool.{Bool, true, false, not, ◌&&◌}
use lib.Dec.{ltb, leb}
use borrow.Author.Tests.{ltb-true, leb-true}
use Rattle.definitions.specs.Bounded.{pick, some, every}
use Rattle.definitions.specs.Readings.{until_at}
use Rattle.definitions.specs.Evidence.{fits, first_fit, unfit, first_failure, unfailed, until_first, until_second}
use Rattle.theorems.proofs.Choice.{by_test, clash, both_true, some_no, every_yes, every_at}
use Rattle.theorems.proofs.EvidenceSteps.{range_yes, some_none, First, first_yes, first_no}
use Rattle.definitions.specs.Reached.{Holds, Fits, FirstFit, NoneFits, FirstFailure}

not_yes : {x : Bool} → (x ≡ true → ⊥) → x ≡ false
not_yes {x} h = by_test x (λ e. absurd (h e)) (λ e. e)

not_is : (x : Bool) → not x ≡ true → x ≡ false
not_is true e = sym e
not_is false e = refl

-- what an until takes of its first operand
pub data FirstTaken (weak : Bool) (L : ℕ) (p q : ℕ → Bool) (i k : ℕ) : Type 0 where
  before : (f : ℕ) → until_at weak L p q i ≡ true → FirstFit L p q i f → i ≤ k → k < f → FirstTaken weak L p q i k
  ending : until_at weak L p q i ≡ true → weak ≡ true → NoneFits L p q i → i ≤ k → k < L → FirstTaken weak L p q i k
  fails : until_at weak L p q i ≡ false → FirstFailure L p i k → FirstTaken weak L p q i k

-- what it takes of its second operand
pub data SecondTaken (weak : Bool) (L : ℕ) (p q : ℕ → Bool) (i k : ℕ) : Type 0 where
  fit : until_at weak L p q i ≡ true → FirstFit L p q i k → SecondTaken weak L p q i k
  up_to : (f : ℕ) → until_at weak L p q i ≡ false → FirstFailure L p i f → i ≤ k → k ≤ f → SecondTaken weak L p q i k
  never_fails : until_at weak L p q i ≡ false → Holds p i L → i ≤ k → k < L → SecondTaken weak L p q i k

module _ (weak : Bool) (L : ℕ) (p q : ℕ → Bool) (i : ℕ) where
  holds_every : (k : ℕ) → Holds p i k → every i k p ≡ true
  holds_every k h = every_yes p (k - i) i (λ j a b. h j a (omega arith))

  every_holds : (k : ℕ) → every i k p ≡ true → Holds p i k
  every_holds k e = λ j a b. every_at p (k - i) i j e a (omega arith)

  fits_test : (k : ℕ) → Fits L p q i k → fits p q i k ≡ true
  fits_test k F = rw (F.met, holds_every k F.meanwhile)

  test_fits : (k : ℕ) → i ≤ k → k < L → fits p q i k ≡ true → Fits L p q i k
  test_fits k a b e = let (x, y) = both_true (q k) (every i k p) e in record { not_before = a; below = b; met = x; meanwhile = every_holds k y }

  none_test : (k : ℕ) → k ≤ L → ((j : ℕ) → i ≤ j → j < k → Fits L p q i j → ⊥) → some i k (fits p q i) ≡ false
  none_test k l h = some_none (fits p q i) (k - i) i (λ j a b. not_yes (λ e. h j a (omega arith) (test_fits j a (omega arith) e)))

  test_none : (k : ℕ) → some i k (fits p q i) ≡ false → (j : ℕ) → j < k → Fits L p q i j → ⊥
  test_none k z j b F = clash (fits_test j F) (some_no (fits p q i) (k - i) i j z F.not_before (omega (arith, F.not_before)))

  -- yes with no fitting place: by the weak ending
  pub only_weak : until_at weak L p q i ≡ true → NoneFits L p q i → weak ≡ true
  only_weak is N =
      let z : some i L (fits p q i) ≡ false = none_test L (omega arith) (λ j a b. N j) in
      (both_true weak (every i L p) (rw z at is)).0

  pub first_taken_lem : (k : ℕ) → FirstTaken weak L p q i k → until_first weak L p q i k ≡ true
  unfolding pick
  first_taken_lem k (before f is F a b) =
      let l : f < L = F.fitting.below in
      let n : some i (suc k) (fits p q i) ≡ false = none_test (suc k) (omega arith) (λ j c e. F.earliest j (omega arith)) in
      rw (range_yes L i k a (omega arith), is, n)
  first_taken_lem k (ending is w N a b) =
      let n : some i (suc k) (fits p q i) ≡ false = none_test (suc k) b (λ j c e. N j) in
      rw (range_yes L i k a b, is, n)
  first_taken_lem k (fails is F) = rw (range_yes L i k F.not_before F.below, is, F.failed, holds_every k F.meanwhile)

  pub second_taken_lem : (k : ℕ) → SecondTaken weak L p q i k → until_second weak L p q i k ≡ true
  unfolding pick
  second_taken_lem k (fit is F) =
      let a : i ≤ k = F.fitting.not_before in
      let b : k < L = F.fitting.below in
      let n : some i k (fits p q i) ≡ false = none_test k (omega arith) (λ j c e. F.earliest j e) in
      rw (range_yes L i k a b, is, F.fitting.met, holds_every k F.fitting.meanwhile, n)
  second_taken_lem k (up_to f is F a b) =
      let l : f < L = F.below in
      let h : Holds p i k = λ j c e. F.meanwhile j c (omega arith) in
      rw (range_yes L i k a (omega arith), is, holds_every k h)
  second_taken_lem k (never_fails is N a b) =
      let h : Holds p i k = λ j c e. N j c (omega arith) in
      rw (range_yes L i k a b, is, holds_every k h)

  first_fit_lem : (F : First (fits p q i) true (L - i) i) → FirstFit L p q i F.place
  first_fit_lem F = record {
    fitting = test_fits F.place F.from (omega (arith, F.from, F.below)) F.here;
    earliest = λ j b G. clash (fits_test j G) (F.earlier j G.not_before b);
  }

  first_failure_lem : (F : First p false (L - i) i) → FirstFailure L p i F.place
  first_failure_lem F = record { not_before = F.from; below = omega (arith, F.from, F.below); failed = F.here; meanwhile = F.earlier }

  pub taken_first_lem : (k : ℕ) → until_first weak L p q i k ≡ true → FirstTaken weak L p q i k
  unfolding pick
  taken_first_lem k e =
      let (w, t) = both_true (leb i k && ltb k L) (pick (until_at weak L p q i) (unfit p q i k) (first_failure p i k)) e in
      let (x, y) = both_true (leb i k) (ltb k L) w in
      let a : i ≤ k = leb-true i k x in
      let b : k < L = ltb-true k L y in
      by_test (until_at weak L p q i)
      (λ is. let n : some i (suc k) (fits p q i) ≡ false = not_is (some i (suc k) (fits p q i)) (rw is at t) in
      by_test (some i L (fits p q i))
      (λ z. let F : First (fits p q i) true (L - i) i = first_yes (fits p q i) (L - i) i z in
      let G : FirstFit L p q i F.place = first_fit_lem F in
      before F.place is G a (late F.place G.fitting n (dec_lt k F.place)))
      (λ z. let (v, u) = both_true weak (every i L p) (rw z at is) in
      ending is v (λ j G. test_none L z j G.below G) a b))
      (λ is. let (u, v) = both_true (not (p k)) (every i k p) (rw is at t) in
      fails is (record { not_before = a; below = b; failed = not_is (p k) u; meanwhile = every_holds k v }))
    where
      late : (f : ℕ) → Fits L p q i f → some i (suc k) (fits p q i) ≡ false → Dec (k < f) → k < f
      late f F n (yes d) = d
      late f F n (no d) = absurd (test_none (suc k) n f (omega arith) F)

  pub taken_second_lem : (k : ℕ) → until_second weak L p q i k ≡ true → SecondTaken weak L p q i k
  unfolding pick
  taken_second_lem k e =
      let (w, t) = both_true (leb i k && ltb k L) (pick (until_at weak L p q i) (first_fit p q i k) (unfailed p i k)) e in
      let (x, y) = both_true (leb i k) (ltb k L) w in
      let a : i ≤ k = leb-true i k x in
      let b : k < L = ltb-true k L y in
      by_test (until_at weak L p q i)
      (λ is. let (u, v) = both_true (fits p q i k) (not (some i k (fits p q i))) (rw is at t) in
      let n : some i k (fits p q i) ≡ false = not_is (some i k (fits p q i)) v in
      fit is (record { fitting = test_fits k a b u; earliest = test_none k n }))
      (λ is. let h : every i k p ≡ true = rw is at t in
      by_test (every i L p)
      (λ z. never_fails is (every_holds L z) a b)
      (λ z. let F : First p false (L - i) i = first_no p (L - i) i z in
      let G : FirstFailure L p i F.place = first_failure_lem F in
      up_to F.place is G a (late F.place G (every_holds k h) (dec_lt F.place k))))
    where
      late : (f : ℕ) → FirstFailure L p i f → Holds p i k → Dec (f < k) → k ≤ f
      late f F h (yes d) = clash (h f F.not_before d) F.failed
      late f F h (no d) = omega arith
