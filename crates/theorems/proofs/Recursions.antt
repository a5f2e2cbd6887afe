-- The recursive forms of until, since and prev, and that they say what document 01's bounded quantifiers say.
use mathlib.Core.Path.{◌≡◌, refl, sym, ap, ◌∙◌}
use Prim.Native.Nat.{ℕ, zero, suc, ◌+◌, ◌-◌, ◌≤◌, ◌<◌}
use native.Mathlib.Omega.{arith}
use mathlib.Core.Bool.{Bool, true, false, ◌&&◌, ◌||◌, and-true, and-false, or-false}
use borrow.Author.Tests.{lt-ltb}
use Rattle.definitions.specs.Bounded.{some_of, every_of, every}
use Rattle.definitions.specs.Readings.{until_at, since_at, prev_at}

-- p until q with n places left from place i; weak is the answer past the last place
abbrev pub until_n : Bool → (ℕ → Bool) → (ℕ → Bool) → ℕ → ℕ → Bool
until_n weak p q zero i = weak
until_n weak p q (suc n) i = q i || (p i && until_n weak p q n (suc i))

-- p since q, of the places before place i
abbrev pub since_b : (ℕ → Bool) → (ℕ → Bool) → ℕ → Bool
since_b p q zero = false
since_b p q (suc i) = q i || (p i && since_b p q i)

-- p at the place before place i
abbrev pub prev_b : (ℕ → Bool) → ℕ → Bool
prev_b p zero = false
prev_b p (suc i) = p i

-- some place of a range: it depends on f in the range only, a constant comes out, and the last place may be split off
pub some_cong : (f g : ℕ → Bool) (n k : ℕ) → ((j : ℕ) → k ≤ j → j < k + n → f j ≡ g j) → some_of n k f ≡ some_of n k g
some_cong f g zero k h = refl
some_cong f g (suc n) k h = rw (h k (omega arith) (omega arith), some_cong f g n (suc k) (λ j a b. h j (omega arith) (omega arith)))

some_and : (c : Bool) (f : ℕ → Bool) (n k : ℕ) → some_of n k (λ j. c && f j) ≡ (c && some_of n k f)
some_and true f n k = refl
some_and false f zero k = refl
some_and false f (suc n) k = some_and false f n (suc k)

or_assoc' : (a b c : Bool) → (a || (b || c)) ≡ ((a || b) || c)
or_assoc' true b c = refl
or_assoc' false b c = refl

and_assoc' : (a b c : Bool) → (a && (b && c)) ≡ ((a && b) && c)
and_assoc' true b c = refl
and_assoc' false b c = refl

some_last : (f : ℕ → Bool) (n k : ℕ) → some_of (suc n) k f ≡ (some_of n k f || f (k + n))
some_last f zero k = let e : k + 0 ≡ k = omega arith in rw (e, or-false)
some_last f (suc n) k = let e : suc k + n ≡ k + suc n = omega arith in
    ap (λ (z : Bool). f k || z) (some_last f n (suc k)) ∙ (rw e (or_assoc' (f k) (some_of n (suc k) f) (f (k + suc n))))

every_last : (f : ℕ → Bool) (n k : ℕ) → every_of (suc n) k f ≡ (every_of n k f && f (k + n))
every_last f zero k = let e : k + 0 ≡ k = omega arith in rw (e, and-true)
every_last f (suc n) k = let e : suc k + n ≡ k + suc n = omega arith in
    ap (λ (z : Bool). f k && z) (every_last f n (suc k)) ∙ (rw e (and_assoc' (f k) (every_of n (suc k) f) (f (k + suc n))))

-- every place from i to k, its first or its last place split off; none where i is k
every_none : (p : ℕ → Bool) (i : ℕ) → every i i p ≡ true
every_none p i = let e : i - i ≡ 0 = omega arith in rw e

every_first : (p : ℕ → Bool) (i k : ℕ) → i < k → every i k p ≡ (p i && every (suc i) k p)
every_first p i k h = let e : k - i ≡ suc (k - suc i) = omega arith in rw e

every_end : (p : ℕ → Bool) (i k : ℕ) → i ≤ k → every i (suc k) p ≡ (every i k p && p k)
every_end p i k h =
    let e : suc k - i ≡ suc (k - i) = omega arith in
    let l : i + (k - i) ≡ k = omega arith in
    rw e (every_last p (k - i) i ∙ rw l)

until_turn : (q p a weak b : Bool) → ((q || (p && a)) || (weak && (p && b))) ≡ (q || (p && (a || (weak && b))))
until_turn true p a weak b = refl
until_turn false true a weak b = refl
until_turn false false a weak b = and-false weak

until_from : (weak : Bool) (p q : ℕ → Bool) (n i : ℕ) →
    (some_of n i (λ k. q k && every i k p) || (weak && every_of n i p)) ≡ until_n weak p q n i
until_from weak p q zero i = and-true weak
until_from weak p q (suc n) i =
    let first : (q i && every i i p) ≡ q i = rw (every_none p i, and-true) in
    let later : some_of n (suc i) (λ k. q k && every i k p) ≡ (p i && some_of n (suc i) (λ k. q k && every (suc i) k p))
    = some_cong (λ k. q k && every i k p) (λ k. p i && (q k && every (suc i) k p)) n (suc i)
    (λ k a b. rw (every_first p i k (omega arith)) (swap (q k) (p i) (every (suc i) k p)))
    ∙ some_and (p i) (λ k. q k && every (suc i) k p) n (suc i) in
    rw (first, later, until_turn (q i) (p i) (some_of n (suc i) (λ k. q k && every (suc i) k p)) weak (every_of n (suc i) p), until_from weak p q n (suc i))
  where
    swap : (a b c : Bool) → (a && (b && c)) ≡ (b && (a && c))
    swap true b c = refl
    swap false true c = refl
    swap false false c = refl

-- until, by its quantifiers and by its recursion
pub until_recursion : (weak : Bool) (L : ℕ) (p q : ℕ → Bool) (i : ℕ) → until_at weak L p q i ≡ until_n weak p q (L - i) i
until_recursion weak L p q i = until_from weak p q (L - i) i

since_from : (p q : ℕ → Bool) (n : ℕ) → some_of n 0 (λ k. q k && every (suc k) n p) ≡ since_b p q n
since_from p q zero = refl
since_from p q (suc n) =
    let e : 0 + n ≡ n = omega arith in
    let last : (q (0 + n) && every (suc (0 + n)) (suc n) p) ≡ q n = rw (e, every_none p (suc n), and-true) in
    let earlier : some_of n 0 (λ k. q k && every (suc k) (suc n) p) ≡ (p n && since_b p q n)
    = some_cong (λ k. q k && every (suc k) (suc n) p) (λ k. p n && (q k && every (suc k) n p)) n 0
    (λ k a b. rw (every_end p (suc k) n (omega arith)) (turn (q k) (every (suc k) n p) (p n)))
    ∙ (some_and (p n) (λ k. q k && every (suc k) n p) n 0 ∙ ap (λ (z : Bool). p n && z) (since_from p q n)) in
    some_last (λ k. q k && every (suc k) (suc n) p) n 0 ∙ rw (last, earlier) (flip (p n && since_b p q n) (q n))
  where
    turn : (a b c : Bool) → (a && (b && c)) ≡ (c && (a && b))
    turn true true true = refl
    turn true true false = refl
    turn true false true = refl
    turn true false false = refl
    turn false b true = refl
    turn false b false = refl

    flip : (a b : Bool) → (a || b) ≡ (b || a)
    flip true true = refl
    flip true false = refl
    flip false true = refl
    flip false false = refl

-- since, by its quantifiers and by its recursion
pub since_recursion : (p q : ℕ → Bool) (i : ℕ) → since_at p q i ≡ since_b p q (suc i)
since_recursion p q i = let e : suc i - 0 ≡ suc i = omega arith in rw e (since_from p q (suc i))

pub prev_recursion : (p : ℕ → Bool) (i : ℕ) → prev_at p i ≡ prev_b p i
prev_recursion p zero = refl
prev_recursion p (suc i) = let e : suc i - 1 ≡ i = omega arith in rw (lt-ltb 0 (suc i) (omega arith), e)

-- until and since at a place, by the next place and by the place before
module _ (weak : Bool) (L : ℕ) (p q : ℕ → Bool) where
  pub until_end : until_at weak L p q L ≡ weak
  until_end = let e : L - L ≡ 0 = omega arith in until_recursion weak L p q L ∙ rw e

  pub until_step : (i : ℕ) → i < L → until_at weak L p q i ≡ (q i || (p i && until_at weak L p q (suc i)))
  until_step i h =
      let e : L - i ≡ suc (L - suc i) = omega arith in
      let turn : until_n weak p q (L - i) i ≡ (q i || (p i && until_n weak p q (L - suc i) (suc i))) = rw e in
      until_recursion weak L p q i ∙ (turn ∙ ap (λ (b : Bool). q i || (p i && b)) (sym (until_recursion weak L p q (suc i))))

module _ (p q : ℕ → Bool) where
  pub since_start : since_at p q 0 ≡ q 0
  since_start = since_recursion p q 0 ∙ (ap (λ (b : Bool). q 0 || b) (and-false (p 0)) ∙ or-false (q 0))

  pub since_step : (i : ℕ) → since_at p q (suc i) ≡ (q (suc i) || (p (suc i) && since_at p q i))
  since_step i = since_recursion p q (suc i) ∙ ap (λ (b : Bool). q (suc i) || (p (suc i) && b)) (sym (since_recursion p q i))
