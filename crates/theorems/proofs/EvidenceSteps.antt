-- What an until or a since takes decides it, on its own trace and on another.
use mathlib.Core.Path.{◌≡◌, refl, sym, ◌∙◌}
use Prim.Native.Nat.{ℕ, zero, suc, ◌+◌, ◌-◌, ◌≤◌, ◌<◌}
use native.Mathlib.Omega.{arith}
use native.Mathlib.Decide.{ℕ_discrete, dec_lt}
use mathlib.Core.Bool.{Bool, true, false, not, ◌&&◌, ◌||◌, and-false, or-true, true≢false}
use lib.Dec.{ltb, leb}
use borrow.Author.Tests.{lt-ltb, le-leb}
use Rattle.definitions.specs.Bounded.{pick, some_of, every_of, some, every}
use Rattle.definitions.specs.Readings.{until_at, since_at}
use Rattle.theorems.proofs.Choice.{by_test, both_true, both_false, some_no, every_yes, every_at}
use Rattle.theorems.proofs.Recursions.{until_n, since_b, until_recursion, since_recursion}
use Rattle.definitions.specs.Evidence.{fits, until_first, until_second, back, since_first, since_second}

pub some_yes : (f : ℕ → Bool) (n k j : ℕ) → k ≤ j → j < k + n → f j ≡ true → some_of n k f ≡ true
some_yes f zero k j a b e = absurd (omega arith)
some_yes f (suc n) k j a b e = go (ℕ_discrete k j) (λ c. some_yes f n (suc k) j c (omega arith) e)
  where
    go : Dec (k ≡ j) → (suc k ≤ j → some_of n (suc k) f ≡ true) → (f k || some_of n (suc k) f) ≡ true
    go (yes q) later = rw (q, e)
    go (no q) later = rw (later (omega arith), or-true)

pub some_none : (f : ℕ → Bool) (n k : ℕ) → ((j : ℕ) → k ≤ j → j < k + n → f j ≡ false) → some_of n k f ≡ false
some_none f zero k h = refl
some_none f (suc n) k h = rw (h k (omega arith) (omega arith)) (some_none f n (suc k) (λ j a b. h j (omega arith) (omega arith)))

pub every_fails : (f : ℕ → Bool) (n k j : ℕ) → k ≤ j → j < k + n → f j ≡ false → every_of n k f ≡ false
every_fails f n k j a b e = by_test (every_of n k f) (λ z. absurd (true≢false (sym (every_at f n k j z a b) ∙ e))) (λ z. z)

-- k is from i on, below L
pub range_yes : (L i k : ℕ) → i ≤ k → k < L → (leb i k && ltb k L) ≡ true
range_yes L i k a b = rw (le-leb i k a, lt-ltb k L b)

-- the first place of a range where f is x
pub record First (f : ℕ → Bool) (x : Bool) (n k : ℕ) : Type 0 where
  pub place : ℕ
  pub from : k ≤ place
  pub below : place < k + n
  pub here : f place ≡ x
  pub earlier : (j : ℕ) → k ≤ j → j < place → f j ≡ not x

first_here : (f : ℕ → Bool) (x : Bool) (n k : ℕ) → f k ≡ x → First f x (suc n) k
first_here f x n k e = record { place = k; from = omega arith; below = omega arith; here = e; earlier = λ j a b. absurd (omega arith) }

first_later : (f : ℕ → Bool) (x : Bool) (n k : ℕ) → f k ≡ not x → First f x n (suc k) → First f x (suc n) k
first_later f x n k e F = record {
  place = F.place;
  from = omega (arith, F.from);
  below = omega (arith, F.below);
  here = F.here;
  earlier = λ j a b. go j a b (ℕ_discrete k j);
}
  where
    go : (j : ℕ) → k ≤ j → j < F.place → Dec (k ≡ j) → f j ≡ not x
    go j a b (yes q) = rw q at e
    go j a b (no q) = F.earlier j (omega arith) b

pub first_yes : (f : ℕ → Bool) (n k : ℕ) → some_of n k f ≡ true → First f true n k
first_yes f zero k e = absurd (true≢false (sym e))
first_yes f (suc n) k e = by_test (f k) (first_here f true n k) (λ z. first_later f true n k z (first_yes f n (suc k) (rw z at e)))

pub first_no : (f : ℕ → Bool) (n k : ℕ) → every_of n k f ≡ false → First f false n k
first_no f zero k e = absurd (true≢false e)
first_no f (suc n) k e = by_test (f k) (λ z. first_later f false n k z (first_no f n (suc k) (rw z at e))) (first_here f false n k)

and_true_no : (x : Bool) → (x && true) ≡ false → x ≡ false
and_true_no true z = z
and_true_no false z = z

-- An until on a trace of L places, and one on a trace of M places, no fewer. What the first one takes has its value; if it has this value on the
-- second trace too, so has the until. Only where the end decided must M be L.
module _ (weak : Bool) (L M i : ℕ) (p q p' q' : ℕ → Bool) (inside : i < L) (longer : L ≤ M) where
  every_to : (f : ℕ → Bool) (k : ℕ) → ((j : ℕ) → i ≤ j → j < k → f j ≡ true) → every i k f ≡ true
  every_to f k h = every_yes f (k - i) i (λ j a b. h j a (omega arith))

  none_to : (f : ℕ → Bool) (k : ℕ) → ((j : ℕ) → i ≤ j → j < k → f j ≡ false) → some i k f ≡ false
  none_to f k h = some_none f (k - i) i (λ j a b. h j a (omega arith))

  module _ (is : until_at weak L p q i ≡ true) (end : true ≡ weak → L ≡ M)
      (first : (k : ℕ) → i ≤ k → k < L → until_first weak L p q i k ≡ true → p k ≡ true → p' k ≡ true)
      (second : (k : ℕ) → i ≤ k → k < L → until_second weak L p q i k ≡ true → q k ≡ true → q' k ≡ true) where
    yes_first : (k : ℕ) → i ≤ k → k < L → some i (suc k) (fits p q i) ≡ false → p k ≡ true → p' k ≡ true
    unfolding pick
    yes_first k a b n e = first k a b (rw (range_yes L i k a b, is, n)) e

    yes_second : (k : ℕ) → i ≤ k → k < L → fits p q i k ≡ true → some i k (fits p q i) ≡ false → q' k ≡ true
    unfolding pick
    yes_second k a b f n = second k a b (rw (range_yes L i k a b, is, f, n)) (both_true (q k) (every i k p) f).0

    yes_fit : First (fits p q i) true (L - i) i → until_at weak M p' q' i ≡ true
    yes_fit F =
        let k : ℕ = F.place in
        let b : k < L = omega (arith, F.below) in
        let before : (j : ℕ) → i ≤ j → j < k → p j ≡ true = λ j c e. every_at p (k - i) i j (both_true (q k) (every i k p) F.here).1 c (omega arith) in
        let before' : every i k p' ≡ true = every_to p' k (λ j c e. yes_first j c (omega arith)
        (none_to (fits p q i) (suc j) (λ x f g. F.earlier x f (omega arith))) (before j c e)) in
        let here' : q' k ≡ true = yes_second k F.from b F.here (none_to (fits p q i) k F.earlier) in
        let fit' : fits p' q' i k ≡ true = rw (here', before') in
        rw (some_yes (fits p' q' i) (M - i) i k F.from (omega arith) fit')

    yes_end : some i L (fits p q i) ≡ false → until_at weak M p' q' i ≡ true
    yes_end z =
        let (w, all) = both_true weak (every i L p) (rw z at is) in
        let m : L ≡ M = end (sym w) in
        let all' : every i M p' ≡ true = every_to p' M (λ j a b. yes_first j a (omega arith)
        (none_to (fits p q i) (suc j) (λ x f g. some_no (fits p q i) (L - i) i x z f (omega arith))) (every_at p (L - i) i j all a (omega arith))) in
        rw (w, all', or-true)

    pub until_yes : until_at weak M p' q' i ≡ true
    until_yes = by_test (some i L (fits p q i)) (λ z. yes_fit (first_yes (fits p q i) (L - i) i z)) yes_end

  module _ (is : until_at weak L p q i ≡ false) (end : false ≡ weak → L ≡ M)
      (first : (k : ℕ) → i ≤ k → k < L → until_first weak L p q i k ≡ true → p k ≡ false → p' k ≡ false)
      (second : (k : ℕ) → i ≤ k → k < L → until_second weak L p q i k ≡ true → q k ≡ false → q' k ≡ false) where
    parts : (some i L (fits p q i) ≡ false) × ((weak && every i L p) ≡ false)
    parts = both_false (some i L (fits p q i)) (weak && every i L p) is

    no_second : (k : ℕ) → i ≤ k → k < L → every i k p ≡ true → q' k ≡ false
    unfolding pick
    no_second k a b e =
        let n : (q k && every i k p) ≡ false = some_no (fits p q i) (L - i) i k parts.0 a (omega arith) in
        second k a b (rw (range_yes L i k a b, is, e)) (and_true_no (q k) (rw e at n))

    no_fail : First p false (L - i) i → until_at weak M p' q' i ≡ false
    unfolding pick
    no_fail F =
        let f : ℕ = F.place in
        let b : f < L = omega (arith, F.below) in
        let here' : p' f ≡ false = first f F.from b (rw (range_yes L i f F.from b, is, F.here, every_to p f F.earlier)) F.here in
        let all' : every i M p' ≡ false = every_fails p' (M - i) i f F.from (omega arith) here' in
        let none' : some i M (fits p' q' i) ≡ false = none_to (fits p' q' i) M (λ j a c. go f F.from b here' F.earlier j a (dec_lt f j)) in
        rw (none', all', and-false)
      where
        go : (f : ℕ) → i ≤ f → f < L → p' f ≡ false → ((j : ℕ) → i ≤ j → j < f → p j ≡ true) → (j : ℕ) → i ≤ j → Dec (f < j) → fits p' q' i j ≡ false
        go f a b h e j c (yes d) = rw (every_fails p' (j - i) i f a (omega arith) h, and-false)
        go f a b h e j c (no d) = rw (no_second j c (omega arith) (every_to p j (λ x y z. e x y (omega arith))))

    no_end : every i L p ≡ true → until_at weak M p' q' i ≡ false
    no_end z =
        let w : weak ≡ false = and_true_no weak (rw z at parts.1) in
        let m : L ≡ M = end (sym w) in
        let none' : some i M (fits p' q' i) ≡ false = none_to (fits p' q' i) M (λ j a b.
        rw (no_second j a (omega arith) (every_to p j (λ x y c. every_at p (L - i) i x z y (omega arith))))) in
        rw (none', w)

    pub until_no : until_at weak M p' q' i ≡ false
    until_no = by_test (every i L p) no_end (λ z. no_fail (first_no p (L - i) i z))

-- both values at once
pub until_same : (weak : Bool) (L M i : ℕ) (p q p' q' : ℕ → Bool) → i < L → L ≤ M → (until_at weak L p q i ≡ weak → L ≡ M) →
    ((k : ℕ) → i ≤ k → k < L → until_first weak L p q i k ≡ true → p k ≡ until_at weak L p q i → p' k ≡ p k) →
    ((k : ℕ) → i ≤ k → k < L → until_second weak L p q i k ≡ true → q k ≡ until_at weak L p q i → q' k ≡ q k) →
    until_at weak M p' q' i ≡ until_at weak L p q i
until_same weak L M i p q p' q' inside longer end first second = by_test (until_at weak L p q i)
    (λ z. rw z (until_yes weak L M i p q p' q' inside longer z (λ w. end (z ∙ w))
    (λ k a b t e. first k a b t (e ∙ sym z) ∙ e) (λ k a b t e. second k a b t (e ∙ sym z) ∙ e)))
    (λ z. rw z (until_no weak L M i p q p' q' inside longer z (λ w. end (z ∙ w))
    (λ k a b t e. first k a b t (e ∙ sym z) ∙ e) (λ k a b t e. second k a b t (e ∙ sym z) ∙ e)))

-- since, as a strong until backwards
pub mirror_from : (m : ℕ) (p q : ℕ → Bool) (n : ℕ) → n ≤ suc m → since_b p q n ≡ until_n false (back m p) (back m q) n (suc m - n)
mirror_from m p q zero h = refl
mirror_from m p q (suc n) h =
    let e : suc m - suc n ≡ m - n = omega arith in
    let b : m - (m - n) ≡ n = omega arith in
    let l : suc (m - n) ≡ suc m - n = omega arith in
    rw (e, b, l, mirror_from m p q n (omega arith))

pub since_mirror : (p q : ℕ → Bool) (i : ℕ) → since_at p q i ≡ until_at false (suc i) (back i p) (back i q) 0
since_mirror p q i =
    let e : suc i - suc i ≡ 0 = omega arith in
    let z : suc i - 0 ≡ suc i = omega arith in
    since_recursion p q i ∙ (mirror_from i p q (suc i) (omega arith) ∙ rw e (sym (until_recursion false (suc i) (back i p) (back i q) 0 ∙ rw z)))

pub since_same : (i : ℕ) (p q p' q' : ℕ → Bool) →
    ((k : ℕ) → k ≤ i → since_first p q i k ≡ true → p k ≡ since_at p q i → p' k ≡ p k) →
    ((k : ℕ) → k ≤ i → since_second p q i k ≡ true → q k ≡ since_at p q i → q' k ≡ q k) →
    since_at p' q' i ≡ since_at p q i
since_same i p q p' q' first second =
    since_mirror p' q' i
    ∙ (until_same false (suc i) (suc i) 0 (back i p) (back i q) (back i p') (back i q') (omega arith) (omega arith) (λ w. refl)
    (λ k a b t e. first (i - k) (omega arith) (back_first k b t) (e ∙ sym (since_mirror p q i)))
    (λ k a b t e. second (i - k) (omega arith) (back_second k b t) (e ∙ sym (since_mirror p q i)))
    ∙ sym (since_mirror p q i))
  where
    back_first : (k : ℕ) → k < suc i → until_first false (suc i) (back i p) (back i q) 0 k ≡ true → since_first p q i (i - k) ≡ true
    back_first k b t = let e : i - (i - k) ≡ k = omega arith in rw (le-leb (i - k) i (omega arith), e) t

    back_second : (k : ℕ) → k < suc i → until_second false (suc i) (back i p) (back i q) 0 k ≡ true → since_second p q i (i - k) ≡ true
    back_second k b t = let e : i - (i - k) ≡ k = omega arith in rw (le-leb (i - k) i (omega arith), e) t
