-- One node's walk by operators on whole rows: from its wanted places w and its own row u in one reading, and its operands' rows p and q there, the places
-- that it wants of its operands (under a not, of the operand's other reading). It marks just what the wanted places take.
use mathlib.Core.Path.{◌≡◌, refl, sym, ◌∙◌}
use Prim.Native.Nat.{ℕ, zero, suc, ◌+◌, ◌-◌, ◌≤◌, ◌<◌}
use native.Mathlib.Omega.{arith}
use native.Mathlib.Decide.{ℕ_discrete}
use mathlib.Core.Bool.{Bool, true, false, not, ◌&&◌, ◌||◌, and-false, and-true, or-false, true≢false}
use lib.Dec.{eqb, ltb, leb}
use borrow.Author.Tests.{lt-ltb, ltb-true, eq-eqb, eqb-true, le-leb, leb-true}
use Rattle.definitions.specs.Bounded.{pick, every_of, some, every}
use Rattle.definitions.specs.Nodes.{Kind, True, Atom, Not, Or, Next, Until, Prev, Since, Run, End, Unknown}
use Rattle.definitions.specs.Readings.{Trace, next_at, until_at, prev_at, since_at, reading}
use Rattle.definitions.specs.Evidence.{fits, until_first, until_second, back, since_first, since_second, takes_first, takes_second}
use Rattle.theorems.proofs.Choice.{by_test, both_true, every_yes, every_at}
use Rattle.theorems.proofs.Recursions.{until_recursion, since_recursion, prev_recursion}
use Rattle.theorems.proofs.Walk.{until_step}
use Rattle.theorems.proofs.Semantics.{Row}
use Rattle.theorems.proofs.EvidenceSteps.{some_yes, some_none, every_fails, First, first_yes, first_no, mirror_from}

-- ---- the row forms

-- an until or since hands its question on where p is yes and q is no
abbrev pub goes_on : (ℕ → Bool) → (ℕ → Bool) → ℕ → Bool
goes_on p q k = p k && not (q k)

-- the places to which the wanted places of an until are handed on: forwards, a since of the place before
abbrev pub until_reach : (ℕ → Bool) → (ℕ → Bool) → (ℕ → Bool) → ℕ → Bool
until_reach p q w k = since_at (prev_at (goes_on p q)) w k

-- those of a since: backwards, a strong until of the place after
abbrev pub since_reach : ℕ → (ℕ → Bool) → (ℕ → Bool) → (ℕ → Bool) → ℕ → Bool
since_reach L p q w k = until_at false L (next_at false L (goes_on p q)) w k

-- at a place to which it came: yes takes p where q is no, no takes p where p is no
abbrev pub p_here : (ℕ → Bool) → (ℕ → Bool) → (ℕ → Bool) → ℕ → Bool
p_here u p q k = pick (u k) (not (q k)) (not (p k))

-- yes takes q where it is yes, no takes q
abbrev pub q_here : (ℕ → Bool) → (ℕ → Bool) → ℕ → Bool
q_here u q k = not (u k) || q k

abbrev pub first_marks : ℕ → Kind → (ℕ → Bool) → (ℕ → Bool) → (ℕ → Bool) → (ℕ → Bool) → ℕ → Bool
first_marks L True u p q w k = false
first_marks L Atom u p q w k = false
first_marks L Not u p q w k = w k
first_marks L Or u p q w k = w k && (not (u k) || p k)
first_marks L Next u p q w k = prev_at w k
first_marks L Until u p q w k = until_reach p q w k && p_here u p q k
first_marks L Prev u p q w k = next_at false L w k
first_marks L Since u p q w k = since_reach L p q w k && p_here u p q k
first_marks L Run u p q w k = false
first_marks L End u p q w k = false
first_marks L Unknown u p q w k = false

abbrev pub second_marks : ℕ → Kind → (ℕ → Bool) → (ℕ → Bool) → (ℕ → Bool) → (ℕ → Bool) → ℕ → Bool
second_marks L True u p q w k = false
second_marks L Atom u p q w k = false
second_marks L Not u p q w k = false
second_marks L Or u p q w k = w k && not (p k)
second_marks L Next u p q w k = false
second_marks L Until u p q w k = until_reach p q w k && q_here u q k
second_marks L Prev u p q w k = false
second_marks L Since u p q w k = since_reach L p q w k && q_here u q k
second_marks L Run u p q w k = false
second_marks L End u p q w k = false
second_marks L Unknown u p q w k = false

-- ---- what they mark

-- two tests with the same yes
same_by : (x y : Bool) → (x ≡ true → y ≡ true) → (y ≡ true → x ≡ true) → x ≡ y
same_by true y f g = sym (f refl)
same_by false true f g = g refl
same_by false false f g = refl

-- a place below L that is wanted and takes
pub record Source (L : ℕ) (w f : ℕ → Bool) : Type 0 where
  pub place : ℕ
  pub below : place < L
  pub wanted : w place ≡ true
  pub does : f place ≡ true

pub gather : (L : ℕ) (w f : ℕ → Bool) (y : Bool) → ((i : ℕ) → i < L → w i ≡ true → f i ≡ true → y ≡ true) → (y ≡ true → Source L w f) →
    some 0 L (λ i. w i && f i) ≡ y
gather L w f y to from = same_by (some 0 L (λ i. w i && f i)) y
    (λ z. let F = first_yes (λ i. w i && f i) (L - 0) 0 z in
    let (a, b) = both_true (w F.place) (f F.place) F.here in to F.place (omega (arith, F.below)) a b)
    (λ z. let S = from z in some_yes (λ i. w i && f i) (L - 0) 0 S.place (omega arith) (omega (arith, S.below)) (rw (S.wanted, S.does)))

-- the walk of an until from place i comes to place k where it goes on at i to k-1
module _ (d : Bool) (L : ℕ) (p q : ℕ → Bool) where
  value_step : (i : ℕ) → i < L → goes_on p q i ≡ true → until_at d L p q i ≡ until_at d L p q (suc i)
  value_step i l g =
      let (a, b) = both_true (p i) (not (q i)) g in
      until_recursion d L p q i ∙ (until_step L d p q i l ∙ (rw (a, not_yes (q i) b) (sym (until_recursion d L p q (suc i)))))
    where
      not_yes : (x : Bool) → not x ≡ true → x ≡ false
      not_yes true e = absurd (true≢false (sym e))
      not_yes false e = refl

  value_kept : (n i : ℕ) → i + n ≤ L → every_of n i (goes_on p q) ≡ true → until_at d L p q i ≡ until_at d L p q (i + n)
  value_kept zero i l g = let e : i + 0 ≡ i = omega arith in rw e
  value_kept (suc n) i l g =
      let (a, b) = both_true (goes_on p q i) (every_of n (suc i) (goes_on p q)) g in
      let e : i + suc n ≡ suc i + n = omega arith in
      rw e (value_step i (omega arith) a ∙ value_kept n (suc i) (omega arith) b)

  module _ (i k : ℕ) (from : i ≤ k) (below : k < L) where
    guard : (leb i k && ltb k L) ≡ true
    guard = rw (le-leb i k from, lt-ltb k L below)

    -- it comes to k
    module _ (on : every i k (goes_on p q) ≡ true) where
      steps : (j : ℕ) → i ≤ j → j < k → (p j ≡ true) × (not (q j) ≡ true)
      steps j a b = both_true (p j) (not (q j)) (every_at (goes_on p q) (k - i) i j on a (omega arith))

      all_p : every i k p ≡ true
      all_p = every_yes p (k - i) i (λ j a b. (steps j a (omega arith)).0)

      no_q : (j : ℕ) → i ≤ j → j < k → fits p q i j ≡ false
      no_q j a b = rw (no_of (q j) (steps j a b).1)
        where
          no_of : (x : Bool) → not x ≡ true → x ≡ false
          no_of true e = absurd (true≢false (sym e))
          no_of false e = refl

      value_there : until_at d L p q i ≡ until_at d L p q k
      value_there = let e : i + (k - i) ≡ k = omega arith in rw e at (value_kept (k - i) i (omega arith) on)

      fits_there : fits p q i k ≡ q k
      fits_there = rw (all_p, and-true)

      none_before : some i k (fits p q i) ≡ false
      none_before = some_none (fits p q i) (k - i) i (λ j a b. no_q j a (omega arith))

      some_there : some i (suc k) (fits p q i) ≡ q k
      some_there = by_test (q k)
          (λ z. rw z (some_yes (fits p q i) (suc k - i) i k from (omega arith) (fits_there ∙ z)))
          (λ z. rw z (some_none (fits p q i) (suc k - i) i (λ j a b. here z j a (ℕ_discrete j k) (omega arith))))
        where
          here : q k ≡ false → (j : ℕ) → i ≤ j → Dec (j ≡ k) → j < suc k → fits p q i j ≡ false
          here z j a (yes e) b = rw e (fits_there ∙ z)
          here z j a (no n) b = no_q j a (omega arith)

      first_came : until_first d L p q i k ≡ p_here (until_at d L p q) p q k
      unfolding pick
      first_came = by_test (until_at d L p q k)
          (λ z. rw (guard, value_there, z, some_there))
          (λ z. rw (guard, value_there, z, all_p, and-true))

      second_came : until_second d L p q i k ≡ q_here (until_at d L p q) q k
      unfolding pick
      second_came = by_test (until_at d L p q k)
          (λ z. rw (guard, value_there, z, fits_there, none_before, and-true))
          (λ z. rw (guard, value_there, z, all_p))

    -- it stops before k
    module _ (F : First (goes_on p q) false (k - i) i) where
      before : F.place < k
      before = omega (arith, F.below)

      on_to : every i F.place (goes_on p q) ≡ true
      on_to = every_yes (goes_on p q) (F.place - i) i (λ j a b. F.earlier j a (omega (arith, F.from)))

      value_stop : until_at d L p q i ≡ (q F.place || (p F.place && until_at d L p q (suc F.place)))
      value_stop =
          let e : i + (F.place - i) ≡ F.place = omega (arith, F.from) in
          let v : until_at d L p q i ≡ until_at d L p q F.place = rw e at (value_kept (F.place - i) i (omega (arith, before)) on_to) in
          v ∙ (until_recursion d L p q F.place ∙ (until_step L d p q F.place (omega (arith, before)) ∙ rw (until_recursion d L p q (suc F.place))))

      fits_stop : q F.place ≡ true → fits p q i F.place ≡ true
      fits_stop z = rw (z, every_yes p (F.place - i) i (λ j a b. (both_true (p j) (not (q j)) (F.earlier j a (omega (arith, F.from)))).0))

      p_stop : q F.place ≡ false → p F.place ≡ false
      p_stop z = let g : (p F.place && true) ≡ false = rw z at F.here in rw and-true at g

      value_no : q F.place ≡ false → until_at d L p q i ≡ false
      value_no z = value_stop ∙ rw (z, p_stop z)

      value_yes : q F.place ≡ true → until_at d L p q i ≡ true
      value_yes z = value_stop ∙ rw z

      first_stopped : until_first d L p q i k ≡ false
      unfolding pick
      first_stopped = by_test (q F.place)
          (λ z. rw (guard, value_yes z, some_yes (fits p q i) (suc k - i) i F.place F.from (omega (arith, before)) (fits_stop z)))
          (λ z. rw (guard, value_no z, every_fails p (k - i) i F.place F.from (omega (arith, before)) (p_stop z), and-false))

      second_stopped : until_second d L p q i k ≡ false
      unfolding pick
      second_stopped = by_test (q F.place)
          (λ z. rw (guard, value_yes z, some_yes (fits p q i) (k - i) i F.place F.from (omega (arith, before)) (fits_stop z), and-false))
          (λ z. rw (guard, value_no z, every_fails p (k - i) i F.place F.from (omega (arith, before)) (p_stop z)))

    -- "q at the first fitting k and p before it", and so where it is no: what an until takes is where the walk came to and what stops it there (in code
    -- `until_step`, by `until_step` of `walk`; in plain words `TakenPlaces`)
    pub first_from : until_first d L p q i k ≡ (every i k (goes_on p q) && p_here (until_at d L p q) p q k)
    first_from = by_test (every i k (goes_on p q)) (λ z. first_came z ∙ rw z) (λ z. first_stopped (first_no (goes_on p q) (k - i) i z) ∙ rw z)

    pub second_from : until_second d L p q i k ≡ (every i k (goes_on p q) && q_here (until_at d L p q) q k)
    second_from = by_test (every i k (goes_on p q)) (λ z. second_came z ∙ rw z) (λ z. second_stopped (first_no (goes_on p q) (k - i) i z) ∙ rw z)

-- the places before, and the places after
shift_every : (g : ℕ → Bool) (n i : ℕ) → every_of n i g ≡ every_of n (suc i) (prev_at g)
shift_every g zero i = refl
shift_every g (suc n) i = rw (shift_every g n (suc i), prev_recursion g (suc i))

next_every : (L : ℕ) (g : ℕ → Bool) (n i : ℕ) → i + n < L → every_of n i (next_at false L g) ≡ every_of n (suc i) g
unfolding pick
next_every L g zero i l = refl
next_every L g (suc n) i l = rw (lt-ltb (suc i) L (omega arith), next_every L g n (suc i) (omega arith))

module _ (L : ℕ) (w g : ℕ → Bool) (k : ℕ) (below : k < L) (f : ℕ → Bool) (here : Bool) where
  -- wanted places handed on forwards
  pub gather_forwards : ((i : ℕ) → f i ≡ true → i ≤ k) → ((i : ℕ) → i ≤ k → f i ≡ (every i k g && here)) →
      some 0 L (λ i. w i && f i) ≡ (since_at (prev_at g) w k && here)
  gather_forwards early is = gather L w f (since_at (prev_at g) w k && here) to from
    where
      shifted : (i : ℕ) → every i k g ≡ every (suc i) (suc k) (prev_at g)
      shifted i = let e : suc k - suc i ≡ k - i = omega arith in rw e (shift_every g (k - i) i)

      to : (i : ℕ) → i < L → w i ≡ true → f i ≡ true → (since_at (prev_at g) w k && here) ≡ true
      to i l a b =
          let (on, h) = both_true (every i k g) here (sym (is i (early i b)) ∙ b) in
          let on' : every (suc i) (suc k) (prev_at g) ≡ true = sym (shifted i) ∙ on in
          rw (some_yes (λ j. w j && every (suc j) (suc k) (prev_at g)) (suc k - 0) 0 i (omega arith) (omega (arith, early i b)) (rw (a, on')), h)

      from : (since_at (prev_at g) w k && here) ≡ true → Source L w f
      from z =
          let (r, h) = both_true (since_at (prev_at g) w k) here z in
          let F = first_yes (λ j. w j && every (suc j) (suc k) (prev_at g)) (suc k - 0) 0 r in
          let (a, on) = both_true (w F.place) (every (suc F.place) (suc k) (prev_at g)) F.here in
          let i : F.place ≤ k = omega (arith, F.below) in
          record { place = F.place; below = omega arith; wanted = a; does = is F.place i ∙ rw (shifted F.place, on, h) }

  -- wanted places handed on backwards
  pub gather_backwards : ((i : ℕ) → f i ≡ true → k ≤ i) → ((i : ℕ) → k ≤ i → i < L → f i ≡ (every (suc k) (suc i) g && here)) →
      some 0 L (λ i. w i && f i) ≡ (until_at false L (next_at false L g) w k && here)
  gather_backwards late is = gather L w f (until_at false L (next_at false L g) w k && here) to from
    where
      shifted : (i : ℕ) → k ≤ i → i < L → every k i (next_at false L g) ≡ every (suc k) (suc i) g
      shifted i a b = let e : suc i - suc k ≡ i - k = omega arith in rw e (next_every L g (i - k) k (omega arith))

      to : (i : ℕ) → i < L → w i ≡ true → f i ≡ true → (until_at false L (next_at false L g) w k && here) ≡ true
      to i l a b =
          let (on, h) = both_true (every (suc k) (suc i) g) here (sym (is i (late i b) l) ∙ b) in
          let on' : every k i (next_at false L g) ≡ true = shifted i (late i b) l ∙ on in
          rw (some_yes (λ j. w j && every k j (next_at false L g)) (L - k) k i (late i b) (omega arith) (rw (a, on')), h)

      from : (until_at false L (next_at false L g) w k && here) ≡ true → Source L w f
      from z =
          let (r, h) = both_true (until_at false L (next_at false L g) w k) here z in
          let F = first_yes (λ j. w j && every k j (next_at false L g)) (L - k) k (rw or-false at r) in
          let (a, on) = both_true (w F.place) (every k F.place (next_at false L g)) F.here in
          let l : F.place < L = omega (arith, F.below) in
          record { place = F.place; below = l; wanted = a; does = is F.place F.from l ∙ rw (← (shifted F.place F.from l), on, h) }

-- since, its mirror undone
module _ (p q : ℕ → Bool) (i k : ℕ) (from : k ≤ i) where
  there : i - (i - k) ≡ k
  there = omega arith

  mirror_every : (g : ℕ → Bool) → every 0 (i - k) (back i g) ≡ every (suc k) (suc i) g
  mirror_every g = same_by (every 0 (i - k) (back i g)) (every (suc k) (suc i) g)
      (λ z. every_yes g (suc i - suc k) (suc k) (λ j a b. let e : i - (i - j) ≡ j = omega arith in
      rw e at (every_at (back i g) ((i - k) - 0) 0 (i - j) z (omega arith) (omega arith))))
      (λ z. every_yes (back i g) ((i - k) - 0) 0 (λ j a b. every_at g (suc i - suc k) (suc k) (i - j) z (omega arith) (omega arith)))

  mirror_value : until_at false (suc i) (back i p) (back i q) (i - k) ≡ since_at p q k
  mirror_value =
      let e : suc i - (i - k) ≡ suc k = omega arith in
      let s : suc i - suc k ≡ i - k = omega arith in
      until_recursion false (suc i) (back i p) (back i q) (i - k) ∙ (rw e (sym (since_recursion p q k ∙ (mirror_from i p q (suc k) (omega arith) ∙ rw s))))

  since_first_from : since_first p q i k ≡ (every (suc k) (suc i) (goes_on p q) && p_here (since_at p q) p q k)
  since_first_from =
      rw (le-leb k i from) (first_from false (suc i) (back i p) (back i q) 0 (i - k) (omega arith) (omega arith)
      ∙ rw (mirror_value, there, mirror_every (goes_on p q)))

  since_second_from : since_second p q i k ≡ (every (suc k) (suc i) (goes_on p q) && q_here (since_at p q) q k)
  since_second_from =
      rw (le-leb k i from) (second_from false (suc i) (back i p) (back i q) 0 (i - k) (omega arith) (omega arith)
      ∙ rw (mirror_value, there, mirror_every (goes_on p q)))

pub nowhere : (L : ℕ) (w : ℕ → Bool) → some 0 L (λ i. w i && false) ≡ false
nowhere L w = gather L w (λ i. false) false (λ i l a b. b) (λ z. absurd (true≢false (sym z)))

-- from place k itself, where a test holds
from_here : (L : ℕ) (w f : ℕ → Bool) (k : ℕ) → k < L → some 0 L (λ i. w i && (eqb k i && f i)) ≡ (w k && f k)
from_here L w f k l = gather L w (λ i. eqb k i && f i) (w k && f k)
    (λ i b a c. let (e, h) = both_true (eqb k i) (f i) c in let q : k ≡ i = eqb-true k i e in rw (q, a, h))
    (λ z. let (a, h) = both_true (w k) (f k) z in record { place = k; below = l; wanted = a; does = rw (eq-eqb k k refl, h) })

from_before : (L : ℕ) (w : ℕ → Bool) (k : ℕ) → k < L → some 0 L (λ i. w i && (eqb k (suc i) && ltb k L)) ≡ prev_at w k
from_before L w zero l = gather L w (λ i. eqb 0 (suc i) && ltb 0 L) (prev_at w 0)
    (λ i b a c. let e : 0 ≡ suc i = eqb-true 0 (suc i) (both_true (eqb 0 (suc i)) (ltb 0 L) c).0 in absurd (omega arith))
    (λ z. absurd (true≢false (sym z ∙ prev_recursion w 0)))
from_before L w (suc k) l = gather L w (λ i. eqb (suc k) (suc i) && ltb (suc k) L) (prev_at w (suc k))
    (λ i b a c. let e : suc k ≡ suc i = eqb-true (suc k) (suc i) (both_true (eqb (suc k) (suc i)) (ltb (suc k) L) c).0 in
    let q : k ≡ i = omega arith in prev_recursion w (suc k) ∙ rw (q, a))
    (λ z. record { place = k; below = omega arith; wanted = sym (prev_recursion w (suc k)) ∙ z; does = rw (eq-eqb (suc k) (suc k) refl, lt-ltb (suc k) L l) })

from_after : (L : ℕ) (w : ℕ → Bool) (k : ℕ) → some 0 L (λ i. w i && eqb (suc k) i) ≡ next_at false L w k
unfolding pick
from_after L w k = gather L w (λ i. eqb (suc k) i) (next_at false L w k)
    (λ i b a c. let q : suc k ≡ i = eqb-true (suc k) i c in rw (lt-ltb (suc k) L (omega arith), q, a))
    (λ z. by_test (ltb (suc k) L)
    (λ c. record { place = suc k; below = ltb-true (suc k) L c; wanted = rw c at z; does = eq-eqb (suc k) (suc k) refl })
    (λ c. absurd (true≢false (sym z ∙ rw c))))

or_first_lem : (x y : Bool) → pick (x || y) x true ≡ (not (x || y) || x)
unfolding pick
or_first_lem true y = refl
or_first_lem false true = refl
or_first_lem false false = refl

or_second_lem : (x y : Bool) → pick (x || y) (not x) true ≡ not x
unfolding pick
or_second_lem true y = refl
or_second_lem false true = refl
or_second_lem false false = refl

early_first : (d : Bool) (L : ℕ) (p q : ℕ → Bool) (i k : ℕ) → until_first d L p q i k ≡ true → i ≤ k
early_first d L p q i k e = leb-true i k (both_true (leb i k) (ltb k L) (both_true (leb i k && ltb k L) _ e).0).0

early_second : (d : Bool) (L : ℕ) (p q : ℕ → Bool) (i k : ℕ) → until_second d L p q i k ≡ true → i ≤ k
early_second d L p q i k e = leb-true i k (both_true (leb i k) (ltb k L) (both_true (leb i k && ltb k L) _ e).0).0

-- what the wanted places of a node take of its first operand, at place k
pub row_first : (t : Trace) (of : ℕ → Row) (K : Kind) (a b : ℕ) (d : Bool) (w : ℕ → Bool) (k : ℕ) → k < t.places →
    some 0 t.places (λ i. w i && takes_first t.places of K a b d i k) ≡ first_marks t.places K (reading t of K a b d) (of a d) (of b d) w k
row_first t of True a b d w k l = nowhere t.places w
row_first t of Atom a b d w k l = nowhere t.places w
row_first t of Not a b d w k l = gather t.places w (λ i. eqb k i) (w k)
    (λ i h c e. let q : k ≡ i = eqb-true k i e in rw q c)
    (λ z. record { place = k; below = l; wanted = z; does = eq-eqb k k refl })
row_first t of Or a b d w k l =
    from_here t.places w (λ i. pick (of a d i || of b d i) (of a d i) true) k l ∙ rw (or_first_lem (of a d k) (of b d k))
row_first t of Next a b d w k l = from_before t.places w k l
row_first t of Until a b d w k l =
    gather_forwards t.places w (goes_on (of a d) (of b d)) k l (λ i. until_first d t.places (of a d) (of b d) i k)
    (p_here (until_at d t.places (of a d) (of b d)) (of a d) (of b d) k)
    (λ i e. early_first d t.places (of a d) (of b d) i k e) (λ i h. first_from d t.places (of a d) (of b d) i k h l)
row_first t of Prev a b d w k l = from_after t.places w k
row_first t of Since a b d w k l =
    gather_backwards t.places w (goes_on (of a d) (of b d)) k l (λ i. since_first (of a d) (of b d) i k)
    (p_here (since_at (of a d) (of b d)) (of a d) (of b d) k)
    (λ i e. leb-true k i (both_true (leb k i) _ e).0) (λ i h c. since_first_from (of a d) (of b d) i k h)
row_first t of Run a b d w k l = nowhere t.places w
row_first t of End a b d w k l = nowhere t.places w
row_first t of Unknown a b d w k l = nowhere t.places w

-- and of its second operand
pub row_second : (t : Trace) (of : ℕ → Row) (K : Kind) (a b : ℕ) (d : Bool) (w : ℕ → Bool) (k : ℕ) → k < t.places →
    some 0 t.places (λ i. w i && takes_second t.places of K a b d i k) ≡ second_marks t.places K (reading t of K a b d) (of a d) (of b d) w k
row_second t of True a b d w k l = nowhere t.places w
row_second t of Atom a b d w k l = nowhere t.places w
row_second t of Not a b d w k l = nowhere t.places w
row_second t of Or a b d w k l =
    from_here t.places w (λ i. pick (of a d i || of b d i) (not (of a d i)) true) k l ∙ rw (or_second_lem (of a d k) (of b d k))
row_second t of Next a b d w k l = nowhere t.places w
row_second t of Until a b d w k l =
    gather_forwards t.places w (goes_on (of a d) (of b d)) k l (λ i. until_second d t.places (of a d) (of b d) i k)
    (q_here (until_at d t.places (of a d) (of b d)) (of b d) k)
    (λ i e. early_second d t.places (of a d) (of b d) i k e) (λ i h. second_from d t.places (of a d) (of b d) i k h l)
row_second t of Prev a b d w k l = nowhere t.places w
row_second t of Since a b d w k l =
    gather_backwards t.places w (goes_on (of a d) (of b d)) k l (λ i. since_second (of a d) (of b d) i k)
    (q_here (since_at (of a d) (of b d)) (of b d) k)
    (λ i e. leb-true k i (both_true (leb k i) _ e).0) (λ i h c. since_second_from (of a d) (of b d) i k h)
row_second t of Run a b d w k l = nowhere t.places w
row_second t of End a b d w k l = nowhere t.places w
row_second t of Unknown a b d w k l = nowhere t.places w
