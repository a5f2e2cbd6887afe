-- Laws of choice by a test, of refusals in order, and of the bounded quantifiers.
use mathlib.Core.Path.{◌≡◌, refl, sym, ◌∙◌}
use Prim.Native.Nat.{ℕ, zero, suc, ◌+◌, ◌≤◌, ◌<◌}
use native.Mathlib.Omega.{arith}
use native.Mathlib.Decide.{ℕ_discrete}
use mathlib.Core.Bool.{Bool, true, false, ◌&&◌, ◌||◌, or-true, true≢false}
use lib.Dec.{eqb}
use borrow.Author.Tests.{eqb-true, eqb-false, eq-eqb}
use Rattle.definitions.specs.Bounded.{pick, bit, or_else, some_of, every_of}

-- by cases of a test, with what it answered
pub by_test : {P : Type 0} (z : Bool) → (z ≡ true → P) → (z ≡ false → P) → P
by_test true f g = f refl
by_test false f g = g refl

-- no test answers both
pub clash : {A : Type 0} {x : Bool} → x ≡ true → x ≡ false → A
clash e f = absurd (true≢false (sym e ∙ f))

-- one of two that is yes
pub either_yes : (f : Bool → Bool) (d : Bool) → f d ≡ true → (f true || f false) ≡ true
either_yes f true e = rw e
either_yes f false e = rw (e, or-true)

pub both_true : (a b : Bool) → (a && b) ≡ true → (a ≡ true) × (b ≡ true)
both_true true b e = (refl, e)
both_true false b e = absurd (true≢false (sym e))

pub both_false : (a b : Bool) → (a || b) ≡ false → (a ≡ false) × (b ≡ false)
both_false true b e = absurd (true≢false e)
both_false false b e = (refl, e)

pub other_false : (a b : Bool) → (a && b) ≡ false → a ≡ true → b ≡ false
other_false true b e t = e
other_false false b e t = absurd (true≢false (sym t))

-- yes and no are told apart by their bits
pub bit_injective : (y z : Bool) → bit y ≡ bit z → y ≡ z
bit_injective true true e = refl
bit_injective true false e = absurd (omega arith)
bit_injective false true e = absurd (omega arith)
bit_injective false false e = refl

module _ {A : Type 0} where
  pub pick_true : (z : Bool) (a b : A) → z ≡ true → pick z a b ≡ a
  unfolding pick
  pick_true z a b t = rw t

  pub pick_false : (z : Bool) (a b : A) → z ≡ false → pick z a b ≡ b
  unfolding pick
  pick_false z a b t = rw t

  -- the first of two was picked, for the second is another
  pub pick_must : (x : A) (z : Bool) (a b : A) → pick z a b ≡ x → (b ≡ x → ⊥) → (z ≡ true) × (a ≡ x)
  unfolding pick
  pick_must x true a b e n = (refl, e)
  pick_must x false a b e n = absurd (n e)

  -- the second of two was picked, for the first is another
  pub pick_other : (x : A) (z : Bool) (a b : A) → pick z a b ≡ x → (a ≡ x → ⊥) → (z ≡ false) × (b ≡ x)
  unfolding pick
  pick_other x true a b e n = absurd (n e)
  pick_other x false a b e n = (refl, e)

-- no refusal where a test refuses: it fails, and nothing else refuses
pub refuse_no : (z : Bool) (number other : ℕ) → 0 < number → pick z number other ≡ 0 → (z ≡ false) × (other ≡ 0)
refuse_no z number other h e = pick_other 0 z number other e (λ q. omega arith)

-- no refusal where a test accepts
pub accept_yes : (z : Bool) (number : ℕ) → 0 < number → pick z 0 number ≡ 0 → z ≡ true
accept_yes z number h e = (pick_must 0 z 0 number e (λ q. omega arith)).0

-- no refusal of two in order
pub or_else_none : (a b : ℕ) → or_else a b ≡ 0 → (a ≡ 0) × (b ≡ 0)
unfolding or_else pick
or_else_none a b e = by_test (eqb a 0) (λ z. (eqb-true a 0 z, rw z at e)) (λ z. absurd (eqb-false a 0 z (rw z at e)))

pub none_or_else : (a b : ℕ) → a ≡ 0 → b ≡ 0 → or_else a b ≡ 0
unfolding or_else pick
none_or_else a b p q = rw (eq-eqb a 0 p) q

-- an acceptance after a refusal
pub or_else_accepted : (a : ℕ) → or_else a 0 ≡ a
unfolding or_else pick
or_else_accepted a = by_test (eqb a 0) (λ z. rw z (sym (eqb-true a 0 z))) (λ z. rw z)

pub or_else_assoc : (a b c : ℕ) → or_else (or_else a b) c ≡ or_else a (or_else b c)
unfolding or_else pick
or_else_assoc a b c = by_test (eqb a 0) (λ z. rw z) (λ z. rw (z, z))

-- what the bounded quantifiers say of each place
pub some_no : (f : ℕ → Bool) (n k j : ℕ) → some_of n k f ≡ false → k ≤ j → j < k + n → f j ≡ false
some_no f zero k j h a b = absurd (omega arith)
some_no f (suc n) k j h a b = go (ℕ_discrete k j) (λ c. some_no f n (suc k) j (both_false (f k) (some_of n (suc k) f) h).1 c (omega arith))
  where
    go : Dec (k ≡ j) → (suc k ≤ j → f j ≡ false) → f j ≡ false
    go (yes e) later = rw e at (both_false (f k) (some_of n (suc k) f) h).0
    go (no e) later = later (omega arith)

pub every_yes : (f : ℕ → Bool) (n k : ℕ) → ((j : ℕ) → k ≤ j → j < k + n → f j ≡ true) → every_of n k f ≡ true
every_yes f zero k h = refl
every_yes f (suc n) k h = rw (h k (omega arith) (omega arith)) (every_yes f n (suc k) (λ j a b. h j (omega arith) (omega arith)))

pub every_at : (f : ℕ → Bool) (n k j : ℕ) → every_of n k f ≡ true → k ≤ j → j < k + n → f j ≡ true
every_at f zero k j h a b = absurd (omega arith)
every_at f (suc n) k j h a b = go (ℕ_discrete k j) (λ c. every_at f n (suc k) j (both_true (f k) (every_of n (suc k) f) h).1 c (omega arith))
  where
    go : Dec (k ≡ j) → (suc k ≤ j → f j ≡ true) → f j ≡ true
    go (yes e) later = rw e at (both_true (f k) (every_of n (suc k) f) h).0
    go (no e) later = later (omega arith)
