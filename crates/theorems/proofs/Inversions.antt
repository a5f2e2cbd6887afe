-- What a reader or a field that was read must have been, where its outcome is known.
use mathlib.Core.Path.{◌≡◌, refl}
use Prim.Native.Nat.{ℕ}
use mathlib.Core.Bool.{Bool, true, false}
use native.Mathlib.Omega.{arith}
use lib.Dec.{eqb}
use borrow.Author.Tests.{eqb-true, eq-eqb}
use Rattle.definitions.specs.Bounded.{pick, or_else}
use Rattle.definitions.specs.Lines.{Parsed, formed, malformed, on_parsed}
use Rattle.theorems.proofs.Choice.{by_test, pick_true, pick_false}

module _ {A : Type 0} where
  -- what was picked, by the test
  pub first_picked : (x : A) (z : Bool) (a b : A) → z ≡ true → pick z a b ≡ x → a ≡ x
  first_picked x z a b t e = rw (pick_true z a b t) at e

  pub second_picked : (x : A) (z : Bool) (a b : A) → z ≡ false → pick z a b ≡ x → b ≡ x
  second_picked x z a b t e = rw (pick_false z a b t) at e

  -- a reader that stops with its refusal n was accepted: n is 0
  pub must_pass : (f : A → ℕ) (n : ℕ) (a b : A) → f b ≡ n → f (pick (eqb n 0) a b) ≡ 0 → n ≡ 0
  unfolding pick
  must_pass f n a b s e = by_test (eqb n 0) (λ z. eqb-true n 0 z) (λ z. omega (arith, rw (z, pick) at e))

  pub passes : (n : ℕ) (a b : A) → n ≡ 0 → pick (eqb n 0) a b ≡ a
  passes n a b e = pick_true (eqb n 0) a b (eq-eqb n 0 e)

pub never_formed : {A : Type 0} (x : A) → malformed ≡ formed x → ⊥
never_formed x q = let z : ◌≡◌ {A = ℕ} 0 1 = cc in omega arith

pub formed_same : {A : Type 0} (a b : A) → formed a ≡ formed b → a ≡ b
formed_same a b e = cc

-- what was read, where it is of its form
pub record Formed {A B : Type 0} (p : Parsed A) (f : A → B) (x : B) : Type 0 where
  pub value : A
  pub read : p ≡ formed value
  pub gives : f value ≡ x

pub parsed_must : {A B : Type 0} (x : B) (p : Parsed A) (other : B) (f : A → B) → on_parsed p other f ≡ x → (other ≡ x → ⊥) → Formed p f x
unfolding on_parsed
parsed_must x (formed a) other f e n = record { value = a; read = refl; gives = e }
parsed_must x malformed other f e n = absurd (n e)

pub first_accepted : (a b : ℕ) → a ≡ 0 → or_else a b ≡ b
unfolding or_else
first_accepted a b e = passes a b a e
