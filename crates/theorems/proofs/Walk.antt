-- Walking a recording: the place of a state, and the two inductions that carry a fact over the states in which the controller does not run.
use mathlib.Core.Path.{◌≡◌, refl, ◌∙◌}
use Prim.Native.Nat.{ℕ, zero, suc, ◌+◌, ◌-◌, ◌≤◌, ◌<◌}
use native.Mathlib.Omega.{arith}
use native.Mathlib.Decide.{ℕ_discrete}
use mathlib.Core.Bool.{Bool, true, false, ◌&&◌, ◌||◌}
use Rattle.definitions.specs.Bounded.{pick}
use Rattle.theorems.proofs.Recursions.{until_n}

-- the place of state k: how often c ran before it
abbrev pub count : (ℕ → Bool) → ℕ → ℕ
count run zero = zero
count run (suc k) = pick (run k) (suc (count run k)) (count run k)

-- from the end down: U is Y at the place
module _ (run : ℕ → Bool) (e : ℕ) (U Y : ℕ → Bool)
    (last : U e ≡ Y (count run e))
    (skip : (k : ℕ) → k < e → run k ≡ false → U k ≡ U (suc k))
    (step : (k : ℕ) → k < e → run k ≡ true → U (suc k) ≡ Y (suc (count run k)) → U k ≡ Y (count run k)) where
  down_one : (k : ℕ) → k < e → U (suc k) ≡ Y (count run (suc k)) → U k ≡ Y (count run k)
  unfolding pick
  down_one k l ih = go (run k) refl
    where
      go : (b : Bool) → run k ≡ b → U k ≡ Y (count run k)
      go true r = step k l r (rw r at ih)
      go false r = skip k l r ∙ (rw r at ih)

  down_by : (j k : ℕ) → k + j ≡ e → U k ≡ Y (count run k)
  down_by zero k h = let s : k ≡ e = omega arith in rw s last
  down_by (suc j) k h = down_one k (omega arith) (down_by j (suc k) (omega arith))

  pub down : (k : ℕ) → k ≤ e → U k ≡ Y (count run k)
  down k h = down_by (e - k) k (omega arith)

-- from the start up to e
module _ (run : ℕ → Bool) (e : ℕ) (U Y : ℕ → Bool)
    (first : U 0 ≡ Y 0)
    (skip : (k : ℕ) → k < e → run k ≡ false → U (suc k) ≡ U k)
    (step : (k : ℕ) → k < e → run k ≡ true → U k ≡ Y (count run k) → U (suc k) ≡ Y (suc (count run k))) where
  pub up : (k : ℕ) → k ≤ e → U k ≡ Y (count run k)
  unfolding pick
  up zero h = first
  up (suc k) h = go (run k) refl (up k (omega arith))
    where
      go : (b : Bool) → run k ≡ b → U k ≡ Y (count run k) → U (suc k) ≡ Y (count run (suc k))
      go true r ih = rw r (step k h r ih)
      go false r ih = rw r (skip k h r ∙ ih)

pub count_mono : (run : ℕ → Bool) (j k : ℕ) → j ≤ k → count run j ≤ count run k
unfolding pick
count_mono run j zero h = let s : j ≡ 0 = omega arith in rw s (omega arith)
count_mono run j (suc k) h = go (ℕ_discrete j (suc k)) (λ b. count_mono run j k b)
  where
    one : (b : Bool) → count run k ≤ pick b (suc (count run k)) (count run k)
    one true = omega arith
    one false = omega arith

    go : Dec (j ≡ suc k) → (j ≤ k → count run j ≤ count run k) → count run j ≤ count run (suc k)
    go (yes e) ih = rw e (omega arith)
    go (no n) ih = omega (arith, ih (omega arith), one (run k))

-- where c runs before e, the place is not the last
pub count_lt : (run : ℕ → Bool) (e k : ℕ) → k < e → run k ≡ true → count run k < count run e
unfolding pick
count_lt run e k h r = let m : count run (suc k) ≤ count run e = count_mono run (suc k) e h in rw r at m

-- the two equations of until
pub until_end : (L : ℕ) (d : Bool) (p q : ℕ → Bool) → until_n d p q (L - L) L ≡ d
until_end L d p q = let h : L - L ≡ 0 = omega arith in rw h

pub until_step : (L : ℕ) (d : Bool) (p q : ℕ → Bool) (i : ℕ) → i < L →
    until_n d p q (L - i) i ≡ (q i || (p i && until_n d p q (L - suc i) (suc i)))
until_step L d p q i l = let h : L - i ≡ suc (L - suc i) = omega arith in rw h
