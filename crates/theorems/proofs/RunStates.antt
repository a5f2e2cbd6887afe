-- The states in which a controller runs, and the state after the last of them: of one state more, and of what is the same below n.
use mathlib.Core.Path.{◌≡◌, refl, sym, ◌∙◌}
use Prim.Native.Nat.{ℕ, zero, suc, ◌+◌, ◌≤◌, ◌<◌}
use native.Mathlib.Omega.{arith}
use native.Mathlib.Numerals.{add-one}
use mathlib.Core.Bool.{Bool, true, false}
use mathlib.Core.List.{List, [], ◌∷◌, ◌++◌, map, map-append, append-nil}
use lib.ListN.{length, length-append}
use Rattle.definitions.specs.Bounded.{pick}
use Rattle.definitions.specs.Projection.{run_states, after_last}

pub after_snoc : (rs : List ℕ) (n : ℕ) → after_last (rs ++ (n ∷ [])) ≡ suc n
after_snoc [] n = refl
after_snoc (r ∷ []) n = refl
after_snoc (r ∷ s ∷ rs) n = after_snoc (s ∷ rs) n

module _ (run : ℕ → Bool) where
  pub runs_on : (k : ℕ) → run k ≡ true → run_states run (k + 1) ≡ run_states run k ++ (k ∷ [])
  unfolding pick
  runs_on k r = rw (add-one k, r)

  pub runs_off : (k : ℕ) → run k ≡ false → run_states run (k + 1) ≡ run_states run k
  unfolding pick
  runs_off k r = rw (add-one k, r, append-nil)

  -- what holds of the runs below k with k, or without it, holds of those below k + 1
  runs_next : (P : List ℕ → Type 0) (k : ℕ) → P (run_states run k ++ (k ∷ [])) → P (run_states run k) → P (run_states run (suc k))
  unfolding pick
  runs_next P k = go (run k)
    where
      go : (b : Bool) → P (run_states run k ++ (k ∷ [])) → P (run_states run k) → P (run_states run k ++ pick b (k ∷ []) [])
      go true y n = y
      go false y n = rw append-nil n

  pub few_runs : (k : ℕ) → length (run_states run k) ≤ k
  few_runs zero = omega arith
  few_runs (suc k) =
      runs_next (λ rs. length rs ≤ suc k) k (omega (arith, few_runs k, length-append (run_states run k) (k ∷ []))) (omega (arith, few_runs k))

  pub after_near : (k : ℕ) → after_last (run_states run k) ≤ k
  after_near zero = omega arith
  after_near (suc k) = runs_next (λ rs. after_last rs ≤ suc k) k (rw (after_snoc (run_states run k) k) (omega arith)) (omega (arith, after_near k))

  -- the words of the runs below n
  pub words_same : (f g : ℕ → ℕ) (n : ℕ) → ((k : ℕ) → k < n → run k ≡ true → f k ≡ g k) → map f (run_states run n) ≡ map g (run_states run n)
  unfolding pick
  words_same f g zero h = refl
  words_same f g (suc n) h =
      map-append f (run_states run n) (pick (run n) (n ∷ []) [])
      ∙ (rw (words_same f g n (λ k l. h k (omega arith)), one (run n) refl) (sym (map-append g (run_states run n) (pick (run n) (n ∷ []) []))))
    where
      one : (c : Bool) → run n ≡ c → map f (pick c (n ∷ []) []) ≡ map g (pick c (n ∷ []) [])
      one true e = rw (h n (omega arith) e)
      one false e = refl

pub runs_same : (f g : ℕ → Bool) (n : ℕ) → ((k : ℕ) → k < n → f k ≡ g k) → run_states f n ≡ run_states g n
runs_same f g zero h = refl
runs_same f g (suc n) h = rw (runs_same f g n (λ k l. h k (omega arith)), h n (omega arith))
