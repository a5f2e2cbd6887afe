-- The values of a function at places, as a list.
use mathlib.Core.Path.{◌≡◌, refl, sym, ap, ◌∙◌}
use Prim.Native.Nat.{ℕ, zero, suc, ◌+◌, ◌<◌}
use native.Mathlib.Nat.{add-zero, zero-add, not-suc-le-zero, le_of_suc-le-suc}
use native.Mathlib.Omega.{arith}
use mathlib.Core.Bool.{Bool, false}
use mathlib.Core.List.{List, [], ◌∷◌, ◌++◌}
use lib.ListN.{length, take, drop, get_or}
use lib.Seq.{ext_get_or}
use Rattle.definitions.specs.Bounded.{tabulate_from, tabulate}

pub tabulate_length : (n k : ℕ) (f : ℕ → Bool) → length (tabulate_from n k f) ≡ n
tabulate_length zero k f = refl
tabulate_length (suc n) k f = ap suc (tabulate_length n (suc k) f)

pub tabulate_from_at : (n k : ℕ) (f : ℕ → Bool) (i : ℕ) → i < n → get_or (tabulate_from n k f) i false ≡ f (k + i)
tabulate_from_at zero k f i h = absurd (not-suc-le-zero h)
tabulate_from_at (suc n) k f zero h = rw add-zero
tabulate_from_at (suc n) k f (suc i) h =
    let e : suc k + i ≡ k + suc i = omega arith in
    tabulate_from_at n (suc k) f i (le_of_suc-le-suc h) ∙ ap f e

pub tabulate_at : (n : ℕ) (f : ℕ → Bool) (i : ℕ) → i < n → get_or (tabulate n f) i false ≡ f i
tabulate_at n f i h = tabulate_from_at n 0 f i h ∙ ap f (zero-add i)

-- a list is tabulated where it has the values
pub tabulated : (l : List Bool) (n : ℕ) (f : ℕ → Bool) → length l ≡ n → ((i : ℕ) → i < n → get_or l i false ≡ f i) → l ≡ tabulate n f
tabulated l n f e h =
    ext_get_or false l (tabulate n f) (e ∙ sym (tabulate_length n 0 f))
    (λ i hi. let less : i < n = omega arith in h i less ∙ sym (tabulate_at n f i less))

pub tabulate_same : (n : ℕ) (f g : ℕ → Bool) → ((i : ℕ) → i < n → f i ≡ g i) → tabulate n f ≡ tabulate n g
tabulate_same n f g h =
    tabulated (tabulate n f) n g (tabulate_length n 0 f) (λ i less. tabulate_at n f i less ∙ h i less)

pub tabulate_take : (m j k : ℕ) (f : ℕ → Bool) → take m (tabulate_from (m + j) k f) ≡ tabulate_from m k f
tabulate_take zero j k f = refl
tabulate_take (suc m) j k f =
    let e : suc m + j ≡ suc (m + j) = omega arith in
    rw e (ap (λ (l : List Bool). f k ∷ l) (tabulate_take m j (suc k) f))

pub tabulate_drop : (m j k : ℕ) (f : ℕ → Bool) → drop m (tabulate_from (m + j) k f) ≡ tabulate_from j (m + k) f
tabulate_drop zero j k f = rw (zero-add j, zero-add k)
tabulate_drop (suc m) j k f =
    let e : suc m + j ≡ suc (m + j) = omega arith in
    let g : m + suc k ≡ suc m + k = omega arith in
    rw (e, ← g) (tabulate_drop m j (suc k) f)

tabulate_from_snoc : (n k : ℕ) (f : ℕ → Bool) → tabulate_from (suc n) k f ≡ tabulate_from n k f ++ (f (k + n) ∷ [])
tabulate_from_snoc zero k f = rw add-zero
tabulate_from_snoc (suc n) k f = let e : suc k + n ≡ k + suc n = omega arith in ap (λ (l : List Bool). f k ∷ l) (tabulate_from_snoc n (suc k) f ∙ rw e)

-- one place more
pub tabulate_snoc : (n : ℕ) (f : ℕ → Bool) → tabulate (suc n) f ≡ tabulate n f ++ (f n ∷ [])
tabulate_snoc n f = tabulate_from_snoc n 0 f ∙ rw zero-add
