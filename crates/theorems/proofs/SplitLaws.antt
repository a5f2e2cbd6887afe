-- A text split at a byte, and joined again.
use mathlib.Core.Path.{◌≡◌, refl, ap, sym, ◌∙◌}
use Prim.Native.Nat.{ℕ, suc, ◌+◌, ◌<◌}
use mathlib.Core.List.{List, [], ◌∷◌, ◌++◌}
use mathlib.Core.Bool.{true, false}
use lib.ListN.{length, take, drop, get_or, length-append}
use lib.Seq.{take_all, take_at, drop-append-add, split_at}
use native.Mathlib.Omega.{arith}
use native.Mathlib.Numerals.{add-one}
use lib.Dec.{eqb, ltb}
use borrow.Author.Tests.{eq-eqb, ne_eqb, eqb-true, lt-ltb, le-ltb, ltb-true, ltb-false}
use Rattle.definitions.specs.Bounded.{pick}
use Rattle.definitions.specs.Lines.{before}
use Rattle.theorems.proofs.Choice.{by_test}

-- byte b is not in the text
abbrev pub Without : ℕ → List ℕ → Type 0
Without b t = before b t ≡ length t

module _ (b x : ℕ) (t : List ℕ) where
  pub before_here : eqb x b ≡ true → before b (x ∷ t) ≡ 0
  unfolding before pick
  before_here e = rw (e, before)

  pub before_later : eqb x b ≡ false → before b (x ∷ t) ≡ suc (before b t)
  unfolding before pick
  before_later e = rw (e, before)

  pub without_cons : (x ≡ b → ⊥) → Without b t → Without b (x ∷ t)
  without_cons n h = before_later (ne_eqb x b n) ∙ ap suc h

  -- a text without b, from its second byte on
  pub without_first : Without b (x ∷ t) → (eqb x b ≡ false) × Without b t
  without_first h = by_test (eqb x b) (λ e. absurd (omega (arith, before_here e))) (λ e. (e, omega (arith, before_later e)))

pub without_none : (b : ℕ) → Without b []
unfolding before
without_none b = refl

-- a byte above b is not b
pub without_one : (b x : ℕ) → b < x → Without b (x ∷ [])
without_one b x h = without_cons b x [] (λ q. omega arith) (without_none b)

pub without_append : (b : ℕ) (xs ys : List ℕ) → Without b xs → Without b ys → Without b (xs ++ ys)
without_append b [] ys h k = k
without_append b (x ∷ t) ys h k =
    let f = without_first b x t h in before_later b x (t ++ ys) f.0 ∙ ap suc (without_append b t ys f.1 k)

-- split what was joined
module _ (b : ℕ) (ys : List ℕ) where
  before_seam : (xs : List ℕ) → Without b xs → before b (xs ++ (b ∷ ys)) ≡ length xs
  before_seam [] h = before_here b b ys (eq-eqb b b refl)
  before_seam (x ∷ t) h = let f = without_first b x t h in before_later b x (t ++ (b ∷ ys)) f.0 ∙ ap suc (before_seam t f.1)

  module _ (xs : List ℕ) (h : Without b xs) where
    pub split_front : take (before b (xs ++ (b ∷ ys))) (xs ++ (b ∷ ys)) ≡ xs
    split_front = take_at xs (b ∷ ys) (before b (xs ++ (b ∷ ys))) (sym (before_seam xs h))

    pub split_rest : drop (before b (xs ++ (b ∷ ys)) + 1) (xs ++ (b ∷ ys)) ≡ ys
    split_rest = rw (before_seam xs h) (drop-append-add xs (b ∷ ys) 1)

    pub split_found : ltb (before b (xs ++ (b ∷ ys))) (length (xs ++ (b ∷ ys))) ≡ true
    split_found = lt-ltb (before b (xs ++ (b ∷ ys))) (length (xs ++ (b ∷ ys))) (omega (arith, before_seam xs h, length-append xs (b ∷ ys)))

-- the byte that was found is b
pub found_byte : (b : ℕ) (t : List ℕ) → before b t < length t → get_or t (before b t) 0 ≡ b
found_byte b [] h = absurd (omega arith)
found_byte b (x ∷ t) h =
    by_test (eqb x b)
    (λ e. rw (before_here b x t e) (eqb-true x b e))
    (λ e. rw (before_later b x t e) (found_byte b t (omega (arith, before_later b x t e))))

-- join what was split
module _ (b : ℕ) (t : List ℕ) where
  pub join : ltb (before b t) (length t) ≡ true → take (before b t) t ++ (b ∷ drop (before b t + 1) t) ≡ t
  join h =
      let l : before b t < length t = ltb-true _ _ h in
      let s = split_at t (before b t) 0 l in
      rw add-one (sym (rw (found_byte b t l) at s))

  -- without b, all of the text stands before it
  pub all_front : ltb (before b t) (length t) ≡ false → take (before b t) t ≡ t
  all_front h = take_all (before b t) t (ltb-false _ _ h)

  -- no b is found where there is none
  pub without_whole : Without b t → ltb (before b t) (length t) ≡ false
  without_whole h = le-ltb (before b t) (length t) (omega arith)
