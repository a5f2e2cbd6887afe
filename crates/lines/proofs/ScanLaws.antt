-- Laws of the search for a byte and of comparison: what the library's functions answer is what the definitions say.
use mathlib.Core.Path.{◌≡◌, refl, ap, sym, ◌∙◌}
use Prim.Native.Nat.{ℕ, ◌+◌, ◌≤◌}
use mathlib.Core.List.{List, [], ◌∷◌}
use native.Mathlib.Omega.{arith}
use lib.ListN.{length, take, drop}
use lib.Seq.{length-take-le}
use lib.Dec.{eqb, ltb}
use mathlib.Core.Bool.{cond}
use borrow.Author.Tests.{ltb-false}
use Rattle.std.specs.Prelude.{Option, Some, None, position, unwrap_or}
use Rattle.std.specs.List.{list_all, position_or_len}
use Rattle.std.proofs.lemmas.List.Recursion.{is_position_or_len}
use Rattle.std.proofs.lemmas.Option.{none-some, same_Some}
use Rattle.std.specs.Cmp.Lexicographic.{pointwise}
use Rattle.definitions.specs.Bounded.{pick, within}
use Rattle.definitions.specs.Lines.{before, has, same, letters}
use Rattle.theorems.proofs.Choice.{by_test}
use Rattle.lines.specs.Parts.{Located, split}

pub before_le : (b : ℕ) (s : List ℕ) → before b s ≤ length s
unfolding before pick
before_le b [] = omega arith
before_le b (x ∷ t) = by_test (eqb x b) (λ e. rw (e, before) (omega arith)) (λ e. rw (e, before) (omega (arith, before_le b t)))

-- ---- `until_byte` and `split`
before_position : (b : ℕ) (s : List ℕ) → before b s ≡ position_or_len (λ x. eqb x b) s
unfolding before pick
before_position b s = is_position_or_len (before b) (λ x. eqb x b) refl (λ x t. by_test (eqb x b) (λ e. rw e) (λ e. rw e (omega arith))) s

-- the library's search: where b stands, if it is there
found : (b : ℕ) (s : List ℕ) → position (λ x. eqb x b) s ≡ cond (has b s) (Some (before b s)) None
found b s = ap (λ (n : ℕ). cond (ltb n (length s)) (Some n) None) (sym (before_position b s))

-- a place below the length, or the length
or_length : (n m : ℕ) → n ≤ m → unwrap_or (cond (ltb n m) (Some n) None) m ≡ n
or_length n m h = by_test (ltb n m) (λ e. rw e) (λ e. rw e (omega (arith, ltb-false n m e)))

module _ (b : ℕ) (s : List ℕ) (r : Option ℕ) (is : r ≡ position (λ x. eqb x b) s) where
  answered : r ≡ cond (has b s) (Some (before b s)) None
  answered = is ∙ found b s

  -- `until_byte`: it answers where b stands, or the length
  pub located : Located b s (unwrap_or r (length s))
  located =
      let at : unwrap_or r (length s) ≡ before b s = rw answered (or_length (before b s) (length s) (before_le b s)) in
      record { place = at; within = rw at (before_le b s) }

  -- `split`, no b is there: there are no parts
  pub split_none : r ≡ None → None ≡ split b s
  unfolding split pick
  split_none e = by_test (has b s) (λ h. absurd (none-some (before b s) (sym e ∙ (answered ∙ rw h)))) (λ h. rw h)

  module _ (i : ℕ) (e : r ≡ Some i) where
    -- `split`, b stands at i: the parts before and after it
    pub split_some : Some (take i s, drop (i + 1) s) ≡ split b s
    unfolding split pick
    split_some = by_test (has b s) (λ h. let at : i ≡ before b s = same_Some _ _ (sym e ∙ (answered ∙ rw h)) in rw (h, at)) (λ h. absurd (none-some i (sym (sym e ∙ (answered ∙ rw h)))))

    at_i : i ≤ length s
    at_i = by_test (has b s) (λ h. let at : i ≡ before b s = same_Some _ _ (sym e ∙ (answered ∙ rw h)) in omega (arith, before_le b s)) (λ h. absurd (none-some i (sym (sym e ∙ (answered ∙ rw h)))))

    -- `split`, b stands at i: the part before it has so many bytes
    pub split_counts : length (take i s) ≡ i
    split_counts = length-take-le i s at_i

-- ---- `same`
-- comparison by the library is `same`
pub pointwise_same : (a b : List ℕ) → pointwise eqb a b ≡ same a b
unfolding same
pointwise_same [] [] = refl
pointwise_same [] (y ∷ u) = refl
pointwise_same (x ∷ t) [] = refl
pointwise_same (x ∷ t) (y ∷ u) = rw (pointwise_same t u)

-- ---- `letters`
-- a test of each byte is `letters`
pub all_letters : (s : List ℕ) → list_all (within 97 122) s ≡ letters s
unfolding letters
all_letters [] = refl
all_letters (x ∷ t) = rw (all_letters t)
