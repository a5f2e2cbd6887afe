-- The reading is unique: the steps of a reader from left to right, which are determined by the signs, follow every phrase.
use mathlib.Core.Path.{◌≡◌, refl}
use Prim.Native.Nat.{ℕ, ◌<◌}
use native.Mathlib.Omega.{arith}
use mathlib.Core.List.{List, ◌∷◌}
use Rattle.definitions.specs.OneLineSigns.{Sign, true_sign, atom_sign, prefix_sign, infix_sign, open_bracket, close_bracket, Prefix, Implies, Or, And, Until, Since}
use Rattle.definitions.specs.OneLineGrammar.{Tree, truth, atom, prefixed, joined, Level, Arrows, Ors, Ands, Untils, Prefixes, Primaries, Phrase, arrow, no_arrow, or, no_or, and, no_and, until, since, no_until, prefix, no_prefix, truth_alone, atom_alone, bracketed, Sentence}
use Rattle.theorems.proofs.Phrases.{tight}

-- what a reader is about: a phrase, or what may come after a first operand that it has read
data Goal : Type 0 where
  arrows ors ands untils operand : Goal
  arrows_after ors_after ands_after untils_after : Tree → Goal

-- the reader's steps
data Read : Goal → List Sign → List Sign → Tree → Type 0 where
  r_arrows : {s v u : List Sign} {p t : Tree} → Read ors s v p → Read (arrows_after p) v u t → Read arrows s u t
  r_arrow : {v u : List Sign} {p q : Tree} → Read arrows v u q → Read (arrows_after p) (infix_sign Implies ∷ v) u (joined Implies p q)
  r_arrow_stop : {u : List Sign} {p : Tree} → tight u < 1 → Read (arrows_after p) u u p
  r_ors : {s v u : List Sign} {p t : Tree} → Read ands s v p → Read (ors_after p) v u t → Read ors s u t
  r_or : {v w u : List Sign} {p q t : Tree} → Read ands v w q → Read (ors_after (joined Or p q)) w u t → Read (ors_after p) (infix_sign Or ∷ v) u t
  r_or_stop : {u : List Sign} {p : Tree} → tight u < 2 → Read (ors_after p) u u p
  r_ands : {s v u : List Sign} {p t : Tree} → Read untils s v p → Read (ands_after p) v u t → Read ands s u t
  r_and : {v w u : List Sign} {p q t : Tree} → Read untils v w q → Read (ands_after (joined And p q)) w u t → Read (ands_after p) (infix_sign And ∷ v) u t
  r_and_stop : {u : List Sign} {p : Tree} → tight u < 3 → Read (ands_after p) u u p
  r_untils : {s v u : List Sign} {p t : Tree} → Read operand s v p → Read (untils_after p) v u t → Read untils s u t
  r_until : {v u : List Sign} {p q : Tree} → Read untils v u q → Read (untils_after p) (infix_sign Until ∷ v) u (joined Until p q)
  r_since : {v u : List Sign} {p q : Tree} → Read untils v u q → Read (untils_after p) (infix_sign Since ∷ v) u (joined Since p q)
  r_until_stop : {u : List Sign} {p : Tree} → tight u < 4 → Read (untils_after p) u u p
  r_prefix : {s u : List Sign} {p : Tree} (x : Prefix) → Read operand s u p → Read operand (prefix_sign x ∷ s) u (prefixed x p)
  r_true : {u : List Sign} → Read operand (true_sign ∷ u) u truth
  r_atom : {u : List Sign} (n : ℕ) → Read operand (atom_sign n ∷ u) u (atom n)
  r_brackets : {s u : List Sign} {p : Tree} → Read arrows s (close_bracket ∷ u) p → Read operand (open_bracket ∷ s) u p

-- what following a phrase of a level means; to the left, a reader goes on with what it has read
abbrev Follows : Level → List Sign → List Sign → Tree → Type 0
Follows Arrows s u p = tight u < 1 → Read arrows s u p
Follows Ors s v p = tight v < 3 → (u : List Sign) (t : Tree) → Read (ors_after p) v u t → Read ors s u t
Follows Ands s v p = tight v < 4 → (u : List Sign) (t : Tree) → Read (ands_after p) v u t → Read ands s u t
Follows Untils s u p = tight u < 4 → Read untils s u p
Follows Prefixes s u p = Read operand s u p
Follows Primaries s u p = Read operand s u p

follow : {l : Level} {s u : List Sign} {t : Tree} → Phrase l s u t → Follows l s u t
follow (arrow x y) = λ h. r_arrows (follow x (omega arith) _ _ (r_or_stop (omega arith))) (r_arrow (follow y h))
follow (no_arrow x) = λ h. r_arrows (follow x (omega arith) _ _ (r_or_stop (omega arith))) (r_arrow_stop h)
follow (or x y) = λ h u t k. follow x (omega arith) u t (r_or (follow y (omega arith) _ _ (r_and_stop h)) k)
follow (no_or x) = λ h u t k. r_ors (follow x (omega arith) _ _ (r_and_stop h)) k
follow (and x y) = λ h u t k. follow x (omega arith) u t (r_and (follow y h) k)
follow (no_and x) = λ h u t k. r_ands (follow x h) k
follow (until x y) = λ h. r_untils (follow x) (r_until (follow y h))
follow (since x y) = λ h. r_untils (follow x) (r_since (follow y h))
follow (no_until x) = λ h. r_untils (follow x) (r_until_stop h)
follow (prefix x y) = r_prefix x (follow y)
follow (no_prefix x) = follow x
follow truth_alone = r_true
follow (atom_alone n) = r_atom n
follow (bracketed x) = r_brackets (follow x (omega arith))

-- two readings are one
pub record Same (u u' : List Sign) (t t' : Tree) : Type 0 where
  pub rest : u ≡ u'
  pub tree : t ≡ t'

same_refl : {u : List Sign} {t : Tree} → Same u u t t
same_refl = record { rest = refl; tree = refl }

tail_same : {a b : Sign} {u v : List Sign} → (a ∷ u) ≡ (b ∷ v) → u ≡ v
tail_same e = cc

same : {g : Goal} {s u u' : List Sign} {t t' : Tree} → Read g s u t → Read g s u' t' → Same u u' t t'
same (r_arrows x y) (r_arrows x' y') = let e = same x x' in same y (rw (e.rest, e.tree) y')
same (r_arrow x) (r_arrow x') = let e = same x x' in record { rest = e.rest; tree = rw e.tree }
same (r_arrow x) (r_arrow_stop h) = absurd (omega arith)
same (r_arrow_stop h) (r_arrow x) = absurd (omega arith)
same (r_arrow_stop h) (r_arrow_stop h') = same_refl
same (r_ors x y) (r_ors x' y') = let e = same x x' in same y (rw (e.rest, e.tree) y')
same (r_or x y) (r_or x' y') = let e = same x x' in same y (rw (e.rest, e.tree) y')
same (r_or x y) (r_or_stop h) = absurd (omega arith)
same (r_or_stop h) (r_or x y) = absurd (omega arith)
same (r_or_stop h) (r_or_stop h') = same_refl
same (r_ands x y) (r_ands x' y') = let e = same x x' in same y (rw (e.rest, e.tree) y')
same (r_and x y) (r_and x' y') = let e = same x x' in same y (rw (e.rest, e.tree) y')
same (r_and x y) (r_and_stop h) = absurd (omega arith)
same (r_and_stop h) (r_and x y) = absurd (omega arith)
same (r_and_stop h) (r_and_stop h') = same_refl
same (r_untils x y) (r_untils x' y') = let e = same x x' in same y (rw (e.rest, e.tree) y')
same (r_until x) (r_until x') = let e = same x x' in record { rest = e.rest; tree = rw e.tree }
same (r_since x) (r_since x') = let e = same x x' in record { rest = e.rest; tree = rw e.tree }
same (r_until x) (r_until_stop h) = absurd (omega arith)
same (r_since x) (r_until_stop h) = absurd (omega arith)
same (r_until_stop h) (r_until x) = absurd (omega arith)
same (r_until_stop h) (r_since x) = absurd (omega arith)
same (r_until_stop h) (r_until_stop h') = same_refl
same (r_prefix x y) (r_prefix x' y') = let e = same y y' in record { rest = e.rest; tree = rw e.tree }
same r_true r_true = same_refl
same (r_atom n) (r_atom m) = same_refl
same (r_brackets x) (r_brackets x') = let e = same x x' in record { rest = tail_same e.rest; tree = e.tree }

-- the reading is unique
pub unique : {s : List Sign} {t t' : Tree} → Sentence s t → Sentence s t' → t ≡ t'
unique x y = (same (follow x (omega arith)) (follow y (omega arith))).tree
