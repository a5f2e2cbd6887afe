-- The tree that is computed of a list of signs is the tree of the grammar, and there is none where they are no sentence.
use mathlib.Core.Path.{◌≡◌, refl, sym, ap, ◌∙◌}
use Prim.Native.Nat.{ℕ, zero, suc, ◌+◌, ◌*◌, ◌<◌, ◌≤◌}
use native.Mathlib.Omega.{arith}
use mathlib.Core.Bool.{true, false, true≢false}
use mathlib.Core.List.{List, [], ◌∷◌}
use lib.ListN.{length}
use lib.Dec.{leb}
use borrow.Author.Tests.{leb-true, leb-false, ne_eqb}
use Rattle.definitions.specs.Bounded.{pick}
use Rattle.definitions.specs.Lines.{Parsed, formed, malformed, on_parsed}
use Rattle.definitions.specs.OneLineSigns.{Sign, true_sign, atom_sign, prefix_sign, infix_sign, open_bracket, close_bracket, Infix, Implies, Or, And, Until, Since}
use Rattle.definitions.specs.OneLineGrammar.{Tree, truth, atom, prefixed, joined, Level, Arrows, Ors, Ands, Untils, Prefixes, Phrase, arrow, no_arrow, or, no_or, and, no_and, until, since, no_until, prefix, no_prefix, truth_alone, atom_alone, bracketed, Sentence}
use Rattle.definitions.specs.OneLineReading.{Grown, grown, strength, right_strength, bracket_closed, operand_by, rule_by, rule_on, tree_at_end, tree_of}
use Rattle.theorems.proofs.Choice.{by_test}
use Rattle.theorems.proofs.Inversions.{never_formed, formed_same}
use Rattle.theorems.proofs.Phrases.{flat, operand, operator, tight, tight_most, phrase_flat, phrase_shorter}
use Rattle.theorems.proofs.PhraseUnique.{unique}

-- the signs end no sentence, however many brackets are open
abbrev Never : List Sign → Type 0
Never s = (k : ℕ) → flat s operand k ≡ false

-- what is found at the front of s: a phrase of the level, after which no sign binds with the strength; or none, and then s ends no sentence
data Result (least : ℕ) (l : Level) (s : List Sign) : Parsed Grown → Type 0 where
  found : (t : Tree) (u : List Sign) → Phrase l s u t → tight u < least → Result least l s (grown t u)
  nothing : Never s → Result least l s malformed

-- what is found first, and then what follows it
then : {least least' : ℕ} {l l' : Level} {s s' : List Sign} (f : Parsed Grown) (g : Grown → Parsed Grown) → Result least l s f
    → ((t : Tree) (u : List Sign) → Phrase l s u t → tight u < least → Result least' l' s' (g (record { tree = t; rest = u })))
    → (Never s → Never s') → Result least' l' s' (on_parsed f malformed g)
unfolding on_parsed
then f g (found t u x h) on never = on t u x h
then f g (nothing e) on never = nothing (never e)

-- the level of a rule whose signs bind with some strength at least
data Least : ℕ → Level → Type 0 where
  least_1 : Least 1 Arrows
  least_3 : Least 3 Ands
  least_4 : Least 4 Untils

right_level : Infix → Level
right_level Implies = Arrows
right_level Or = Ands
right_level And = Untils
right_level Until = Untils
right_level Since = Untils

right_least : (x : Infix) → Least (right_strength x) (right_level x)
unfolding right_level
right_least Implies = least_1
right_least Or = least_3
right_least And = least_4
right_least Until = least_4
right_least Since = least_4

-- first operands that were read, by the sign that was read last
data Held (s u : List Sign) (p : Tree) : ℕ → Type 0 where
  operands : Phrase Prefixes s u p → Held s u p 5
  untils : Phrase Untils s u p → tight u < 4 → Held s u p 4
  ands : Phrase Ands s u p → tight u < 4 → Held s u p 3
  ors : Phrase Ors s u p → tight u < 3 → Held s u p 2
  arrows : Phrase Arrows s u p → tight u < 1 → Held s u p 1

held_flat : {s u : List Sign} {p : Tree} {r : ℕ} → Held s u p r → (k : ℕ) → flat s operand k ≡ flat u operator k
held_flat (operands x) = phrase_flat x
held_flat (untils x h) = phrase_flat x
held_flat (ands x h) = phrase_flat x
held_flat (ors x h) = phrase_flat x
held_flat (arrows x h) = phrase_flat x

-- they are a rule of the level
held_stop : {s u : List Sign} {p : Tree} {r least : ℕ} {l : Level} → Least least l → Held s u p r → least ≤ r → Phrase l s u p
held_stop least_1 (operands x) h = no_arrow (no_or (no_and (no_until x)))
held_stop least_1 (untils x e) h = no_arrow (no_or (no_and x))
held_stop least_1 (ands x e) h = no_arrow (no_or x)
held_stop least_1 (ors x e) h = no_arrow x
held_stop least_1 (arrows x e) h = x
held_stop least_3 (operands x) h = no_and (no_until x)
held_stop least_3 (untils x e) h = no_and x
held_stop least_3 (ands x e) h = x
held_stop least_3 (ors x e) h = absurd (omega arith)
held_stop least_3 (arrows x e) h = absurd (omega arith)
held_stop least_4 (operands x) h = no_until x
held_stop least_4 (untils x e) h = x
held_stop least_4 (ands x e) h = absurd (omega arith)
held_stop least_4 (ors x e) h = absurd (omega arith)
held_stop least_4 (arrows x e) h = absurd (omega arith)

-- a sign joins them to its right operand
held_join : {s v w : List Sign} {p q : Tree} {r : ℕ} (x : Infix) → Held s (infix_sign x ∷ v) p r → Phrase (right_level x) v w q → tight w < right_strength x
    → Held s w (joined x p q) (strength x)
unfolding right_level
held_join Implies (operands x) y h = arrows (arrow (no_or (no_and (no_until x))) y) h
held_join Implies (untils x e) y h = arrows (arrow (no_or (no_and x)) y) h
held_join Implies (ands x e) y h = arrows (arrow (no_or x) y) h
held_join Implies (ors x e) y h = arrows (arrow x y) h
held_join Implies (arrows x e) y h = absurd (omega arith)
held_join Or (operands x) y h = ors (or (no_or (no_and (no_until x))) y) h
held_join Or (untils x e) y h = ors (or (no_or (no_and x)) y) h
held_join Or (ands x e) y h = ors (or (no_or x) y) h
held_join Or (ors x e) y h = ors (or x y) h
held_join Or (arrows x e) y h = absurd (omega arith)
held_join And (operands x) y h = ands (and (no_and (no_until x)) y) h
held_join And (untils x e) y h = ands (and (no_and x) y) h
held_join And (ands x e) y h = ands (and x y) h
held_join And (ors x e) y h = absurd (omega arith)
held_join And (arrows x e) y h = absurd (omega arith)
held_join Until (operands x) y h = untils (until x y) h
held_join Until (untils x e) y h = absurd (omega arith)
held_join Until (ands x e) y h = absurd (omega arith)
held_join Until (ors x e) y h = absurd (omega arith)
held_join Until (arrows x e) y h = absurd (omega arith)
held_join Since (operands x) y h = untils (since x y) h
held_join Since (untils x e) y h = absurd (omega arith)
held_join Since (ands x e) y h = absurd (omega arith)
held_join Since (ors x e) y h = absurd (omega arith)
held_join Since (arrows x e) y h = absurd (omega arith)

-- a bracketed rule, or no bracket closes it
bracket : {s : List Sign} {t : Tree} (u : List Sign) → Phrase Arrows s u t → tight u < 1 → Result 5 Prefixes (open_bracket ∷ s) (bracket_closed t u)
unfolding bracket_closed flat
bracket [] x h = nothing (λ k. phrase_flat x (suc k))
bracket (true_sign ∷ u) x h = nothing (λ k. phrase_flat x (suc k))
bracket (atom_sign n ∷ u) x h = nothing (λ k. phrase_flat x (suc k))
bracket (prefix_sign y ∷ u) x h = nothing (λ k. phrase_flat x (suc k))
bracket (infix_sign Implies ∷ u) x h = absurd (omega arith)
bracket (infix_sign Or ∷ u) x h = absurd (omega arith)
bracket (infix_sign And ∷ u) x h = absurd (omega arith)
bracket (infix_sign Until ∷ u) x h = absurd (omega arith)
bracket (infix_sign Since ∷ u) x h = absurd (omega arith)
bracket (open_bracket ∷ u) x h = nothing (λ k. phrase_flat x (suc k))
bracket {t = t} (close_bracket ∷ u) x h = found t u (no_prefix (bracketed x)) (tight_most u)

-- after a sentence comes nothing
pub ends : (u : List Sign) → flat u operator zero ≡ true → tight u < 1 → u ≡ []
unfolding flat
ends [] e h = refl
ends (true_sign ∷ u) e h = absurd (true≢false (sym e))
ends (atom_sign n ∷ u) e h = absurd (true≢false (sym e))
ends (prefix_sign x ∷ u) e h = absurd (true≢false (sym e))
ends (infix_sign Implies ∷ u) e h = absurd (omega arith)
ends (infix_sign Or ∷ u) e h = absurd (omega arith)
ends (infix_sign And ∷ u) e h = absurd (omega arith)
ends (infix_sign Until ∷ u) e h = absurd (omega arith)
ends (infix_sign Since ∷ u) e h = absurd (omega arith)
ends (open_bracket ∷ u) e h = absurd (true≢false (sym e))
ends (close_bracket ∷ u) e h = absurd (true≢false (sym e))

least_some : {least : ℕ} {l : Level} → Least least l → (0 < least) × (least ≤ 5)
least_some least_1 = (omega arith, omega arith)
least_some least_3 = (omega arith, omega arith)
least_some least_4 = (omega arith, omega arith)

mutual
  unfolding operand_by flat pick

  operand_right : (n : ℕ) (s : List Sign) → length s * 2 ≤ n → Result 5 Prefixes s (operand_by n s)
  operand_right zero [] h = nothing (λ k. refl)
  operand_right zero (x ∷ s) h = absurd (omega arith)
  operand_right (suc n) [] h = nothing (λ k. refl)
  operand_right (suc n) (true_sign ∷ s) h = found truth s (no_prefix truth_alone) (tight_most s)
  operand_right (suc n) (atom_sign m ∷ s) h = found (atom m) s (no_prefix (atom_alone m)) (tight_most s)
  operand_right (suc n) (prefix_sign x ∷ s) h = then (operand_by n s) (λ g. grown (prefixed x g.tree) g.rest) (operand_right n s (omega arith)) (λ t u y k. found (prefixed x t) u (prefix x y) k) (λ e. e)
  operand_right (suc n) (infix_sign x ∷ s) h = nothing (λ k. refl)
  operand_right (suc n) (open_bracket ∷ s) h = then (rule_by n 1 s) (λ g. bracket_closed g.tree g.rest) (rule_right n 1 Arrows least_1 s (omega arith)) (λ t u y k. bracket u y k) (λ e k. e (suc k))
  operand_right (suc n) (close_bracket ∷ s) h = nothing (λ k. refl)

  rule_right : (n least : ℕ) (l : Level) → Least least l → (s : List Sign) → length s * 2 + 1 ≤ n → Result least l s (rule_by n least s)
  rule_right zero least l a s h = absurd (omega arith)
  rule_right (suc n) least l a s h =
      then (operand_by n s) (λ g. rule_on n least g.tree g.rest) (operand_right n s (omega arith))
      (λ t u y k. on_right n least l a s u t 5 (operands y) (least_some a).1 (omega (arith, phrase_shorter y)))
      (λ e. e)

  on_right : (n least : ℕ) (l : Level) → Least least l → (s u : List Sign) (p : Tree) (r : ℕ) → Held s u p r → least ≤ r → length u * 2 + 1 ≤ n
      → Result least l s (rule_on n least p u)
  on_right zero least l a s u p r held le h = absurd (omega arith)
  on_right (suc n) least l a s [] p r held le h = found p [] (held_stop a held le) (least_some a).0
  on_right (suc n) least l a s (true_sign ∷ u) p r held le h = found p (true_sign ∷ u) (held_stop a held le) (least_some a).0
  on_right (suc n) least l a s (atom_sign m ∷ u) p r held le h = found p (atom_sign m ∷ u) (held_stop a held le) (least_some a).0
  on_right (suc n) least l a s (prefix_sign x ∷ u) p r held le h = found p (prefix_sign x ∷ u) (held_stop a held le) (least_some a).0
  on_right (suc n) least l a s (infix_sign x ∷ u) p r held le h =
      by_test (leb least (strength x))
      (λ e. rw e (then (rule_by n (right_strength x) u) (λ g. rule_on n least (joined x p g.tree) g.rest) (rule_right n (right_strength x) (right_level x) (right_least x) u (omega arith))
      (λ t w y k. on_right n least l a s w (joined x p t) (strength x) (held_join x held y k) (leb-true least (strength x) e) (omega (arith, phrase_shorter y)))
      (λ f k. held_flat held k ∙ f k)))
      (λ e. rw e (found p (infix_sign x ∷ u) (held_stop a held le) (leb-false least (strength x) e)))
  on_right (suc n) least l a s (open_bracket ∷ u) p r held le h = found p (open_bracket ∷ u) (held_stop a held le) (least_some a).0
  on_right (suc n) least l a s (close_bracket ∷ u) p r held le h = found p (close_bracket ∷ u) (held_stop a held le) (least_some a).0

-- a sentence is read flat
pub sentence_flat : {s : List Sign} {t : Tree} → Sentence s t → flat s operand 0 ≡ true
unfolding flat
sentence_flat x = phrase_flat x 0

-- what is computed: the tree of a sentence, or none where there is no sentence
data TreeIs (s : List Sign) : Parsed Tree → Type 0 where
  tree : (t : Tree) → Sentence s t → TreeIs s (formed t)
  none : flat s operand 0 ≡ false → TreeIs s malformed

whole_right : {s : List Sign} {t : Tree} (u : List Sign) → Phrase Arrows s u t → tight u < 1 → TreeIs s (tree_at_end (record { tree = t; rest = u }))
unfolding tree_at_end pick
whole_right {t = t} [] x h = tree t x
whole_right {s = s} (y ∷ u) x h =
    let e : flat s operand 0 ≡ false =
    by_test (flat s operand 0)
    (λ e. let z : ◌≡◌ {A = ℕ} (suc (length u)) 0 = ap length (ends (y ∷ u) (sym (phrase_flat x 0) ∙ e) h) in absurd (omega arith))
    (λ e. e) in
    rw (ne_eqb (suc (length u)) 0 (λ q. omega arith)) (none e)

whole_of : (s : List Sign) (f : Parsed Grown) → Result 1 Arrows s f → TreeIs s (on_parsed f malformed tree_at_end)
unfolding on_parsed
whole_of s f (found t u x h) = whole_right u x h
whole_of s f (nothing e) = none (e 0)

tree_right : (s : List Sign) → TreeIs s (tree_of s)
unfolding tree_of
tree_right s = whole_of s (rule_by (length s * 2 + 1) 1 s) (rule_right (length s * 2 + 1) 1 Arrows least_1 s (omega arith))

-- what is computed is in the grammar
pub tree_sentence : (s : List Sign) (t : Tree) → tree_of s ≡ formed t → Sentence s t
tree_sentence s t e = go (tree_of s) e (tree_right s)
  where
    go : (f : Parsed Tree) → f ≡ formed t → TreeIs s f → Sentence s t
    go f e (tree t' x) = rw (formed_same t' t e) at x
    go f e (none h) = absurd (never_formed t e)

-- what is in the grammar is computed
pub sentence_tree : (s : List Sign) (t : Tree) → Sentence s t → tree_of s ≡ formed t
sentence_tree s t x = go (tree_of s) (tree_right s)
  where
    go : (f : Parsed Tree) → TreeIs s f → f ≡ formed t
    go f (tree t' y) = ap formed (unique y x)
    go f (none h) = absurd (true≢false (sym (sentence_flat x) ∙ h))

-- what is not read flat is no sentence
pub flat_no_tree : (s : List Sign) → flat s operand 0 ≡ false → tree_of s ≡ malformed
flat_no_tree s h = go (tree_of s) (tree_right s)
  where
    go : (f : Parsed Tree) → TreeIs s f → f ≡ malformed
    go f (tree t y) = absurd (true≢false (sym (sentence_flat y) ∙ h))
    go f (none e) = refl

-- what is read flat is a sentence
pub record Derived (s : List Sign) : Type 0 where
  pub tree : Tree
  pub computed : tree_of s ≡ formed tree
  pub sentence : Sentence s tree

pub flat_tree : (s : List Sign) → flat s operand 0 ≡ true → Derived s
flat_tree s h = go (tree_of s) (tree_right s) refl
  where
    go : (f : Parsed Tree) → TreeIs s f → tree_of s ≡ f → Derived s
    go f (tree t y) q = record { tree = t; computed = q; sentence = y }
    go f (none e) q = absurd (true≢false (sym h ∙ e))
