-- "Rules in one line" (document 02): the grammar, as which lists of signs are phrases of which level, and their trees.
use Rattle.std.specs.Prelude.{ℕ, ◌+◌, ◌-◌, List, [], ◌∷◌, ltb}
use Rattle.definitions.specs.Bounded.{pick}
use Rattle.definitions.specs.OneLineSigns.{Sign, true_sign, atom_sign, prefix_sign, infix_sign, open_bracket, close_bracket, Prefix, Infix, Implies, Or, And, Until, Since}

-- a rule as it is typed; its brackets leave no trace
pub data Tree : Type 0 where
  truth : Tree
  atom : ℕ → Tree
  prefixed : Prefix → Tree → Tree
  joined : Infix → Tree → Tree → Tree

-- "Loosest first: `->`, .. `|`, .. `&`, .. then `U` and `S`, .. then prefixes, .. then `true`, `a` with an atom number, or a bracketed rule"
pub data Level : Type 0 where
  Arrows Ors Ands Untils Prefixes Primaries : Level

-- `Phrase level s u t`: the signs s begin with a phrase of the level, whose tree is t, and the signs u come after it
pub data Phrase : Level → List Sign → List Sign → Tree → Type 0 where
  -- "`->` (to the right)"
  arrow : {s v u : List Sign} {p q : Tree} → Phrase Ors s (infix_sign Implies ∷ v) p → Phrase Arrows v u q → Phrase Arrows s u (joined Implies p q)
  no_arrow : {s u : List Sign} {p : Tree} → Phrase Ors s u p → Phrase Arrows s u p
  -- "`|` (to the left)"
  or : {s v u : List Sign} {p q : Tree} → Phrase Ors s (infix_sign Or ∷ v) p → Phrase Ands v u q → Phrase Ors s u (joined Or p q)
  no_or : {s u : List Sign} {p : Tree} → Phrase Ands s u p → Phrase Ors s u p
  -- "`&` (to the left)"
  and : {s v u : List Sign} {p q : Tree} → Phrase Ands s (infix_sign And ∷ v) p → Phrase Untils v u q → Phrase Ands s u (joined And p q)
  no_and : {s u : List Sign} {p : Tree} → Phrase Untils s u p → Phrase Ands s u p
  -- "`U` and `S` (to the right, alike in strength)"
  until : {s v u : List Sign} {p q : Tree} → Phrase Prefixes s (infix_sign Until ∷ v) p → Phrase Untils v u q → Phrase Untils s u (joined Until p q)
  since : {s v u : List Sign} {p q : Tree} → Phrase Prefixes s (infix_sign Since ∷ v) p → Phrase Untils v u q → Phrase Untils s u (joined Since p q)
  no_until : {s u : List Sign} {p : Tree} → Phrase Prefixes s u p → Phrase Untils s u p
  -- "prefixes `! X Y F G`"
  prefix : {s u : List Sign} {p : Tree} (x : Prefix) → Phrase Prefixes s u p → Phrase Prefixes (prefix_sign x ∷ s) u (prefixed x p)
  no_prefix : {s u : List Sign} {p : Tree} → Phrase Primaries s u p → Phrase Prefixes s u p
  -- "`true`, `a` with an atom number, or a bracketed rule"
  truth_alone : {u : List Sign} → Phrase Primaries (true_sign ∷ u) u truth
  atom_alone : {u : List Sign} (n : ℕ) → Phrase Primaries (atom_sign n ∷ u) u (atom n)
  bracketed : {s u : List Sign} {p : Tree} → Phrase Arrows s (close_bracket ∷ u) p → Phrase Primaries (open_bracket ∷ s) u p

-- a "sentence of the grammar", and its tree
abbrev pub Sentence : (s : List Sign) (t : Tree) → Type 0
Sentence s t = Phrase Arrows s [] t

-- the larger of two numbers
unfoldable pub larger : (m n : ℕ) → ℕ
larger m n = pick (ltb m n) n m

-- the most "brackets open at once", where `most` were so far and k are open now
unfoldable pub most_open : (most k : ℕ) (s : List Sign) → ℕ
most_open most k [] = most
most_open most k (true_sign ∷ s) = most_open most k s
most_open most k (atom_sign n ∷ s) = most_open most k s
most_open most k (prefix_sign x ∷ s) = most_open most k s
most_open most k (infix_sign x ∷ s) = most_open most k s
most_open most k (open_bracket ∷ s) = most_open (larger most (k + 1)) (k + 1) s
most_open most k (close_bracket ∷ s) = most_open most (k - 1) s

-- "brackets open at once" in a line's signs
abbrev pub open_at_once : List Sign → ℕ
open_at_once s = most_open 0 0 s
