-- What the reader's functions ask and promise.
use Rattle.std.specs.Borrow.{Bor}
use Rattle.std.specs.Prelude.{◌≡◌, ◌⊎◌, ℕ, ◌+◌, ◌<◌, ◌≤◌, true, List, ◌∷◌, length, Option, MatchOption}
use Rattle.definitions.specs.Limits.{max_rule_nodes}
use Rattle.definitions.specs.OneLineGrammar.{Tree, Level, Phrase, most_open}
use Rattle.definitions.specs.OneLineNodes.{rule_tree_of, nodes_from}
use Rattle.theorems.proofs.Phrases.{flat, operand, weight, tight}
use Rattle.rules.specs.declared.kind.Kind.{Kind}
use Rattle.rules.specs.declared.kind.Kind.TheVariants as kind
use Rattle.one_line_signs.specs.Signs.{signs_in}
use Rattle.one_line_signs.specs.declared.sign.Infix.{Infix}
use Rattle.one_line_signs.specs.declared.sign.Infix.TheVariants as between
use Rattle.one_line_signs.specs.declared.sign.Prefix.{Prefix}
use Rattle.one_line_signs.specs.declared.sign.Sign.{Sign}
use Rattle.one_line_signs.specs.declared.sign.Sign.TheVariants as sign
use Rattle.one_line_readers.specs.Nodes.{words}
use Rattle.one_line_readers.specs.Laying.{Laid}
use Rattle.one_line_readers.specs.declared.emitted.Emitted.{Emitted}

-- the sign does not come first
abbrev pub NotFirst : Sign → List Sign → Type 0
NotFirst x s = (u : List Sign) → s ≡ (x ∷ u) → ⊥

-- a sign between two operands comes first, and what follows it
abbrev pub InfixFirst : Infix → List Sign → Option (Bor (List Sign)) → Type 0
InfixFirst x s r = MatchOption r (NotFirst (sign.Infix x) s) (λ rest. s ≡ (sign.Infix x ∷ rest.now))

-- `U` or `S` comes first, of which the kind tells which, and what follows it
abbrev pub UntilThere : List Sign → Kind → List Sign → Type 0
UntilThere s k u = ((s ≡ (sign.Infix between.Until ∷ u)) × (k ≡ kind.Until)) ⊎ ((s ≡ (sign.Infix between.Since ∷ u)) × (k ≡ kind.Since))

abbrev pub UntilFirst : List Sign → Option (Kind × Bor (List Sign)) → Type 0
UntilFirst s r = MatchOption r (NotFirst (sign.Infix between.Until) s × NotFirst (sign.Infix between.Since) s) (λ t. UntilThere s t.0 t.1.now)

-- no prefix comes first
abbrev pub NoPrefix : List Sign → Type 0
NoPrefix s = (x : Prefix) → NotFirst (sign.Prefix x) s

-- a prefix comes first, and what follows it
abbrev pub PrefixFirst : List Sign → Option (Prefix × Bor (List Sign)) → Type 0
PrefixFirst s r = MatchOption r (NoPrefix s) (λ t. s ≡ (sign.Prefix t.0 ∷ t.1.now))

-- before a phrase is read: the signs end a sentence in which no more brackets are opened than may be, and there is room for the nodes of all
-- of them
pub record Ready (left : ℕ) (s : List Sign) (out : Emitted) : Type 0 where
  pub opened : ℕ
  pub most : ℕ
  pub due : flat (signs_in s) operand opened ≡ true
  pub deep : most_open most opened (signs_in s) ≤ left + opened
  pub room : out.count + weight (signs_in s) ≤ max_rule_nodes
  pub held : max_rule_nodes ≤ length out.words

-- before a primary is read: no prefix stands there
pub record Primed (left : ℕ) (s : List Sign) (out : Emitted) : Type 0 where
  pub ready : Ready left s out
  pub plain : NoPrefix s

-- the words of a tree's nodes, the first of them at place b
abbrev pub tree_words : Tree → ℕ → List ℕ
tree_words t b = words (nodes_from b (rule_tree_of t))

-- a phrase of the level was read, signs u follow it, and its nodes came out; no sign after it binds with strength b
pub record Read (l : Level) (b : ℕ) (s : List Sign) (out : Emitted) (u : List Sign) (out' : Emitted) : Type 0 where
  pub tree : Tree
  pub phrase : Phrase l (signs_in s) (signs_in u) tree
  pub stops : tight (signs_in u) < b
  pub laid : Laid (tree_words tree out.count) out out'
