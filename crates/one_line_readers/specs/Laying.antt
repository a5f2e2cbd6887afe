-- Words of nodes that come out one after another.
use Rattle.std.specs.Prelude.{◌≡◌, ℕ, ◌+◌, ◌<◌, ◌≤◌, List, length}
use Rattle.definitions.specs.Limits.{max_rule_nodes}
use Rattle.definitions.specs.Nodes.{Unknown, operand_span}
use Rattle.definitions.specs.OneLineSigns.{Prefix}
use Rattle.rules.specs.Kinds.{kind_in}
use Rattle.rules.specs.declared.kind.Kind.{Kind}
use Rattle.printing.specs.Printing.{laid_at}
use Rattle.one_line_readers.specs.Nodes.{prefix_last}
use Rattle.one_line_readers.specs.declared.emitted.Emitted.{Emitted}

-- the words came out after those that were there, and nothing else changed
pub record Laid (ws : List ℕ) (out out' : Emitted) : Type 0 where
  pub next : out'.count ≡ out.count + length ws
  pub lies : out'.words ≡ laid_at out.count ws out.words
  pub kept : length out'.words ≡ length out.words
  pub fit : out'.count ≤ length out.words

-- a node came out
pub record NodeThere (out : Emitted) : Type 0 where
  pub some : 0 < out.count
  pub few : out.count ≤ max_rule_nodes

-- room for k nodes
pub record Space (k : ℕ) (out : Emitted) : Type 0 where
  pub room : out.count + k ≤ max_rule_nodes
  pub held : max_rule_nodes ≤ length out.words

-- room for k nodes behind an operand
pub record SpaceBehind (k : ℕ) (out : Emitted) : Type 0 where
  pub behind : 0 < out.count
  pub space : Space k out

-- room for a node, whose operands a word can hold
pub record SpaceFor (k : Kind) (a b : ℕ) (out : Emitted) : Type 0 where
  pub known : kind_in k ≡ Unknown → ⊥
  pub first : a < operand_span
  pub second : b < operand_span
  pub space : Space 1 out

-- room for k nodes behind an operand, one of which takes node a first
pub record SpaceOver (k : ℕ) (kind : Kind) (a : ℕ) (out : Emitted) : Type 0 where
  pub known : kind_in kind ≡ Unknown → ⊥
  pub first : a < operand_span
  pub space : SpaceBehind k out

-- room for the nodes after a prefix's operand; the prefix begins at node b
pub record SpaceLast (x : Prefix) (b : ℕ) (out : Emitted) : Type 0 where
  pub order : b < out.count
  pub space : Space (length (prefix_last x b out.count)) out
