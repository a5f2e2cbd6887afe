-- What the node type of the code means: a node of the definitions.
use Rattle.std.specs.Prelude.{ℕ, ◌/◌, ◌%◌, ◌*◌, ◌<◌, ◌≡◌}
use Rattle.definitions.specs.Nodes as table
use Rattle.definitions.specs.Nodes.{Kind, Unknown, node, kind_span, operand_span, node_of}
use Rattle.rules.specs.Kinds.{kind_in, number_in}
use Rattle.rules.specs.declared.node.Node.{Node}

abbrev pub meaning : Node → table.Node
meaning n = node (kind_in n.kind) n.first n.second

-- r is the node that the word w is
pub record OfWord (w : ℕ) (r : Node) : Type 0 where
  pub meant : meaning r ≡ node_of w
  pub kind : number_in r.kind ≡ w % kind_span
  pub first : r.first ≡ w / kind_span % operand_span
  pub second : r.second ≡ w / (kind_span * operand_span)
  pub first_low : r.first < operand_span
  pub second_low : r.second < operand_span

-- a node that a word can hold: its kind is known, its operands fit their parts of the word
pub record Wordable (n : Node) : Type 0 where
  pub kind : kind_in n.kind ≡ Unknown → ⊥
  pub first : n.first < operand_span
  pub second : n.second < operand_span
