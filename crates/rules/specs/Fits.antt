-- The node that fits: what the check asks first.
use Rattle.std.specs.Prelude.{ℕ, Bool, not, ◌&&◌, ◌||◌, eqb, ltb}
use Rattle.definitions.specs.Limits.{atom_count}
use Rattle.definitions.specs.Bounded.{pick}
use Rattle.definitions.specs.Nodes.{Kind, Node, operands}
use Rattle.definitions.specs.Tables.{is_unknown, is_rewritten, is_atom}

-- the kinds that a rule's table, or (rewritten) the judge's, may hold
abbrev pub is_held : Bool → Kind → Bool
is_held rewritten k = not (is_unknown k) && (not (is_rewritten k) || rewritten)

-- the kinds whose operands are nodes
abbrev pub takes_nodes : Kind → Bool
takes_nodes k = not (is_atom k) && ltb 0 (operands k)

-- a second operand that is not used is 0
abbrev pub unused_clear : Node → Bool
unused_clear n = eqb (operands n.kind) 2 || eqb n.second 0

-- both operands are before node i; an unused one is 0, so it is before i where the other is
abbrev pub early : ℕ → Node → Bool
early i n = ltb n.first i && ltb n.second i

-- an atom's number is below 32, an unused first operand is 0
abbrev pub within : Node → Bool
within n = ltb n.first (pick (is_atom n.kind) atom_count 1)

-- node i of a table fits: its kind may be there, and its operands may be
unfoldable pub node_fits : Bool → ℕ → Node → Bool
node_fits rewritten i n = (is_held rewritten n.kind && unused_clear n) && ((takes_nodes n.kind && early i n) || (not (takes_nodes n.kind) && within n))
