-- The check of a rule's table and of the judge's table (document 01, with the eleven controllers of document 02): the first refusal that is met, 0 for none.
use Rattle.std.specs.Prelude.{ℕ, zero, suc, ◌+◌, Bool, true, false, not, ◌&&◌, ◌||◌, List, [], ◌∷◌, map, take, eqb, ltb, leb}
use Rattle.definitions.specs.Limits.{max_controllers, max_rule_nodes, max_table_nodes, atom_count, rule_limits, rule_operand, rule_lines, accepted}
use Rattle.definitions.specs.Bounded.{pick, within, or_else}
use Rattle.definitions.specs.Nodes.{Kind, Atom, Unknown, kind_number, Node, operands, node_of}

-- a rule as tables: its controller, its node count, and its nodes, one word each
pub record Rule : Type 0 where
  pub controller : ℕ
  pub count : ℕ
  pub nodes : List ℕ

-- the rule of these
abbrev pub rule_of : (controller count : ℕ) (nodes : List ℕ) → Rule
rule_of controller count nodes = record { controller = controller; count = count; nodes = nodes }

-- the judge's table: its node count, its nodes, and "two tops"
pub record Table : Type 0 where
  pub count : ℕ
  pub nodes : List ℕ
  pub weak_top : ℕ
  pub strong_top : ℕ

-- the table of these
abbrev pub table_of : (count : ℕ) (nodes : List ℕ) (weak_top strong_top : ℕ) → Table
table_of count nodes weak_top strong_top = record { count = count; nodes = nodes; weak_top = weak_top; strong_top = strong_top }

-- "an unknown kind"
abbrev pub is_unknown : Kind → Bool
is_unknown k = eqb (kind_number k) (kind_number Unknown)

-- "8 and 9 only in rewritten tables"
abbrev pub is_rewritten : Kind → Bool
is_rewritten k = within 8 9 (kind_number k)

-- "for atom it is 0 to 31"
abbrev pub is_atom : Kind → Bool
is_atom k = eqb (kind_number k) (kind_number Atom)

-- an unused operand is not 0
abbrev pub unused_set : Node → Bool
unused_set n = (eqb (operands n.kind) 0 && not (eqb n.first 0)) || (ltb (operands n.kind) 2 && not (eqb n.second 0))

-- an operand of node i is not an earlier node
abbrev pub operand_late : (i : ℕ) (n : Node) → Bool
operand_late i n = (ltb 0 (operands n.kind) && leb i n.first) || (ltb 1 (operands n.kind) && leb i n.second)

-- "a rule line or node", from 2 on: node i of a rule's table or, rewritten, of the judge's, which may hold run and end
unfoldable pub node_refusal : (rewritten : Bool) (i : ℕ) (n : Node) → ℕ
node_refusal rewritten i n =
    pick (is_unknown n.kind) rule_limits
    (pick (is_rewritten n.kind && not rewritten) rule_limits
    (pick (is_atom n.kind && leb atom_count n.first) rule_limits
    (pick (unused_set n) rule_limits
    (pick (not (is_atom n.kind) && operand_late i n) rule_operand accepted))))

-- the nodes from node i on, as many as `remaining` says: "lines in order"; "with fewer entries than its count has a line missing"
unfoldable pub nodes_refusal : (rewritten : Bool) (i remaining : ℕ) (ws : List ℕ) → ℕ
nodes_refusal rewritten i zero ws = accepted
nodes_refusal rewritten i (suc remaining) [] = rule_lines
nodes_refusal rewritten i (suc remaining) (w ∷ ws) = or_else (node_refusal rewritten i (node_of w)) (nodes_refusal rewritten (i + 1) remaining ws)

-- 2 for "a count, controller or atom outside its limits": the controller and the count
unfoldable pub rule_heading_refusal : (controller count : ℕ) → ℕ
rule_heading_refusal controller count = pick (ltb controller max_controllers && within 1 max_rule_nodes count) accepted rule_limits

-- the check of a rule's table
unfoldable pub rule_refusal : Rule → ℕ
rule_refusal r = or_else (rule_heading_refusal r.controller r.count) (nodes_refusal false 0 r.count r.nodes)

-- "A top not below the count is 2, tested after the nodes and 4"
unfoldable pub tops_refusal : Table → ℕ
tops_refusal t = pick (ltb t.weak_top t.count && ltb t.strong_top t.count) accepted rule_limits

-- "The judge's table may hold 1,024 nodes, run and end"
unfoldable pub table_refusal : Table → ℕ
table_refusal t =
    or_else (pick (within 1 max_table_nodes t.count) accepted rule_limits)
    (or_else (nodes_refusal true 0 t.count t.nodes) (tops_refusal t))

-- "entries past the count aren't read"
abbrev pub nodes_in : (count : ℕ) (ws : List ℕ) → List Node
nodes_in count ws = map node_of (take count ws)
