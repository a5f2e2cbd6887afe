-- What the check of a rule's table grants: 1 to 64 nodes of a rule's kinds, their operands earlier nodes, their atoms below 32.
use mathlib.Core.Path.{◌≡◌, refl}
use Prim.Native.Nat.{ℕ, zero, suc, ◌+◌, ◌≤◌, ◌<◌}
use native.Mathlib.Numerals.{add-one}
use native.Mathlib.Omega.{arith}
use mathlib.Core.Bool.{false, ◌||◌, true≢false}
use mathlib.Core.List.{List, [], ◌∷◌}
use lib.ListN.{length}
use lib.Dec.{leb}
use borrow.Author.Tests.{leb-false}
use Rattle.definitions.specs.Limits.{max_controllers, max_rule_nodes, atom_count}
use Rattle.definitions.specs.Nodes.{Kind, True, Atom, Not, Or, Next, Until, Prev, Since, Run, End, Unknown, Node, node, node_of}
use Rattle.definitions.specs.Tables.{Rule, node_refusal, nodes_refusal, rule_refusal, nodes_in}
use Rattle.theorems.proofs.Choice.{both_false, or_else_none}
use Rattle.theorems.proofs.NodeLaws.{AcceptedNode, accepted_node, accepted_heading, accepted_rule}

-- a node of a rule, i nodes before it
abbrev pub RuleNode : ℕ → Kind → ℕ → ℕ → Type 0
RuleNode i True a b = Unit {0}
RuleNode i Atom a b = a < atom_count
RuleNode i Not a b = a < i
RuleNode i Or a b = (a < i) × (b < i)
RuleNode i Next a b = a < i
RuleNode i Until a b = (a < i) × (b < i)
RuleNode i Prev a b = a < i
RuleNode i Since a b = (a < i) × (b < i)
RuleNode i Run a b = ⊥
RuleNode i End a b = ⊥
RuleNode i Unknown a b = ⊥

-- nodes of a rule, i nodes before them
abbrev pub RuleNodes : ℕ → List Node → Type 0
RuleNodes i [] = Unit {0}
RuleNodes i (n ∷ ns) = RuleNode i n.kind n.first n.second × RuleNodes (suc i) ns

one_early : (i a : ℕ) → (leb i a || false) ≡ false → a < i
one_early i a h = leb-false i a (both_false (leb i a) false h).0

two_early : (i a b : ℕ) → (leb i a || leb i b) ≡ false → (a < i) × (b < i)
two_early i a b h = let p = both_false (leb i a) (leb i b) h in (leb-false i a p.0, leb-false i b p.1)

rule_node : (i : ℕ) (k : Kind) (a b : ℕ) → AcceptedNode i (node k a b) → RuleNode i k a b
rule_node i True a b t = tt
rule_node i Atom a b t = leb-false atom_count a t.atom
rule_node i Not a b t = one_early i a t.early
rule_node i Or a b t = two_early i a b t.early
rule_node i Next a b t = one_early i a t.early
rule_node i Until a b t = two_early i a b t.early
rule_node i Prev a b t = one_early i a t.early
rule_node i Since a b t = two_early i a b t.early
rule_node i Run a b t = absurd (true≢false t.allowed)
rule_node i End a b t = absurd (true≢false t.allowed)
rule_node i Unknown a b t = absurd (true≢false t.known)

-- nodes that are there, as many as `left` says
record Read (i left : ℕ) (ws : List ℕ) : Type 0 where
  whole : length (nodes_in left ws) ≡ left
  nodes : RuleNodes i (nodes_in left ws)

nodes_read_lem : (i left : ℕ) (ws : List ℕ) → nodes_refusal false i left ws ≡ 0 → Read i left ws
unfolding nodes_refusal
nodes_read_lem i zero ws h = record { whole = refl; nodes = tt }
nodes_read_lem i (suc left) [] h = absurd (omega arith)
nodes_read_lem i (suc left) (w ∷ ws) h =
    let n : Node = node_of w in
    let p = or_else_none (node_refusal false i n) (nodes_refusal false (i + 1) left ws) h in
    let r : Read (suc i) left ws = nodes_read_lem (suc i) left ws (rw add-one at p.1) in
    record { whole = rw r.whole; nodes = (rule_node i n.kind n.first n.second (accepted_node i n p.0), r.nodes) }

module _ (r : Rule) (h : rule_refusal r ≡ 0) where
  limits : (r.controller < max_controllers) × ((1 ≤ r.count) × (r.count ≤ max_rule_nodes))
  limits = accepted_heading r.controller r.count (accepted_rule r h).0

  pub rule_some : 0 < r.count
  rule_some = limits.1.0

  pub rule_few : r.count ≤ max_rule_nodes
  rule_few = limits.1.1

  pub rule_length_lem : length (nodes_in r.count r.nodes) ≡ r.count
  rule_length_lem = (nodes_read_lem 0 r.count r.nodes (accepted_rule r h).1).whole

  pub rule_nodes_lem : RuleNodes 0 (nodes_in r.count r.nodes)
  rule_nodes_lem = (nodes_read_lem 0 r.count r.nodes (accepted_rule r h).1).nodes
