-- What an accepted node and an accepted heading of a rule are.
use mathlib.Core.Path.{◌≡◌, refl}
use Prim.Native.Nat.{ℕ, ◌<◌, ◌≤◌}
use mathlib.Core.Bool.{Bool, true, false, not, ◌&&◌}
use native.Mathlib.Omega.{arith}
use lib.Dec.{eqb, ltb, leb}
use borrow.Author.Tests.{eqb-true, eq-eqb, ltb-true, ltb-false, lt-ltb, leb-true, leb-false, not-false}
use Rattle.definitions.specs.Limits.{rule_limits, rule_operand, max_controllers, max_rule_nodes, atom_count}
use Rattle.definitions.specs.Bounded.{within}
use Rattle.definitions.specs.Nodes.{Kind, Node, operands}
use Rattle.definitions.specs.Tables.{Rule, is_unknown, is_rewritten, is_atom, unused_set, operand_late, node_refusal, nodes_refusal, rule_heading_refusal, rule_refusal}
use Rattle.theorems.proofs.Choice.{by_test, both_true, both_false, other_false, refuse_no, accept_yes, or_else_none}
use Rattle.theorems.proofs.NodeWords.{by_kind}

-- the tests that an accepted node i passed
pub record AcceptedNode (i : ℕ) (n : Node) : Type 0 where
  pub known : is_unknown n.kind ≡ false
  pub allowed : (is_rewritten n.kind && true) ≡ false
  pub atom : (is_atom n.kind && leb atom_count n.first) ≡ false
  pub unused : unused_set n ≡ false
  pub early : (not (is_atom n.kind) && operand_late i n) ≡ false

pub accepted_node : (i : ℕ) (n : Node) → node_refusal false i n ≡ 0 → AcceptedNode i n
unfolding node_refusal
accepted_node i n e =
    let p = refuse_no _ rule_limits _ (omega arith) e in
    let r = refuse_no _ rule_limits _ (omega arith) p.1 in
    let a = refuse_no _ rule_limits _ (omega arith) r.1 in
    let u = refuse_no _ rule_limits _ (omega arith) a.1 in
    let o = refuse_no _ rule_operand _ (omega arith) u.1 in
    record { known = p.0; allowed = r.0; atom = a.0; unused = u.0; early = o.0 }

-- "an unused one is 0"
zero_where : (z : Bool) (a : ℕ) → (z && not (eqb a 0)) ≡ false → z ≡ true → a ≡ 0
zero_where z a e t = eqb-true a 0 (not-false (eqb a 0) (other_false z (not (eqb a 0)) e t))

module _ (n : Node) (u : unused_set n ≡ false) where
  unused_parts : ((eqb (operands n.kind) 0 && not (eqb n.first 0)) ≡ false) × ((ltb (operands n.kind) 2 && not (eqb n.second 0)) ≡ false)
  unused_parts = both_false (eqb (operands n.kind) 0 && not (eqb n.first 0)) (ltb (operands n.kind) 2 && not (eqb n.second 0)) u

  pub first_unused : operands n.kind ≡ 0 → n.first ≡ 0
  first_unused h = zero_where (eqb (operands n.kind) 0) n.first unused_parts.0 (eq-eqb (operands n.kind) 0 h)

  pub second_unused : operands n.kind < 2 → n.second ≡ 0
  second_unused h = zero_where (ltb (operands n.kind) 2) n.second unused_parts.1 (lt-ltb (operands n.kind) 2 h)

-- an operand that is tested is below its limit
below_where : (z : Bool) (i a : ℕ) → (z && leb i a) ≡ false → z ≡ true → a < i
below_where z i a e t = leb-false i a (other_false z (leb i a) e t)

two_operands : (k : Kind) → (is_atom k && not (ltb (operands k) 2)) ≡ false
two_operands = by_kind (λ k. (is_atom k && not (ltb (operands k) 2)) ≡ false) refl refl refl refl refl refl refl refl refl refl refl

-- an atom has one operand
atom_operand : (k : Kind) → is_atom k ≡ true → operands k < 2
atom_operand k a = ltb-true (operands k) 2 (not-false (ltb (operands k) 2) (other_false (is_atom k) (not (ltb (operands k) 2)) (two_operands k) a))

-- operands of an accepted node are below the largest count of nodes
module _ (i : ℕ) (n : Node) (g : AcceptedNode i n) (few : i ≤ max_rule_nodes) where
  late_parts : is_atom n.kind ≡ false
      → ((ltb 0 (operands n.kind) && leb i n.first) ≡ false) × ((ltb 1 (operands n.kind) && leb i n.second) ≡ false)
  late_parts h =
      both_false (ltb 0 (operands n.kind) && leb i n.first) (ltb 1 (operands n.kind) && leb i n.second)
      (other_false (not (is_atom n.kind)) (operand_late i n) g.early (rw h))

  pub first_below : n.first < max_rule_nodes
  first_below =
      by_test (ltb 0 (operands n.kind))
      (λ z. by_test (is_atom n.kind)
      (λ a. omega (arith, below_where (is_atom n.kind) atom_count n.first g.atom a))
      (λ a. omega (arith, below_where (ltb 0 (operands n.kind)) i n.first (late_parts a).0 z)))
      (λ z. let o = ltb-false 0 (operands n.kind) z in omega (arith, first_unused n g.unused (omega arith)))

  pub second_below : n.second < max_rule_nodes
  second_below =
      by_test (ltb 1 (operands n.kind))
      (λ z. by_test (is_atom n.kind)
      (λ a. let o = ltb-true 1 (operands n.kind) z in absurd (omega (arith, atom_operand n.kind a)))
      (λ a. omega (arith, below_where (ltb 1 (operands n.kind)) i n.second (late_parts a).1 z)))
      (λ z. let o = ltb-false 1 (operands n.kind) z in omega (arith, second_unused n g.unused (omega arith)))

-- an accepted heading has its count and its controller within their limits
pub accepted_heading : (c n : ℕ) → rule_heading_refusal c n ≡ 0 → (c < max_controllers) × ((1 ≤ n) × (n ≤ max_rule_nodes))
unfolding rule_heading_refusal
accepted_heading c n e =
    let q = both_true (ltb c max_controllers) (within 1 max_rule_nodes n) (accept_yes _ rule_limits (omega arith) e) in
    let r = both_true (leb 1 n) (leb n max_rule_nodes) q.1 in
    (ltb-true c max_controllers q.0, (leb-true 1 n r.0, leb-true n max_rule_nodes r.1))

-- the parts of an accepted rule
pub accepted_rule : (r : Rule) → rule_refusal r ≡ 0
    → (rule_heading_refusal r.controller r.count ≡ 0) × (nodes_refusal false 0 r.count r.nodes ≡ 0)
unfolding rule_refusal
accepted_rule r e = or_else_none (rule_heading_refusal r.controller r.count) (nodes_refusal false 0 r.count r.nodes) e
