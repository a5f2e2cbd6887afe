-- What the check of a rule's table or of the judge's grants the evaluator.
use mathlib.Core.Path.{◌≡◌, refl, sym, ap, ◌∙◌}
use mathlib.Core.Bool.{Bool, true, false, not, ◌&&◌, ◌||◌, true≢false}
use mathlib.Core.List.{List, [], ◌∷◌}
use Prim.Native.Nat.{ℕ, zero, suc, ◌+◌, ◌<◌, ◌≤◌}
use native.Mathlib.Omega.{arith}
use lib.Dec.{eqb, leb}
use lib.ListN.{length, get_or}
use borrow.Author.Tests.{eqb-true, leb-false, not-false}
use Rattle.definitions.specs.Limits.{rule_limits, rule_operand, atom_count}
use Rattle.definitions.specs.Nodes.{Kind, True, Atom, Not, Or, Next, Until, Prev, Since, Run, End, Unknown, Node, node, node_of}
use Rattle.definitions.specs.Tables.{is_unknown, is_rewritten, is_atom, unused_set, operand_late, node_refusal, nodes_refusal, nodes_in}
use Rattle.theorems.proofs.Choice.{both_false, refuse_no, or_else_none}
use Rattle.rules.specs.Kinds.{is_leaf, Fit}

-- the tests that an accepted node i passed
record Passed (rewritten : Bool) (i : ℕ) (n : Node) : Type 0 where
  known : is_unknown n.kind ≡ false
  allowed : (is_rewritten n.kind && not rewritten) ≡ false
  atom : (is_atom n.kind && leb atom_count n.first) ≡ false
  unused : unused_set n ≡ false
  early : (not (is_atom n.kind) && operand_late i n) ≡ false

passed : (rewritten : Bool) (i : ℕ) (n : Node) → node_refusal rewritten i n ≡ 0 → Passed rewritten i n
unfolding node_refusal
passed rewritten i n e =
    let p = refuse_no _ rule_limits _ (omega arith) e in
    let r = refuse_no _ rule_limits _ (omega arith) p.1 in
    let a = refuse_no _ rule_limits _ (omega arith) r.1 in
    let u = refuse_no _ rule_limits _ (omega arith) a.1 in
    let o = refuse_no _ rule_operand _ (omega arith) u.1 in
    record { known = p.0; allowed = r.0; atom = a.0; unused = u.0; early = o.0 }

-- one operand: it is earlier, and the other is 0
one_early : (i a b : ℕ) → (leb i a || false) ≡ false → (not (eqb b 0)) ≡ false → (a < i) × (b < i)
one_early i a b h u =
    let first = leb-false i a (both_false (leb i a) false h).0 in
    let second = eqb-true b 0 (not-false (eqb b 0) u) in
    (first, omega arith)

two_early : (i a b : ℕ) → (leb i a || leb i b) ≡ false → (a < i) × (b < i)
two_early i a b h = let p = both_false (leb i a) (leb i b) h in (leb-false i a p.0, leb-false i b p.1)

operands_early : (rewritten : Bool) (i : ℕ) (k : Kind) (a b : ℕ) → Passed rewritten i (node k a b) → is_leaf k ≡ false → (a < i) × (b < i)
operands_early rewritten i True a b t h = absurd (true≢false h)
operands_early rewritten i Atom a b t h = absurd (true≢false h)
operands_early rewritten i Not a b t h = one_early i a b t.early t.unused
operands_early rewritten i Or a b t h = two_early i a b t.early
operands_early rewritten i Next a b t h = one_early i a b t.early t.unused
operands_early rewritten i Until a b t h = two_early i a b t.early
operands_early rewritten i Prev a b t h = one_early i a b t.early t.unused
operands_early rewritten i Since a b t h = two_early i a b t.early
operands_early rewritten i Run a b t h = absurd (true≢false h)
operands_early rewritten i End a b t h = absurd (true≢false h)
operands_early rewritten i Unknown a b t h = absurd (true≢false h)

known_kind : (k : Kind) → is_unknown k ≡ false → k ≡ Unknown → ⊥
known_kind k h e = absurd (true≢false (sym (ap is_unknown e) ∙ h))

pub atom_below : (k : Kind) (a : ℕ) → (is_atom k && leb atom_count a) ≡ false → k ≡ Atom → a < atom_count
atom_below k a h e = leb-false atom_count a (rw e at h)

pub node_fit : (rewritten : Bool) (i : ℕ) (n : Node) → node_refusal rewritten i n ≡ 0 → Fit i n
node_fit rewritten i n e =
    let t : Passed rewritten i n = passed rewritten i n e in
    record {
      known = known_kind n.kind t.known;
      atom = atom_below n.kind n.first t.atom;
      first = λ h. (operands_early rewritten i n.kind n.first n.second t h).0;
      second = λ h. (operands_early rewritten i n.kind n.first n.second t h).1;
    }

-- a node of a rule is no run and no end
pub rule_kind : (i : ℕ) (n : Node) → node_refusal false i n ≡ 0 → is_rewritten n.kind ≡ false
rule_kind i n e = both_left (is_rewritten n.kind) (passed false i n e).allowed
  where
    both_left : (b : Bool) → (b && true) ≡ false → b ≡ false
    both_left true h = h
    both_left false h = refl

-- ---- all nodes of a table

abbrev pub Each : (Node → Type 0) → List Node → Type 0
Each P [] = Unit {0}
Each P (n ∷ ns) = P n × Each P ns

module _ (rewritten : Bool) where
  pub each_node : (P : Node → Type 0) → ((i : ℕ) (n : Node) → node_refusal rewritten i n ≡ 0 → P n)
      → (i count : ℕ) (ws : List ℕ) → nodes_refusal rewritten i count ws ≡ 0 → Each P (nodes_in count ws)
  unfolding nodes_refusal
  each_node P f i zero ws h = tt
  each_node P f i (suc count) [] h = absurd (omega arith)
  each_node P f i (suc count) (w ∷ ws) h =
      let p = or_else_none (node_refusal rewritten i (node_of w)) (nodes_refusal rewritten (i + 1) count ws) h in
      (f i (node_of w) p.0, each_node P f (i + 1) count ws p.1)

  pub nodes_there_lem : (i count : ℕ) (ws : List ℕ) → nodes_refusal rewritten i count ws ≡ 0 → count ≤ length ws
  unfolding nodes_refusal
  nodes_there_lem i zero ws h = omega arith
  nodes_there_lem i (suc count) [] h = absurd (omega arith)
  nodes_there_lem i (suc count) (w ∷ ws) h =
      let p = or_else_none (node_refusal rewritten i (node_of w)) (nodes_refusal rewritten (i + 1) count ws) h in
      omega (arith, nodes_there_lem (i + 1) count ws p.1)

  nodes_fit_from : (i count : ℕ) (ws : List ℕ) → nodes_refusal rewritten i count ws ≡ 0 → (j : ℕ) → j < count → Fit (i + j) (node_of (get_or ws j 0))
  unfolding nodes_refusal
  nodes_fit_from i zero ws h j l = absurd (omega arith)
  nodes_fit_from i (suc count) [] h j l = absurd (omega arith)
  nodes_fit_from i (suc count) (w ∷ ws) h zero l =
      let e : i + 0 ≡ i = omega arith in
      rw e (node_fit rewritten i (node_of w) (or_else_none (node_refusal rewritten i (node_of w)) (nodes_refusal rewritten (i + 1) count ws) h).0)
  nodes_fit_from i (suc count) (w ∷ ws) h (suc j) l =
      let e : i + suc j ≡ (i + 1) + j = omega arith in
      rw e (nodes_fit_from (i + 1) count ws (or_else_none (node_refusal rewritten i (node_of w)) (nodes_refusal rewritten (i + 1) count ws) h).1 j (omega arith))

  pub nodes_fit : (count : ℕ) (ws : List ℕ) → nodes_refusal rewritten 0 count ws ≡ 0 → (j : ℕ) → j < count → Fit j (node_of (get_or ws j 0))
  nodes_fit count ws h j l = let e : 0 + j ≡ j = omega arith in rw e at (nodes_fit_from 0 count ws h j l)
