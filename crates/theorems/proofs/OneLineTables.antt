-- The table of a rule in one line: as many nodes as its size, and a rule's table that is accepted.
use mathlib.Core.Path.{◌≡◌, refl}
use Prim.Native.Nat.{ℕ, suc, ◌+◌, ◌-◌, ◌<◌, ◌≤◌}
use native.Mathlib.Omega.{arith}
use native.Mathlib.Numerals.{add-one}
use mathlib.Core.Bool.{true, false}
use mathlib.Core.List.{List, [], ◌∷◌, ◌++◌, map}
use lib.ListN.{length, length-append}
use borrow.Author.Tests.{lt-ltb, le-leb}
use Rattle.definitions.specs.Limits.{atom_count, max_controllers, max_rule_nodes, rule_limits}
use Rattle.definitions.specs.Bounded.{pick, or_else}
use Rattle.definitions.specs.Nodes.{Node, node, node_word}
use Rattle.definitions.specs.Tables.{is_rewritten, node_refusal, nodes_refusal, rule_heading_refusal, rule_refusal}
use Rattle.definitions.specs.OneLineSigns as sign
use Rattle.definitions.specs.OneLineGrammar as tree
use Rattle.definitions.specs.OneLineGrammar.{Tree}
use Rattle.definitions.specs.OneLineNodes.{RuleTree, atomic, unary, binary, rule_tree_of, size, nodes_from, nodes_of, largest_atom}
use Rattle.theorems.proofs.Choice.{pick_true, none_or_else}
use Rattle.theorems.proofs.NodeWords.{node_of_word, AllHeld}
use Rattle.theorems.proofs.TableNodes.{TableNodes, nodes_append, nodes_held_lem, node_accepted}
use Rattle.theorems.proofs.Terms.{Unary, not₁, next₁, prev₁, Binary, or₂, until₂, since₂, kind₁, kind₂, Term}
use Rattle.theorems.proofs.Phrases.{larger_second, larger_first}
use Rattle.theorems.proofs.OneLineMeaning.{Writes, writes_true, writes_atom, writes_one, writes_two, tree_writes}

-- as many nodes come out as the size says
pub nodes_size : (f : RuleTree) (b : ℕ) → length (nodes_from b f) ≡ size f
unfolding nodes_from size
nodes_size (atomic k n) b = refl
nodes_size (unary k p) b = omega (arith, length-append (nodes_from b p) (node k (b + size p - 1) 0 ∷ []), nodes_size p b)
nodes_size (binary k p q) b =
    let last = node k (b + size p - 1) (b + size p + size q - 1) ∷ [] in
    omega (
      arith,
      length-append (nodes_from b p) (nodes_from (b + size p) q ++ last),
      length-append (nodes_from (b + size p) q) last,
      nodes_size p b,
      nodes_size q (b + size p),
    )

pub size_some : (f : RuleTree) → 0 < size f
unfolding size
size_some (atomic k n) = omega arith
size_some (unary k p) = omega arith
size_some (binary k p q) = omega arith

-- each atom is below m
abbrev AtomsBelow : ℕ → RuleTree → Type 0
AtomsBelow m (atomic k n) = n < m
AtomsBelow m (unary k p) = AtomsBelow m p
AtomsBelow m (binary k p q) = AtomsBelow m p × AtomsBelow m q

tree_atoms : (m : ℕ) (t : Tree) → largest_atom t < m → AtomsBelow m (rule_tree_of t)
unfolding rule_tree_of largest_atom
tree_atoms m tree.truth h = h
tree_atoms m (tree.atom n) h = h
tree_atoms m (tree.prefixed sign.Not p) h = tree_atoms m p h
tree_atoms m (tree.prefixed sign.Next p) h = tree_atoms m p h
tree_atoms m (tree.prefixed sign.Prev p) h = tree_atoms m p h
tree_atoms m (tree.prefixed sign.Future p) h = (omega arith, tree_atoms m p h)
tree_atoms m (tree.prefixed sign.Always p) h = (omega arith, tree_atoms m p h)
tree_atoms m (tree.joined sign.Implies p q) h = (tree_atoms m p (omega (arith, larger_first (largest_atom p) (largest_atom q))), tree_atoms m q (omega (arith, larger_second (largest_atom p) (largest_atom q))))
tree_atoms m (tree.joined sign.Or p q) h = (tree_atoms m p (omega (arith, larger_first (largest_atom p) (largest_atom q))), tree_atoms m q (omega (arith, larger_second (largest_atom p) (largest_atom q))))
tree_atoms m (tree.joined sign.And p q) h = (tree_atoms m p (omega (arith, larger_first (largest_atom p) (largest_atom q))), tree_atoms m q (omega (arith, larger_second (largest_atom p) (largest_atom q))))
tree_atoms m (tree.joined sign.Until p q) h = (tree_atoms m p (omega (arith, larger_first (largest_atom p) (largest_atom q))), tree_atoms m q (omega (arith, larger_second (largest_atom p) (largest_atom q))))
tree_atoms m (tree.joined sign.Since p q) h = (tree_atoms m p (omega (arith, larger_first (largest_atom p) (largest_atom q))), tree_atoms m q (omega (arith, larger_second (largest_atom p) (largest_atom q))))

-- no kind that only rewritten tables have
abbrev RuleKinds : List Node → Type 0
RuleKinds [] = Unit {0}
RuleKinds (n ∷ T) = (is_rewritten n.kind ≡ false) × RuleKinds T

kinds_append : (T U : List Node) → RuleKinds T → RuleKinds U → RuleKinds (T ++ U)
kinds_append [] U t u = u
kinds_append (n ∷ T) U t u = (t.0, kinds_append T U t.1 u)

unary_kind : (o : Unary) → is_rewritten (kind₁ o) ≡ false
unary_kind not₁ = refl
unary_kind next₁ = refl
unary_kind prev₁ = refl

binary_kind : (o : Binary) → is_rewritten (kind₂ o) ≡ false
binary_kind or₂ = refl
binary_kind until₂ = refl
binary_kind since₂ = refl

rule_kinds : {f : RuleTree} {x : Term} → Writes f x → (b : ℕ) → RuleKinds (nodes_from b f)
unfolding nodes_from
rule_kinds writes_true b = (refl, tt)
rule_kinds (writes_atom n) b = (refl, tt)
rule_kinds (writes_one {p} o w) b = kinds_append (nodes_from b p) _ (rule_kinds w b) (unary_kind o, tt)
rule_kinds (writes_two {p} {q} o v w) b =
    kinds_append (nodes_from b p) _ (rule_kinds v b) (kinds_append (nodes_from (b + size p) q) _ (rule_kinds w (b + size p)) (binary_kind o, tt))

-- operands are earlier nodes, atoms are low
unary_node : (o : Unary) (i a : ℕ) → a < i → TableNodes i (node (kind₁ o) a 0 ∷ [])
unary_node not₁ i a h = ((h, refl), tt)
unary_node next₁ i a h = ((h, refl), tt)
unary_node prev₁ i a h = ((h, refl), tt)

binary_node : (o : Binary) (i a b : ℕ) → a < i → b < i → TableNodes i (node (kind₂ o) a b ∷ [])
binary_node or₂ i a b h k = ((h, k), tt)
binary_node until₂ i a b h k = ((h, k), tt)
binary_node since₂ i a b h k = ((h, k), tt)

rule_nodes_lem : {f : RuleTree} {x : Term} → Writes f x → (b : ℕ) → AtomsBelow atom_count f → TableNodes b (nodes_from b f)
unfolding nodes_from
rule_nodes_lem writes_true b a = ((refl, refl), tt)
rule_nodes_lem (writes_atom n) b a = ((a, refl), tt)
rule_nodes_lem (writes_one {p} o w) b a =
    nodes_append b (nodes_from b p) _ (rule_nodes_lem w b a) (unary_node o (b + length (nodes_from b p)) (b + size p - 1) (omega (arith, nodes_size p b, size_some p)))
rule_nodes_lem (writes_two {p} {q} o v w) b a =
    let e : b + length (nodes_from b p) ≡ b + size p = omega (arith, nodes_size p b) in
    nodes_append b (nodes_from b p) _ (rule_nodes_lem v b a.0)
    (rw e (nodes_append (b + size p) (nodes_from (b + size p) q) _ (rule_nodes_lem w (b + size p) a.1)
    (binary_node o (b + size p + length (nodes_from (b + size p) q)) (b + size p - 1) (b + size p + size q - 1)
    (omega (arith, nodes_size q (b + size p), size_some q)) (omega (arith, nodes_size q (b + size p), size_some q)))))

rule_node_accepted : (i : ℕ) (n : Node) → is_rewritten n.kind ≡ false → node_refusal true i n ≡ 0 → node_refusal false i n ≡ 0
unfolding node_refusal
rule_node_accepted i n r e = rw r (rw r at e)

rule_nodes_accepted : (i : ℕ) (T : List Node) (more : List ℕ) → AllHeld T → RuleKinds T → TableNodes i T → nodes_refusal false i (length T) (map node_word T ++ more) ≡ 0
unfolding nodes_refusal or_else pick
rule_nodes_accepted i [] more h r t = refl
rule_nodes_accepted i (n ∷ T) more h r t =
    rw (node_of_word n h.0, rule_node_accepted i n r.0 (node_accepted i n.kind n.first n.second t.0), add-one i)
    (rule_nodes_accepted (suc i) T more h.1 r.1 t.1)

-- the nodes of a tree within the limits are an accepted rule, whatever lies past them
pub tree_accepted : (controller : ℕ) (t : Tree) (more : List ℕ) → length (nodes_of t) ≤ max_rule_nodes → largest_atom t < atom_count → controller < max_controllers
    → rule_refusal (record { controller = controller; count = length (nodes_of t); nodes = map node_word (nodes_of t) ++ more }) ≡ 0
unfolding rule_refusal rule_heading_refusal
tree_accepted controller t more few low c =
    let w = tree_writes t in
    let n : 1 ≤ length (nodes_of t) = omega (arith, nodes_size (rule_tree_of t) 0, size_some (rule_tree_of t)) in
    let nodes = rule_nodes_lem w 0 (tree_atoms atom_count t low) in
    let held = nodes_held_lem 0 (nodes_of t) (omega arith) nodes in
    none_or_else _ _
    (pick_true _ 0 rule_limits (rw (lt-ltb controller max_controllers c, le-leb 1 (length (nodes_of t)) n, le-leb (length (nodes_of t)) max_rule_nodes few)))
    (rule_nodes_accepted 0 (nodes_of t) more held (rule_kinds w 0) nodes)
