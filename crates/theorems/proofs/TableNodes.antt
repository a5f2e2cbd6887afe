-- Nodes that the check of the judge's table accepts.
use mathlib.Core.Path.{◌≡◌, refl}
use Prim.Native.Nat.{ℕ, suc, ◌+◌, ◌-◌, ◌≤◌, ◌<◌}
use native.Mathlib.Nat.{add-zero, zero-add}
use native.Mathlib.Numerals.{add-one}
use native.Mathlib.Omega.{arith}
use mathlib.Core.Bool.{true}
use mathlib.Core.List.{List, [], ◌∷◌, ◌++◌, map}
use lib.ListN.{length}
use borrow.Author.Tests.{lt-leb, eq-eqb}
use Rattle.definitions.specs.Limits.{atom_count}
use Rattle.definitions.specs.Bounded.{pick, or_else}
use Rattle.definitions.specs.Nodes.{Kind, True, Atom, Not, Or, Next, Until, Prev, Since, Run, End, Unknown, Node, node, node_word, operand_span}
use Rattle.definitions.specs.Tables.{node_refusal, nodes_refusal}
use Rattle.definitions.specs.Rewriting.{Emit, emitted, emit}
use Rattle.theorems.proofs.NodeWords.{node_of_word, AllHeld}

-- a node of the judge's table, i nodes before it
abbrev pub TableNode : ℕ → Kind → ℕ → ℕ → Type 0
TableNode i True a b = (a ≡ 0) × (b ≡ 0)
TableNode i Atom a b = (a < atom_count) × (b ≡ 0)
TableNode i Not a b = (a < i) × (b ≡ 0)
TableNode i Or a b = (a < i) × (b < i)
TableNode i Next a b = (a < i) × (b ≡ 0)
TableNode i Until a b = (a < i) × (b < i)
TableNode i Prev a b = (a < i) × (b ≡ 0)
TableNode i Since a b = (a < i) × (b < i)
TableNode i Run a b = (a ≡ 0) × (b ≡ 0)
TableNode i End a b = (a ≡ 0) × (b ≡ 0)
TableNode i Unknown a b = ⊥

-- nodes of the judge's table, i nodes before them
abbrev pub TableNodes : ℕ → List Node → Type 0
TableNodes i [] = Unit {0}
TableNodes i (n ∷ T) = TableNode i n.kind n.first n.second × TableNodes (suc i) T

pub nodes_append : (i : ℕ) (T U : List Node) → TableNodes i T → TableNodes (i + length T) U → TableNodes i (T ++ U)
nodes_append i [] U t u = rw add-zero at u
nodes_append i (n ∷ T) U t u =
    let e : i + suc (length T) ≡ suc i + length T = omega arith in
    (t.0, nodes_append (suc i) T U t.1 (rw e at u))

-- a table stays one when nodes of one are emitted
pub emit_nodes : (T : List Node) (es : List Emit) → TableNodes 0 T → TableNodes (length T) (emitted (length T - 1) (length T) es) → TableNodes 0 (emit T es)
emit_nodes T es t u = nodes_append 0 T (emitted (length T - 1) (length T) es) t (rw zero-add u)

pub node_accepted : (i : ℕ) (k : Kind) (a b : ℕ) → TableNode i k a b → node_refusal true i (node k a b) ≡ 0
unfolding node_refusal pick
node_accepted i True a b t = rw (eq-eqb a 0 t.0, eq-eqb b 0 t.1)
node_accepted i Atom a b t = rw (lt-leb atom_count a t.0, eq-eqb b 0 t.1)
node_accepted i Not a b t = rw (eq-eqb b 0 t.1, lt-leb i a t.0)
node_accepted i Or a b t = rw (lt-leb i a t.0, lt-leb i b t.1)
node_accepted i Next a b t = rw (eq-eqb b 0 t.1, lt-leb i a t.0)
node_accepted i Until a b t = rw (lt-leb i a t.0, lt-leb i b t.1)
node_accepted i Prev a b t = rw (eq-eqb b 0 t.1, lt-leb i a t.0)
node_accepted i Since a b t = rw (lt-leb i a t.0, lt-leb i b t.1)
node_accepted i Run a b t = rw (eq-eqb a 0 t.0, eq-eqb b 0 t.1)
node_accepted i End a b t = rw (eq-eqb a 0 t.0, eq-eqb b 0 t.1)
node_accepted i Unknown a b t = absurd t

first_held : (i : ℕ) (k : Kind) (a b : ℕ) → i ≤ operand_span → TableNode i k a b → a < operand_span
first_held i True a b l t = omega arith
first_held i Atom a b l t = omega arith
first_held i Not a b l t = omega arith
first_held i Or a b l t = omega arith
first_held i Next a b l t = omega arith
first_held i Until a b l t = omega arith
first_held i Prev a b l t = omega arith
first_held i Since a b l t = omega arith
first_held i Run a b l t = omega arith
first_held i End a b l t = omega arith
first_held i Unknown a b l t = absurd t

pub nodes_held_lem : (i : ℕ) (T : List Node) → i + length T ≤ operand_span → TableNodes i T → AllHeld T
nodes_held_lem i [] l t = tt
nodes_held_lem i (n ∷ T) l t = (first_held i n.kind n.first n.second (omega arith) t.0, nodes_held_lem (suc i) T (omega arith) t.1)

pub nodes_accepted : (i : ℕ) (T : List Node) (more : List ℕ) → AllHeld T → TableNodes i T → nodes_refusal true i (length T) (map node_word T ++ more) ≡ 0
unfolding nodes_refusal or_else pick
nodes_accepted i [] more h t = refl
nodes_accepted i (n ∷ T) more h t =
    rw (node_of_word n h.0, node_accepted i n.kind n.first n.second t.0, add-one i)
    (nodes_accepted (suc i) T more h.1 t.1)
