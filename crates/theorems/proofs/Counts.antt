-- Node counts of rewritten tables: sums of the bracketed numbers of document 01; short is never above plain; the most that either has.
use mathlib.Core.Path.{◌≡◌, refl}
use Prim.Native.Nat.{ℕ, suc, ◌+◌, ◌*◌, ◌<◌, ◌≤◌}
use native.Mathlib.Omega.{arith}
use mathlib.Core.Bool.{Bool, true, false, ◌&&◌}
use mathlib.Core.List.{List, [], ◌∷◌}
use lib.ListN.{length, length-append}
use Rattle.definitions.specs.Bounded.{pick, bit_of}
use Rattle.definitions.specs.Nodes.{Kind, True, Atom, Not, Or, Next, Until, Prev, Since, Run, End, Unknown, Node, node}
use Rattle.definitions.specs.Rewriting.{Emit, emitted, emit, opening, itself, foreign_atom, plain_next, plain_until, plain_since, short_next, short_until, short_since, Image, image, tolerant_at, meanings_of, part, Draft, step, steps, closing, closed, last_image, rewriting}
use Rattle.definitions.specs.Longest.{most_nodes}
use Rattle.theorems.proofs.RuleNodes.{RuleNode, RuleNodes}

emitted_count : (just n : ℕ) (es : List Emit) → length (emitted just n es) ≡ length es
emitted_count just n [] = refl
emitted_count just n (e ∷ es) = rw (emitted_count n (suc n) es)

pub emit_count : (T : List Node) (es : List Emit) → length (emit T es) ≡ length T + length es
emit_count T es = rw (length-append, emitted_count)

-- the bracketed numbers, of documents 01 and 02
abbrev pub cost : Bool → ℕ → List Image → Kind → ℕ → ℕ → ℕ
cost short mask is True a b = 1
cost short mask is Atom a b = pick (bit_of mask a) 1 5
cost short mask is Not a b = 2
cost short mask is Or a b = 2
cost short mask is Next a b = pick (short && tolerant_at is a) 6 10
cost short mask is Until a b = pick (short && (tolerant_at is a && tolerant_at is b)) 6 11
cost short mask is Prev a b = 10
cost short mask is Since a b = pick (short && (tolerant_at is a && tolerant_at is b)) 2 10
cost short mask is Run a b = 0
cost short mask is End a b = 0
cost short mask is Unknown a b = 0

-- both images of a node, by its bracketed number
pub part_count : (short : Bool) (mask : ℕ) (is : List Image) (x g h : ℕ) (k : Kind) (a b : ℕ) →
    length (part short true k (meanings_of mask is (node k a b) true x g)) + length (part short false k (meanings_of mask is (node k a b) false x h)) ≡ cost short mask is k a b
unfolding pick
part_count short mask is x g h True a b = refl
part_count short mask is x g h Atom a b = go (bit_of mask a)
  where
    go : (c : Bool) → length (pick c (itself true Atom a) (foreign_atom true x a)) + length (pick c (itself false Atom a) (foreign_atom false x a)) ≡ pick c 1 5
    go true = refl
    go false = refl
part_count short mask is x g h Not a b = refl
part_count short mask is x g h Or a b = refl
part_count short mask is x g h Next a b = go (short && tolerant_at is a)
  where
    go : (c : Bool) → length (pick c (short_next true (image true is a)) (plain_next true (image true is a)))
        + length (pick c (short_next false (image false is a)) (plain_next false (image false is a))) ≡ pick c 6 10
    go true = refl
    go false = refl
part_count short mask is x g h Until a b = go (short && (tolerant_at is a && tolerant_at is b))
  where
    go : (c : Bool) → length (pick c (short_until true (image true is a) (image true is b)) (plain_until true g (image true is a) (image true is b)))
        + length (pick c (short_until false (image false is a) (image false is b)) (plain_until false h (image false is a) (image false is b))) ≡ pick c 6 11
    go true = refl
    go false = refl
part_count short mask is x g h Prev a b = refl
part_count short mask is x g h Since a b = go (short && (tolerant_at is a && tolerant_at is b))
  where
    go : (c : Bool) → length (pick c (short_since (image true is a) (image true is b)) (plain_since g (image true is a) (image true is b)))
        + length (pick c (short_since (image false is a) (image false is b)) (plain_since h (image false is a) (image false is b))) ≡ pick c 2 10
    go true = refl
    go false = refl
part_count short mask is x g h Run a b = refl
part_count short mask is x g h End a b = refl
part_count short mask is x g h Unknown a b = refl

pub step_count : (short : Bool) (mask : ℕ) (D : Draft) (n : Node) →
    length (step short mask D n).nodes ≡ length D.nodes + cost short mask D.images n.kind n.first n.second
step_count short mask D n =
    let x : ℕ = length D.nodes in
    let w : List Emit = part short true n.kind (meanings_of mask D.images n true x x) in
    let T : List Node = emit D.nodes w in
    let s : List Emit = part short false n.kind (meanings_of mask D.images n false x (length T)) in
    omega (arith, emit_count D.nodes w, emit_count T s, part_count short mask D.images x x (length T) n.kind n.first n.second)

-- the costs of a rule's nodes in turn
abbrev pub costs : Bool → ℕ → Draft → List Node → ℕ
costs short mask D [] = 0
costs short mask D (n ∷ ns) = cost short mask D.images n.kind n.first n.second + costs short mask (step short mask D n) ns

pub steps_count : (short : Bool) (mask : ℕ) (D : Draft) (ns : List Node) →
    length (steps short mask D ns).nodes ≡ length D.nodes + costs short mask D ns
steps_count short mask D [] = omega arith
steps_count short mask D (n ∷ ns) = omega (arith, steps_count short mask (step short mask D n) ns, step_count short mask D n)

-- the draft before the first of a rule's nodes
abbrev pub opened : Draft
opened = record { nodes = opening; images = [] }

-- the rule is tolerant
abbrev pub tolerant_rule : Draft → Bool
tolerant_rule D = (last_image D.images).tolerant

pub closed_count : (c : Bool) (T : List Node) (i : Image) → length (closed c T i).nodes ≡ length T + pick c 0 8
unfolding pick
closed_count true T i = omega arith
closed_count false T i =
    let w : List Emit = closing true i.weak in
    let s : List Emit = closing false i.strong in
    omega (arith, emit_count T w, emit_count (emit T w) s)

pub rewriting_count : (short : Bool) (mask : ℕ) (ns : List Node) →
    length (rewriting short mask ns).nodes ≡ 11 + costs short mask opened ns + pick (short && tolerant_rule (steps short mask opened ns)) 0 8
unfolding rewriting
rewriting_count short mask ns =
    let D : Draft = steps short mask opened ns in
    omega (arith, steps_count short mask opened ns, closed_count (short && tolerant_rule D) D.nodes (last_image D.images))

pick_most : (c : Bool) (a b : ℕ) → a ≤ b → pick c a b ≤ b
unfolding pick
pick_most true a b h = h
pick_most false a b h = omega arith

pub cost_most : (short : Bool) (mask : ℕ) (is js : List Image) (k : Kind) (a b : ℕ) → cost short mask is k a b ≤ cost false mask js k a b
unfolding pick
cost_most short mask is js True a b = omega arith
cost_most short mask is js Atom a b = omega arith
cost_most short mask is js Not a b = omega arith
cost_most short mask is js Or a b = omega arith
cost_most short mask is js Next a b = pick_most (short && tolerant_at is a) 6 10 (omega arith)
cost_most short mask is js Until a b = pick_most (short && (tolerant_at is a && tolerant_at is b)) 6 11 (omega arith)
cost_most short mask is js Prev a b = omega arith
cost_most short mask is js Since a b = pick_most (short && (tolerant_at is a && tolerant_at is b)) 2 10 (omega arith)
cost_most short mask is js Run a b = omega arith
cost_most short mask is js End a b = omega arith
cost_most short mask is js Unknown a b = omega arith

costs_most : (short : Bool) (mask : ℕ) (D P : Draft) (ns : List Node) → costs short mask D ns ≤ costs false mask P ns
costs_most short mask D P [] = omega arith
costs_most short mask D P (n ∷ ns) =
    let h : cost short mask D.images n.kind n.first n.second ≤ cost false mask P.images n.kind n.first n.second
    = cost_most short mask D.images P.images n.kind n.first n.second in
    omega (arith, costs_most short mask (step short mask D n) (step false mask P n) ns)

pub short_not_above_plain : (mask : ℕ) (ns : List Node) → length (rewriting true mask ns).nodes ≤ length (rewriting false mask ns).nodes
unfolding pick
short_not_above_plain mask ns =
    omega (
      arith,
      rewriting_count true mask ns,
      rewriting_count false mask ns,
      costs_most true mask opened opened ns,
      pick_most (tolerant_rule (steps true mask opened ns)) 0 8 (omega arith),
    )

cost_bound : (mask : ℕ) (is : List Image) (k : Kind) (a b : ℕ) → cost false mask is k a b ≤ 11
unfolding pick
cost_bound mask is True a b = omega arith
cost_bound mask is Atom a b = omega (arith, pick_most (bit_of mask a) 1 5 (omega arith))
cost_bound mask is Not a b = omega arith
cost_bound mask is Or a b = omega arith
cost_bound mask is Next a b = omega arith
cost_bound mask is Until a b = omega arith
cost_bound mask is Prev a b = omega arith
cost_bound mask is Since a b = omega arith
cost_bound mask is Run a b = omega arith
cost_bound mask is End a b = omega arith
cost_bound mask is Unknown a b = omega arith

costs_bound : (mask : ℕ) (D : Draft) (ns : List Node) → costs false mask D ns ≤ 11 * length ns
costs_bound mask D [] = omega arith
costs_bound mask D (n ∷ ns) =
    omega (arith, cost_bound mask D.images n.kind n.first n.second, costs_bound mask (step false mask D n) ns)

-- the first node of a rule has no earlier node: it is true or an atom
first_cost : (mask : ℕ) (is : List Image) (k : Kind) (a b : ℕ) → RuleNode 0 k a b → cost false mask is k a b ≤ 5
unfolding pick
first_cost mask is True a b h = omega arith
first_cost mask is Atom a b h = pick_most (bit_of mask a) 1 5 (omega arith)
first_cost mask is Not a b h = omega arith
first_cost mask is Or a b h = omega arith
first_cost mask is Next a b h = absurd (omega arith)
first_cost mask is Until a b h = absurd (omega arith)
first_cost mask is Prev a b h = absurd (omega arith)
first_cost mask is Since a b h = absurd (omega arith)
first_cost mask is Run a b h = absurd h
first_cost mask is End a b h = absurd h
first_cost mask is Unknown a b h = absurd h

plain_most : (mask : ℕ) (ns : List Node) → 0 < length ns → RuleNodes 0 ns → length (rewriting false mask ns).nodes ≤ most_nodes (length ns)
unfolding pick
plain_most mask [] h r = absurd (omega arith)
plain_most mask (n ∷ ns) h r =
    omega (
      arith,
      rewriting_count false mask (n ∷ ns),
      first_cost mask [] n.kind n.first n.second r.0,
      costs_bound mask (step false mask opened n) ns,
    )

-- "No rule may exceed it", plain or short
pub rewriting_most : (short : Bool) (mask : ℕ) (ns : List Node) → 0 < length ns → RuleNodes 0 ns
    → length (rewriting short mask ns).nodes ≤ most_nodes (length ns)
rewriting_most false mask ns h r = plain_most mask ns h r
rewriting_most true mask ns h r = omega (arith, plain_most mask ns h r, short_not_above_plain mask ns)
