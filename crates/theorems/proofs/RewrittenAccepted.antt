-- The rewritten table of an accepted rule is accepted by the judge's check.
use mathlib.Core.Path.{◌≡◌, refl}
use Prim.Native.Nat.{ℕ, suc, ◌+◌, ◌-◌, ◌≤◌, ◌<◌}
use native.Mathlib.Nat.{add-zero}
use native.Mathlib.Omega.{arith}
use native.Mathlib.Decide.{dec_lt}
use mathlib.Core.Bool.{Bool, true, false, not, ◌&&◌, true≢false}
use mathlib.Core.List.{List, [], ◌∷◌, ◌++◌, map}
use lib.ListN.{length, length-append, get_or-append}
use lib.Seq.{get_or_at}
use borrow.Author.Tests.{lt-ltb, le-leb}
use Rattle.definitions.specs.Limits.{atom_count, max_table_nodes}
use Rattle.definitions.specs.Bounded.{pick, or_else, bit_of}
use Rattle.definitions.specs.Nodes.{Kind, True, Atom, Not, Or, Next, Until, Prev, Since, Run, End, Unknown, Node, node_word, node}
use Rattle.definitions.specs.Tables.{Rule, rule_refusal, tops_refusal, table_refusal, nodes_in}
use Rattle.definitions.specs.Rewriting.{Emit, emitted, emit, itself, foreign_atom, plain_next, plain_until, plain_since, short_next, short_until, short_since, Image, no_image, image_of, image, tolerant_at, tolerant_of, meanings_of, part, Draft, step, steps, Rewritten, closing, closed, last_image, rewriting}
use Rattle.definitions.specs.Operations.{rewritten_of}
use Rattle.definitions.specs.Longest.{most_nodes}
use Rattle.theorems.proofs.NodeWords.{AllHeld, nodes_words}
use Rattle.theorems.proofs.Counts.{emit_count, opened, rewriting_most}
use Rattle.theorems.proofs.RuleNodes.{RuleNode, RuleNodes, rule_nodes_lem, rule_length_lem, rule_some, rule_few}
use Rattle.theorems.proofs.TableNodes.{TableNodes, emit_nodes, nodes_held_lem, nodes_accepted}

-- what is emitted from node m on, j just before it, the operands' images below m
module _ (j m : ℕ) (big : 11 ≤ m) (just : j < m) where
  atom_nodes : (c weak : Bool) (x a : ℕ) → (weak ≡ false → x < m) → a < atom_count →
      TableNodes m (emitted j m (pick c (itself weak Atom a) (foreign_atom weak x a)))
  unfolding pick
  atom_nodes true true x a f p = search arith depth 20
  atom_nodes true false x a f p = tt
  atom_nodes false true x a f p = search arith depth 20
  atom_nodes false false x a f p = let q : x < m = f refl in search arith depth 20

  next_nodes : (c weak : Bool) (a : ℕ) → a < m → TableNodes m (emitted j m (pick c (short_next weak a) (plain_next weak a)))
  unfolding pick
  next_nodes true true a p = search arith depth 20
  next_nodes true false a p = search arith depth 20
  next_nodes false true a p = search arith depth 20
  next_nodes false false a p = search arith depth 20

  until_nodes : (c weak : Bool) (a b : ℕ) → a < m → b < m → TableNodes m (emitted j m (pick c (short_until weak a b) (plain_until weak m a b)))
  unfolding pick
  until_nodes true true a b p q = search arith depth 20
  until_nodes true false a b p q = search arith depth 20
  until_nodes false true a b p q = search arith depth 20
  until_nodes false false a b p q = search arith depth 20

  since_nodes : (c : Bool) (a b : ℕ) → a < m → b < m → TableNodes m (emitted j m (pick c (short_since a b) (plain_since m a b)))
  unfolding pick
  since_nodes true a b p q = search arith depth 20
  since_nodes false a b p q = search arith depth 20

  closing_nodes : (weak : Bool) (a : ℕ) → a < m → TableNodes m (emitted j m (closing weak a))
  closing_nodes true a p = search arith depth 20
  closing_nodes false a p = search arith depth 20

  module _ (k : ℕ) (is : List Image) (low : (weak : Bool) (a : ℕ) → a < k → image weak is a < m) where
    part_nodes : (short : Bool) (mask x : ℕ) (weak : Bool) → (weak ≡ false → x < m) → (K : Kind) (a b : ℕ) → RuleNode k K a b →
        TableNodes m (emitted j m (part short weak K (meanings_of mask is (node K a b) weak x m)))
    part_nodes short mask x true f True a b r = search arith
    part_nodes short mask x false f True a b r = tt
    part_nodes short mask x weak f Atom a b r = atom_nodes (bit_of mask a) weak x a f r
    part_nodes short mask x weak f Not a b r = search (arith, low (not weak) a r)
    part_nodes short mask x weak f Or a b r = search (arith, low weak a r.0, low weak b r.1)
    part_nodes short mask x weak f Next a b r = next_nodes (short && tolerant_at is a) weak (image weak is a) (low weak a r)
    part_nodes short mask x weak f Until a b r =
        until_nodes (short && (tolerant_at is a && tolerant_at is b)) weak (image weak is a) (image weak is b) (low weak a r.0) (low weak b r.1)
    part_nodes short mask x weak f Prev a b r = search (arith, low weak a r) depth 20
    part_nodes short mask x weak f Since a b r =
        since_nodes (short && (tolerant_at is a && tolerant_at is b)) (image weak is a) (image weak is b) (low weak a r.0) (low weak b r.1)
    part_nodes short mask x weak f Run a b r = absurd r
    part_nodes short mask x weak f End a b r = absurd r
    part_nodes short mask x weak f Unknown a b r = absurd r

-- a draft of k of a rule's nodes: its nodes are accepted, each image is one of them
pub record Drafted (k : ℕ) (D : Draft) : Type 0 where
  pub big : 11 ≤ length D.nodes
  pub nodes : TableNodes 0 D.nodes
  pub sizes : length D.images ≡ k
  pub low : (weak : Bool) (a : ℕ) → a < k → image weak D.images a < length D.nodes

low_snoc : (m k : ℕ) (is : List Image) (i : Image) (weak : Bool) → length is ≡ k → ((a : ℕ) → a < k → image weak is a < m) → image_of weak i < m →
    (a : ℕ) → a < suc k → image weak (is ++ (i ∷ [])) a < m
low_snoc m k is i weak e low h a l = go (dec_lt a k)
  where
    go : Dec (a < k) → image weak (is ++ (i ∷ [])) a < m
    go (yes p) = rw (get_or-append is (i ∷ []) no_image a (omega arith)) (low a p)
    go (no p) = rw (get_or_at is i [] no_image a (omega arith)) h

some_pick : (c : Bool) (es fs : List Emit) → 0 < length es → 0 < length fs → 0 < length (pick c es fs)
unfolding pick
some_pick true es fs p q = p
some_pick false es fs p q = q

-- a weak image emits a node at least
weak_some : (short : Bool) (mask : ℕ) (is : List Image) (k x g : ℕ) (K : Kind) (a b : ℕ) → RuleNode k K a b → 0 < length (part short true K (meanings_of mask is (node K a b) true x g))
weak_some short mask is k x g True a b r = omega arith
weak_some short mask is k x g Atom a b r = some_pick (bit_of mask a) (itself true Atom a) (foreign_atom true x a) (omega arith) (omega arith)
weak_some short mask is k x g Not a b r = omega arith
weak_some short mask is k x g Or a b r = omega arith
weak_some short mask is k x g Next a b r =
    some_pick (short && tolerant_at is a) (short_next true (image true is a)) (plain_next true (image true is a)) (omega arith) (omega arith)
weak_some short mask is k x g Until a b r =
    some_pick (short && (tolerant_at is a && tolerant_at is b)) (short_until true (image true is a) (image true is b))
    (plain_until true g (image true is a) (image true is b)) (omega arith) (omega arith)
weak_some short mask is k x g Prev a b r = omega arith
weak_some short mask is k x g Since a b r =
    some_pick (short && (tolerant_at is a && tolerant_at is b)) (short_since (image true is a) (image true is b))
    (plain_since g (image true is a) (image true is b)) (omega arith) (omega arith)
weak_some short mask is k x g Run a b r = absurd r
weak_some short mask is k x g End a b r = absurd r
weak_some short mask is k x g Unknown a b r = absurd r

pub step_drafted : (short : Bool) (mask k : ℕ) (D : Draft) (n : Node) → Drafted k D → RuleNode k n.kind n.first n.second →
    Drafted (suc k) (step short mask D n)
step_drafted short mask k D n d r =
    let is : List Image = D.images in
    let x : ℕ = length D.nodes in
    let w : List Emit = part short true n.kind (meanings_of mask is n true x x) in
    let T : List Node = emit D.nodes w in
    let s : List Emit = part short false n.kind (meanings_of mask is n false x (length T)) in
    let U : List Node = emit T s in
    let i : Image = record { weak = length T - 1; strong = length U - 1; tolerant = tolerant_of mask is n.kind n.first n.second } in
    let t : length T ≡ x + length w = emit_count D.nodes w in
    let u : length U ≡ length T + length s = emit_count T s in
    let b : 11 ≤ x = d.big in
    let more : x < length T = omega (arith, weak_some short mask is k x x n.kind n.first n.second r) in
    let weak_nodes = part_nodes (x - 1) x b (omega arith) k is d.low short mask x true (λ e. absurd (true≢false e)) n.kind n.first n.second r in
    let strong_nodes = part_nodes (length T - 1) (length T) (omega arith) (omega arith) k is (λ weak a h. omega (arith, d.low weak a h))
    short mask x false (λ e. more) n.kind n.first n.second r in
    record {
      big = omega arith;
      nodes = emit_nodes T s (emit_nodes D.nodes w d.nodes weak_nodes) strong_nodes;
      sizes = omega (arith, length-append is (i ∷ []), d.sizes);
      low = elim [
        | true ↦ low_snoc (length U) k is i true d.sizes (λ a h. omega (arith, d.low true a h)) (omega arith)
        | false ↦ low_snoc (length U) k is i false d.sizes (λ a h. omega (arith, d.low false a h)) (omega arith)
      ];
    }

opened_drafted : Drafted 0 opened
opened_drafted = record { big = omega arith; nodes = search arith depth 40; sizes = refl; low = λ weak a h. absurd (omega arith) }

pub steps_drafted : (short : Bool) (mask k : ℕ) (D : Draft) (ns : List Node) → Drafted k D → RuleNodes k ns → Drafted (k + length ns) (steps short mask D ns)
steps_drafted short mask k D [] d r = rw (add-zero k) d
steps_drafted short mask k D (n ∷ ns) d r =
    let e : k + suc (length ns) ≡ suc k + length ns = omega arith in
    rw e (steps_drafted short mask (suc k) (step short mask D n) ns (step_drafted short mask k D n d r.0) r.1)

-- a table with its tops in it
pub record Topped (R : Rewritten) : Type 0 where
  pub nodes : TableNodes 0 R.nodes
  pub weak : R.weak_top < length R.nodes
  pub strong : R.strong_top < length R.nodes

closed_topped : (c : Bool) (T : List Node) (i : Image) → 11 ≤ length T → TableNodes 0 T → i.weak < length T → i.strong < length T → Topped (closed c T i)
closed_topped true T i b t w s = record { nodes = t; weak = w; strong = s }
closed_topped false T i b t w s =
    let U : List Node = emit T (closing true i.weak) in
    let W : List Node = emit U (closing false i.strong) in
    let u : length U ≡ length T + 4 = emit_count T (closing true i.weak) in
    let v : length W ≡ length U + 4 = emit_count U (closing false i.strong) in
    record {
      nodes = emit_nodes U (closing false i.strong)
          (emit_nodes T (closing true i.weak) t (closing_nodes (length T - 1) (length T) b (omega arith) true i.weak w))
          (closing_nodes (length U - 1) (length U) (omega arith) (omega arith) false i.strong (omega arith));
      weak = omega arith;
      strong = omega arith;
    }

pub rewriting_topped : (short : Bool) (mask : ℕ) (ns : List Node) → 0 < length ns → RuleNodes 0 ns → Topped (rewriting short mask ns)
unfolding rewriting
rewriting_topped short mask ns h r =
    let D : Draft = steps short mask opened ns in
    let d : Drafted (0 + length ns) D = steps_drafted short mask 0 opened ns opened_drafted r in
    let last : length D.images - 1 < 0 + length ns = omega (arith, d.sizes) in
    closed_topped (short && (last_image D.images).tolerant) D.nodes (last_image D.images) d.big d.nodes
    (d.low true (length D.images - 1) last) (d.low false (length D.images - 1) last)

topped : (short : Bool) (r : Rule) (mask : ℕ) → rule_refusal r ≡ 0 → Topped (rewritten_of short r mask)
topped short r mask h =
    rewriting_topped short mask (nodes_in r.count r.nodes) (omega (arith, rule_length_lem r h, rule_some r h)) (rule_nodes_lem r h)

-- "No rule may exceed it": 13 + 11 times n nodes, for every accepted rule of n nodes and every mask
pub rewritten_most : (short : Bool) (r : Rule) (mask : ℕ) → rule_refusal r ≡ 0 → length (rewritten_of short r mask).nodes ≤ most_nodes r.count
rewritten_most short r mask h =
    let l : length (nodes_in r.count r.nodes) ≡ r.count = rule_length_lem r h in
    omega (arith, rewriting_most short mask (nodes_in r.count r.nodes) (omega (arith, rule_some r h)) (rule_nodes_lem r h))

-- "Number 12 therefore can't happen": 1,024 nodes hold every rewritten table
pub rewritten_size : (short : Bool) (r : Rule) (mask : ℕ) → rule_refusal r ≡ 0 → length (rewritten_of short r mask).nodes ≤ max_table_nodes
rewritten_size short r mask h = omega (arith, rewritten_most short r mask h, rule_few r h)

pub rewritten_tops : (short : Bool) (r : Rule) (mask : ℕ) → rule_refusal r ≡ 0 →
    ((rewritten_of short r mask).weak_top < length (rewritten_of short r mask).nodes)
    × ((rewritten_of short r mask).strong_top < length (rewritten_of short r mask).nodes)
rewritten_tops short r mask h = ((topped short r mask h).weak, (topped short r mask h).strong)

rewritten_held : (short : Bool) (r : Rule) (mask : ℕ) → rule_refusal r ≡ 0 → AllHeld (rewritten_of short r mask).nodes
rewritten_held short r mask h =
    nodes_held_lem 0 (rewritten_of short r mask).nodes (omega (arith, rewritten_size short r mask h)) (topped short r mask h).nodes

pub rewritten_nodes : (short : Bool) (r : Rule) (mask : ℕ) (more : List ℕ) → rule_refusal r ≡ 0 →
    nodes_in (length (rewritten_of short r mask).nodes) (map node_word (rewritten_of short r mask).nodes ++ more) ≡ (rewritten_of short r mask).nodes
rewritten_nodes short r mask more h = nodes_words (rewritten_of short r mask).nodes more (rewritten_held short r mask h)

pub rewritten_accepted : (short : Bool) (r : Rule) (mask : ℕ) (more : List ℕ) → rule_refusal r ≡ 0 →
    table_refusal (record {
      count = length (rewritten_of short r mask).nodes;
      nodes = map node_word (rewritten_of short r mask).nodes ++ more;
      weak_top = (rewritten_of short r mask).weak_top;
      strong_top = (rewritten_of short r mask).strong_top;
    }) ≡ 0
unfolding table_refusal tops_refusal or_else pick
rewritten_accepted short r mask more h =
    let R : Rewritten = rewritten_of short r mask in
    let t : Topped R = topped short r mask h in
    rw (
      le-leb 1 (length R.nodes) (omega (arith, t.weak)),
      le-leb (length R.nodes) max_table_nodes (rewritten_size short r mask h),
      nodes_accepted 0 R.nodes more (rewritten_held short r mask h) t.nodes,
      lt-ltb R.weak_top (length R.nodes) t.weak,
      lt-ltb R.strong_top (length R.nodes) t.strong,
    )
