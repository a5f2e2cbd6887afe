-- Document 01's short rewriting, as it was before rules about the past became shorter: today's never has more nodes, nor had that one more than the plain one.
use mathlib.Core.Path.{◌≡◌, refl, sym}
use Prim.Native.Nat.{ℕ, zero, suc, ◌+◌, ◌-◌, ◌≤◌}
use native.Mathlib.Omega.{arith}
use mathlib.Core.Bool.{Bool, true, false, not, ◌&&◌, true≢false}
use mathlib.Core.List.{List, [], ◌∷◌, ◌++◌}
use lib.ListN.{length, length-append}
use lib.Dec.{eqb}
use Rattle.definitions.specs.Bounded.{pick, bit_of}
use Rattle.definitions.specs.Nodes.{Kind, True, Atom, Not, Or, Next, Until, Prev, Since, Run, End, Unknown, Node, node, kind_number}
use Rattle.definitions.specs.Rewriting.{Emit, emit, Image, tolerant_at, tolerant_of, Meanings, meanings_of, part, Draft, step, steps, Rewritten, closed, last_image, rewriting}
use Rattle.theorems.proofs.Counts.{cost, part_count, emit_count, step_count, opened, closed_count, cost_most}

-- "Tolerant: true, own atom, every until; not and or of tolerant operands; nothing else"
abbrev pub former_tolerant : (mask : ℕ) (is : List Image) (k : Kind) (a b : ℕ) → Bool
former_tolerant mask is True a b = true
former_tolerant mask is Atom a b = bit_of mask a
former_tolerant mask is Not a b = tolerant_at is a
former_tolerant mask is Or a b = tolerant_at is a && tolerant_at is b
former_tolerant mask is Next a b = false
former_tolerant mask is Until a b = true
former_tolerant mask is Prev a b = false
former_tolerant mask is Since a b = false
former_tolerant mask is Run a b = false
former_tolerant mask is End a b = false
former_tolerant mask is Unknown a b = false

-- "It differs from plain here only": next and until; every since was emitted as in the plain rewriting
abbrev had_short : Kind → Bool
had_short k = not (eqb (kind_number k) (kind_number Since))

abbrev pub former_part : (weak : Bool) (k : Kind) (m : Meanings) → List Emit
former_part weak k m = part (had_short k) weak k m

-- the rule's nodes in turn, the closing, and the table
abbrev pub former_step : (mask : ℕ) (D : Draft) (n : Node) → Draft
former_step mask D n =
    let x = length D.nodes in
    let T = emit D.nodes (former_part true n.kind (meanings_of mask D.images n true x x)) in
    let U = emit T (former_part false n.kind (meanings_of mask D.images n false x (length T))) in
    record {
      nodes = U;
      images = D.images
          ++ (record { weak = length T - 1; strong = length U - 1; tolerant = former_tolerant mask D.images n.kind n.first n.second } ∷ []);
    }

abbrev pub former_steps : (mask : ℕ) (D : Draft) (ns : List Node) → Draft
former_steps mask D [] = D
former_steps mask D (n ∷ ns) = former_steps mask (former_step mask D n) ns

unfoldable pub former_short : (mask : ℕ) (ns : List Node) → Rewritten
former_short mask ns =
    let D = former_steps mask opened ns in
    closed (last_image D.images).tolerant D.nodes (last_image D.images)

-- its counts with atoms 0 and 1 own, and with atom 0 own alone
abbrev former_counts : List Node → List ℕ
former_counts ns = length (former_short 3 ns).nodes ∷ length (former_short 1 ns).nodes ∷ []

-- by trial, with p for atom 0 and q for atom 1: these are the counts before it in the table of interlocks of docs/FORMATS.md
pub record FormerCounts : Type 0 where
  -- "Until of two own atoms: 32 and 19"
  pub until_of_own : length (former_short 3 (node Atom 0 0 ∷ node Atom 1 0 ∷ node Until 0 1 ∷ [])).nodes ≡ 19
  -- Y q
  pub prev_one : former_counts (node Atom 1 0 ∷ node Prev 0 0 ∷ []) ≡ 30 ∷ 34 ∷ []
  -- p S q
  pub since_both : former_counts (node Atom 0 0 ∷ node Atom 1 0 ∷ node Since 0 1 ∷ []) ≡ 31 ∷ 35 ∷ []
  -- p S Y q
  pub since_prev : former_counts (node Atom 0 0 ∷ node Atom 1 0 ∷ node Prev 1 0 ∷ node Since 0 2 ∷ []) ≡ 41 ∷ 45 ∷ []
  -- G (p -> Y q)
  pub only_after : former_counts (
      node True 0 0 ∷ node Atom 0 0 ∷ node Not 1 0 ∷ node Atom 1 0 ∷ node Prev 3 0 ∷ node Or 2 4 ∷ node Not 5 0 ∷ node Until 0 6 ∷ node Not 7 0 ∷ []
      ) ≡ 43 ∷ 47 ∷ []
  -- G (p -> Y (!p S q))
  pub only_once : former_counts (
      node True 0 0 ∷ node Atom 0 0 ∷ node Not 1 0 ∷ node Atom 0 0 ∷ node Not 3 0 ∷ node Atom 1 0 ∷ node Since 4 5 ∷ node Prev 6 0 ∷ node Or 2 7
      ∷ node Not 8 0 ∷ node Until 0 9 ∷ node Not 10 0 ∷ []
      ) ≡ 56 ∷ 60 ∷ []
  -- G (p -> Y !p S Y q)
  pub shut_since : former_counts (
      node True 0 0 ∷ node Atom 0 0 ∷ node Not 1 0 ∷ node Atom 0 0 ∷ node Not 3 0 ∷ node Prev 4 0 ∷ node Atom 1 0 ∷ node Prev 6 0 ∷ node Since 5 7
      ∷ node Or 2 8 ∷ node Not 9 0 ∷ node Until 0 10 ∷ node Not 11 0 ∷ []
      ) ≡ 66 ∷ 70 ∷ []

former_counts_lem : FormerCounts
unfolding former_short pick bit_of
former_counts_lem = record { until_of_own = refl; prev_one = refl; since_both = refl; since_prev = refl; only_after = refl; only_once = refl; shut_since = refl }

-- ---- what its nodes cost
abbrev former_cost : (mask : ℕ) (is : List Image) (k : Kind) (a b : ℕ) → ℕ
former_cost mask is k a b = cost (had_short k) mask is k a b

former_step_count : (mask : ℕ) (D : Draft) (n : Node) →
    length (former_step mask D n).nodes ≡ length D.nodes + former_cost mask D.images n.kind n.first n.second
former_step_count mask D n =
    let x : ℕ = length D.nodes in
    let w : List Emit = former_part true n.kind (meanings_of mask D.images n true x x) in
    let T : List Node = emit D.nodes w in
    let s : List Emit = former_part false n.kind (meanings_of mask D.images n false x (length T)) in
    omega (arith, emit_count D.nodes w, emit_count T s, part_count (had_short n.kind) mask D.images x x (length T) n.kind n.first n.second)

-- ---- what was tolerant still is
both_kept : (a b c d : Bool) → (a ≡ true → c ≡ true) → (b ≡ true → d ≡ true) → (a && b) ≡ true → (c && d) ≡ true
both_kept true b c d p q h = rw (p refl, q h)
both_kept false b c d p q h = absurd (true≢false (sym h))

pick_kept : (c d : Bool) (m n : ℕ) → m ≤ n → (d ≡ true → c ≡ true) → pick c m n ≤ pick d m n
unfolding pick
pick_kept true true m n h k = omega arith
pick_kept true false m n h k = h
pick_kept false true m n h k = absurd (true≢false (sym (k refl)))
pick_kept false false m n h k = omega arith

abbrev Kept : List Image → List Image → Type 0
Kept fs is = (a : ℕ) → tolerant_at fs a ≡ true → tolerant_at is a ≡ true

kept_more : (fs is : List Image) (f i : Image) → length fs ≡ length is → Kept fs is → (f.tolerant ≡ true → i.tolerant ≡ true) →
    Kept (fs ++ (f ∷ [])) (is ++ (i ∷ []))
kept_more [] [] f i l k h zero t = h t
kept_more [] [] f i l k h (suc a) t = t
kept_more [] (y ∷ is) f i l k h a t = absurd (omega arith)
kept_more (x ∷ fs) [] f i l k h a t = absurd (omega arith)
kept_more (x ∷ fs) (y ∷ is) f i l k h zero t = k 0 t
kept_more (x ∷ fs) (y ∷ is) f i l k h (suc a) t = kept_more fs is f i (omega arith) (λ a. k (suc a)) h a t

size_more : (fs is : List Image) (f i : Image) → length fs ≡ length is → length (fs ++ (f ∷ [])) ≡ length (is ++ (i ∷ []))
size_more fs is f i l = omega (arith, length-append fs (f ∷ []), length-append is (i ∷ []))

module _ (mask : ℕ) (fs is : List Image) (kept : Kept fs is) where
  tolerant_kept : (k : Kind) (a b : ℕ) → former_tolerant mask fs k a b ≡ true → tolerant_of mask is k a b ≡ true
  tolerant_kept True a b t = refl
  tolerant_kept Atom a b t = t
  tolerant_kept Not a b t = kept a t
  tolerant_kept Or a b t = both_kept (tolerant_at fs a) (tolerant_at fs b) (tolerant_at is a) (tolerant_at is b) (kept a) (kept b) t
  tolerant_kept Next a b t = t
  tolerant_kept Until a b t = refl
  tolerant_kept Prev a b t = refl
  tolerant_kept Since a b t = absurd (true≢false (sym t))
  tolerant_kept Run a b t = t
  tolerant_kept End a b t = t
  tolerant_kept Unknown a b t = t

  cost_kept : (k : Kind) (a b : ℕ) → cost true mask is k a b ≤ former_cost mask fs k a b
  unfolding pick
  cost_kept True a b = omega arith
  cost_kept Atom a b = omega arith
  cost_kept Not a b = omega arith
  cost_kept Or a b = omega arith
  cost_kept Next a b = pick_kept (tolerant_at is a) (tolerant_at fs a) 6 10 (omega arith) (kept a)
  cost_kept Until a b =
      pick_kept (tolerant_at is a && tolerant_at is b) (tolerant_at fs a && tolerant_at fs b) 6 11 (omega arith)
      (both_kept (tolerant_at fs a) (tolerant_at fs b) (tolerant_at is a) (tolerant_at is b) (kept a) (kept b))
  cost_kept Prev a b = omega arith
  cost_kept Since a b = cost_most true mask is is Since a b
  cost_kept Run a b = omega arith
  cost_kept End a b = omega arith
  cost_kept Unknown a b = omega arith

-- ---- node by node
record Shorter (F D : Draft) : Type 0 where
  fewer : length D.nodes ≤ length F.nodes
  sizes : length F.images ≡ length D.images
  kept : Kept F.images D.images

shorter_step : (mask : ℕ) (F D : Draft) (n : Node) → Shorter F D → Shorter (former_step mask F n) (step true mask D n)
shorter_step mask F D n s =
    record {
      fewer = omega (
        arith,
        s.fewer,
        former_step_count mask F n,
        step_count true mask D n,
        cost_kept mask F.images D.images s.kept n.kind n.first n.second,
      );
      sizes = size_more F.images D.images _ _ s.sizes;
      kept = kept_more F.images D.images _ _ s.sizes s.kept
          (tolerant_kept mask F.images D.images s.kept n.kind n.first n.second);
    }

shorter_steps : (mask : ℕ) (F D : Draft) (ns : List Node) → Shorter F D → Shorter (former_steps mask F ns) (steps true mask D ns)
shorter_steps mask F D [] s = s
shorter_steps mask F D (n ∷ ns) s = shorter_steps mask (former_step mask F n) (step true mask D n) ns (shorter_step mask F D n s)

-- "The short table and its counts .. follow this": no rule's short table has more nodes than it had
pub short_not_above_former : (mask : ℕ) (ns : List Node) → length (rewriting true mask ns).nodes ≤ length (former_short mask ns).nodes
unfolding rewriting former_short
short_not_above_former mask ns =
    let F : Draft = former_steps mask opened ns in
    let D : Draft = steps true mask opened ns in
    let s : Shorter F D = shorter_steps mask opened opened ns (record { fewer = omega arith; sizes = refl; kept = λ a t. t }) in
    let last : pick (last_image D.images).tolerant 0 8 ≤ pick (last_image F.images).tolerant 0 8
    = pick_kept (last_image D.images).tolerant (last_image F.images).tolerant 0 8 (omega arith)
    (λ t. rw s.sizes at (s.kept (length F.images - 1) t)) in
    omega (
      arith,
      s.fewer,
      closed_count (last_image D.images).tolerant D.nodes (last_image D.images),
      closed_count (last_image F.images).tolerant F.nodes (last_image F.images),
    )

-- ---- and it never had more than the plain one
former_steps_most : (mask : ℕ) (F P : Draft) (ns : List Node) → length F.nodes ≤ length P.nodes →
    length (former_steps mask F ns).nodes ≤ length (steps false mask P ns).nodes
former_steps_most mask F P [] h = h
former_steps_most mask F P (n ∷ ns) h =
    former_steps_most mask (former_step mask F n) (step false mask P n) ns
    (omega (
      arith,
      former_step_count mask F n,
      step_count false mask P n,
      cost_most (had_short n.kind) mask F.images P.images n.kind n.first n.second,
    ))

pub former_not_above_plain : (mask : ℕ) (ns : List Node) → length (former_short mask ns).nodes ≤ length (rewriting false mask ns).nodes
unfolding rewriting former_short pick
former_not_above_plain mask ns =
    let F : Draft = former_steps mask opened ns in
    let P : Draft = steps false mask opened ns in
    let last : pick (last_image F.images).tolerant 0 8 ≤ 8 = pick_kept (last_image F.images).tolerant false 0 8 (omega arith) (λ t. absurd (true≢false (sym t))) in
    omega (
      arith,
      former_steps_most mask opened opened ns (omega arith),
      closed_count (last_image F.images).tolerant F.nodes (last_image F.images),
      closed_count false P.nodes (last_image P.images),
    )
