-- One turn of the walk, by whole rows: node m adds the marks of its operands' rows, and nothing else changes.
use mathlib.Core.Path.{◌≡◌, refl, sym, ap, ◌∙◌}
use Prim.Native.Nat.{ℕ, ◌-◌, ◌<◌}
use native.Mathlib.Nat.{zero-add}
use native.Mathlib.Omega.{arith}
use mathlib.Core.Bool.{Bool, true, false, ◌&&◌, ◌||◌, and-false, or-true, true≢false}
use mathlib.Core.List.{List}
use lib.Dec.{eqb, ltb}
use lib.ListN.{length}
use borrow.Author.Tests.{lt-ltb, eqb-true}
use Rattle.definitions.specs.Bounded.{some}
use Rattle.definitions.specs.Nodes.{Kind, True, Atom, Not, Or, Next, Until, Prev, Since, Run, End, Unknown, Node, node_at}
use Rattle.definitions.specs.Readings.{Trace, reading, Rows, read_from, rows_of}
use Rattle.theorems.proofs.Choice.{by_test, both_true}
use Rattle.theorems.proofs.RuleNodes.{RuleNode, RuleNodes}
use Rattle.theorems.proofs.Semantics.{Row}
use Rattle.definitions.specs.Evidence.{takes_first, takes_second, under, takes, walk_node}
use Rattle.theorems.proofs.NodeReadings.{rule_at_lem, reading_of}
use Rattle.theorems.proofs.EvidenceSteps.{some_yes, first_yes}
use Rattle.theorems.proofs.EvidenceWalk.{read_by}
use Rattle.theorems.proofs.EvidenceRows.{first_marks, second_marks, Source, gather, nowhere, row_first, row_second}

or_second_lem : (x y z : Bool) → y ≡ true → z ≡ true → (x || (y && z)) ≡ true
or_second_lem x y z e h = rw (e, h, or-true)

module _ (L : ℕ) (w : ℕ → Bool) where
  some_of_lem : (h : ℕ → Bool) (i : ℕ) → i < L → w i ≡ true → h i ≡ true → some 0 L (λ i. w i && h i) ≡ true
  some_of_lem h i l a b = some_yes (λ i. w i && h i) (L - 0) 0 i (omega arith) (omega arith) (rw (a, b))

  source : (h : ℕ → Bool) → some 0 L (λ i. w i && h i) ≡ true → Source L w h
  source h z =
      let F = first_yes (λ i. w i && h i) (L - 0) 0 z in
      let (a, b) = both_true (w F.place) (h F.place) F.here in
      record { place = F.place; below = omega (arith, F.below); wanted = a; does = b }

  -- of two operands at once
  both_from : (f g : ℕ → Bool) (x y : Bool) →
      some 0 L (λ i. w i && ((x && f i) || (y && g i))) ≡ ((x && some 0 L (λ i. w i && f i)) || (y && some 0 L (λ i. w i && g i)))
  both_from f g false false = nowhere L w
  both_from f g false true = refl
  both_from f g true y = gather L w (λ i. f i || (y && g i)) (some 0 L (λ i. w i && f i) || (y && some 0 L (λ i. w i && g i)))
      (λ i l a b. by_test (f i)
      (λ z. rw (some_of_lem f i l a z))
      (λ z. let (c, e) = both_true y (g i) (rw z at b) in rw (c, some_of_lem g i l a e, or-true)))
      (λ z. by_test (some 0 L (λ i. w i && f i))
      (λ c. let S = source f c in record { place = S.place; below = S.below; wanted = S.wanted; does = rw S.does })
      (λ c. let (e, h) = both_true y (some 0 L (λ i. w i && g i)) (rw c at z) in
      let S = source g h in record { place = S.place; below = S.below; wanted = S.wanted; does = or_second_lem (f S.place) y (g S.place) e S.does }))

-- an operand that is marked is an earlier node
first_early_lem : (L : ℕ) (m : ℕ) (K : Kind) (a b : ℕ) (u p q w : ℕ → Bool) (k : ℕ) → RuleNode m K a b → first_marks L K u p q w k ≡ true → a < m
first_early_lem L m True a b u p q w k r e = absurd (true≢false (sym e))
first_early_lem L m Atom a b u p q w k r e = absurd (true≢false (sym e))
first_early_lem L m Not a b u p q w k r e = r
first_early_lem L m Or a b u p q w k r e = r.0
first_early_lem L m Next a b u p q w k r e = r
first_early_lem L m Until a b u p q w k r e = r.0
first_early_lem L m Prev a b u p q w k r e = r
first_early_lem L m Since a b u p q w k r e = r.0
first_early_lem L m Run a b u p q w k r e = absurd r
first_early_lem L m End a b u p q w k r e = absurd r
first_early_lem L m Unknown a b u p q w k r e = absurd r

second_early_lem : (L : ℕ) (m : ℕ) (K : Kind) (a b : ℕ) (u p q w : ℕ → Bool) (k : ℕ) → RuleNode m K a b → second_marks L K u p q w k ≡ true → b < m
second_early_lem L m True a b u p q w k r e = absurd (true≢false (sym e))
second_early_lem L m Atom a b u p q w k r e = absurd (true≢false (sym e))
second_early_lem L m Not a b u p q w k r e = absurd (true≢false (sym e))
second_early_lem L m Or a b u p q w k r e = r.1
second_early_lem L m Next a b u p q w k r e = absurd (true≢false (sym e))
second_early_lem L m Until a b u p q w k r e = r.1
second_early_lem L m Prev a b u p q w k r e = absurd (true≢false (sym e))
second_early_lem L m Since a b u p q w k r e = r.1
second_early_lem L m Run a b u p q w k r e = absurd r
second_early_lem L m End a b u p q w k r e = absurd r
second_early_lem L m Unknown a b u p q w k r e = absurd r

marked_early : (m j a b : ℕ) (f g : Bool) → (f ≡ true → a < m) → (g ≡ true → b < m) → (ltb j m && ((eqb j a && f) || (eqb j b && g))) ≡ ((eqb j a && f) || (eqb j b && g))
marked_early m j a b f g hf hg = by_test ((eqb j a && f) || (eqb j b && g))
    (λ z. rw (
      z,
      lt-ltb j m (by_test (eqb j a && f)
          (λ c. let (e, h) = both_true (eqb j a) f c in let q : j ≡ a = eqb-true j a e in omega (arith, hf h))
          (λ c. let (e, h) = both_true (eqb j b) g (rw c at z) in let q : j ≡ b = eqb-true j b e in omega (arith, hg h))),
    ))
    (λ z. rw (z, and-false))

-- node m's turn: node j, in reading e, gets the marks of m's rows in the reading d that stands over e
pub turn_by_rows : (t : Trace) (of : ℕ → Row) (count m : ℕ) (n : Node) (ws : List Rows) → RuleNode m n.kind n.first n.second →
    (j : ℕ) (e : Bool) (k : ℕ) → j < count → k < t.places →
    let d : Bool = under n.kind e in
    let u : ℕ → Bool = reading t of n.kind n.first n.second d in
    read_from (walk_node t.places of count m n ws) j e k
    ≡ (read_from ws j e k
    || ((eqb j n.first && first_marks t.places n.kind u (of n.first d) (of n.second d) (read_from ws m d) k)
    || (eqb j n.second && second_marks t.places n.kind u (of n.first d) (of n.second d) (read_from ws m d) k)))
turn_by_rows t of count m n ws r j e k l b =
    let L : ℕ = t.places in
    let K : Kind = n.kind in
    let x : ℕ = n.first in
    let y : ℕ = n.second in
    let d : Bool = under K e in
    let u : ℕ → Bool = reading t of K x y d in
    let w : ℕ → Bool = read_from ws m d in
    let F : Bool = first_marks L K u (of x d) (of y d) w k in
    let S : Bool = second_marks L K u (of x d) (of y d) w k in
    let marks : some 0 L (λ i. w i && ((eqb j x && takes_first L of K x y d i k) || (eqb j y && takes_second L of K x y d i k))) ≡ ((eqb j x && F) || (eqb j y && S))
    = both_from L w (λ i. takes_first L of K x y d i k) (λ i. takes_second L of K x y d i k) (eqb j x) (eqb j y)
    ∙ rw (row_first t of K x y d w k b, row_second t of K x y d w k b) in
    read_by L count (λ j e k. read_from ws j e k || takes L of (read_from ws) m n j e k) j e k l b
    ∙ ap (λ (z : Bool). read_from ws j e k || z)
    (ap (λ (z : Bool). ltb j m && z) marks
    ∙ marked_early m j x y F S (first_early_lem L m K x y u (of x d) (of y d) w k r) (second_early_lem L m K x y u (of x d) (of y d) w k r))

-- of a node's own row only the place itself counts
first_own : (L : ℕ) (K : Kind) (u v p q w : ℕ → Bool) (k : ℕ) → u k ≡ v k → first_marks L K u p q w k ≡ first_marks L K v p q w k
first_own L True u v p q w k e = refl
first_own L Atom u v p q w k e = refl
first_own L Not u v p q w k e = refl
first_own L Or u v p q w k e = rw e
first_own L Next u v p q w k e = refl
first_own L Until u v p q w k e = rw e
first_own L Prev u v p q w k e = refl
first_own L Since u v p q w k e = rw e
first_own L Run u v p q w k e = refl
first_own L End u v p q w k e = refl
first_own L Unknown u v p q w k e = refl

second_own : (L : ℕ) (K : Kind) (u v p q w : ℕ → Bool) (k : ℕ) → u k ≡ v k → second_marks L K u p q w k ≡ second_marks L K v p q w k
second_own L True u v p q w k e = refl
second_own L Atom u v p q w k e = refl
second_own L Not u v p q w k e = refl
second_own L Or u v p q w k e = refl
second_own L Next u v p q w k e = refl
second_own L Until u v p q w k e = rw e
second_own L Prev u v p q w k e = refl
second_own L Since u v p q w k e = rw e
second_own L Run u v p q w k e = refl
second_own L End u v p q w k e = refl
second_own L Unknown u v p q w k e = refl

-- the turn of node m of a rule, over the rows of its nodes
pub turn_of : (t : Trace) (ns : List Node) → RuleNodes 0 ns → (m : ℕ) → m < length ns → (count : ℕ) (ws : List Rows) →
    (j : ℕ) (e : Bool) (k : ℕ) → j < count → k < t.places →
    let n : Node = node_at ns m in
    let of : ℕ → Row = read_from (rows_of t ns) in
    let d : Bool = under n.kind e in
    read_from (walk_node t.places of count m n ws) j e k
    ≡ (read_from ws j e k
    || ((eqb j n.first && first_marks t.places n.kind (of m d) (of n.first d) (of n.second d) (read_from ws m d) k)
    || (eqb j n.second && second_marks t.places n.kind (of m d) (of n.first d) (of n.second d) (read_from ws m d) k)))
turn_of t ns r m l count ws j e k b h =
    let n : Node = node_at ns m in
    let of : ℕ → Row = read_from (rows_of t ns) in
    let d : Bool = under n.kind e in
    let own : reading t of n.kind n.first n.second d k ≡ of m d k = sym (reading_of t ns r m l d k h) in
    let fit : RuleNode m n.kind n.first n.second = rw zero-add at (rule_at_lem 0 ns r m l) in
    turn_by_rows t of count m n ws fit j e k b h
    ∙ rw (
      first_own t.places n.kind (reading t of n.kind n.first n.second d) (of m d) (of n.first d) (of n.second d) (read_from ws m d) k own,
      second_own t.places n.kind (reading t of n.kind n.first n.second d) (of m d) (of n.first d) (of n.second d) (read_from ws m d) k own,
    )
