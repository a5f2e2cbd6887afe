-- The walk from the rule: what a wanted reading takes is wanted.
use mathlib.Core.Path.{◌≡◌, refl, sym, ap, ◌∙◌}
use Prim.Native.Nat.{ℕ, zero, suc, ◌+◌, ◌-◌, ◌≤◌, ◌<◌}
use native.Mathlib.Nat.{add-zero}
use native.Mathlib.Omega.{arith}
use mathlib.Core.Bool.{Bool, true, false, ◌&&◌, ◌||◌, or-true, or-false}
use mathlib.Core.List.{List, [], ◌∷◌}
use lib.ListN.{length, get_or}
use lib.Dec.{eqb, ltb}
use borrow.Author.Tests.{lt-ltb, le-ltb, ltb-true, eq-eqb, eqb-true}
use Rattle.definitions.specs.Bounded.{tabulate}
use Rattle.definitions.specs.Nodes.{Kind, True, Atom, Not, Or, Next, Until, Prev, Since, Run, End, Unknown, Node, node_at}
use Rattle.definitions.specs.Readings.{Trace, Rows, no_rows, row_of, read_from, rows_of}
use Rattle.theorems.proofs.Choice.{by_test, both_true}
use Rattle.theorems.proofs.Tabulations.{tabulate_at}
use Rattle.theorems.proofs.Semantics.{Row}
use Rattle.definitions.specs.Evidence.{takes_first, takes_second, under, rows_by, takes, walk_node, walk_nodes, same_reading, start_rows, wanted_rows}
use Rattle.theorems.proofs.EvidenceSteps.{some_yes, first_yes}

abbrev pub tabulated : ℕ → Row → Rows
tabulated L f = record { weak = tabulate L (f true); strong = tabulate L (f false) }

-- the rows of one of them
pub by_at : (L n m : ℕ) (f : ℕ → Row) (j : ℕ) → j < n → get_or (rows_by L n m f) j no_rows ≡ tabulated L (f (m + j))
by_at L zero m f j l = absurd (omega arith)
by_at L (suc n) m f zero l = rw (add-zero m)
by_at L (suc n) m f (suc j) l = let e : m + suc j ≡ suc m + j = omega arith in rw e (by_at L n (suc m) f j (omega arith))

tabulated_at : (L : ℕ) (f : Row) (d : Bool) (k : ℕ) → k < L → get_or (row_of d (tabulated L f)) k false ≡ f d k
tabulated_at L f true k l = tabulate_at L (f true) k l
tabulated_at L f false k l = tabulate_at L (f false) k l

-- rows say the marks that they were made by
pub read_by : (L n : ℕ) (f : ℕ → Row) (j : ℕ) (d : Bool) (k : ℕ) → j < n → k < L → read_from (rows_by L n 0 f) j d k ≡ f j d k
read_by L n f j d k l b =
    let e : 0 + j ≡ j = omega arith in
    ap (λ (r : Rows). get_or (row_of d r) k false) (by_at L n 0 f j l) ∙ (tabulated_at L (f (0 + j)) d k b ∙ rw e)

under_twice : (K : Kind) (d : Bool) → under K (under K d) ≡ d
under_twice True d = refl
under_twice Atom d = refl
under_twice Not true = refl
under_twice Not false = refl
under_twice Or d = refl
under_twice Next d = refl
under_twice Until d = refl
under_twice Prev d = refl
under_twice Since d = refl
under_twice Run d = refl
under_twice End d = refl
under_twice Unknown d = refl

-- a set of readings: node, reading, place
abbrev pub Readings : Type 1
Readings = ℕ → Bool → ℕ → Type 0

-- those that are marked
abbrev pub Marked : (ℕ → Row) → Readings
Marked W m d i = W m d i ≡ true

module _ (L : ℕ) (of : ℕ → Row) (count : ℕ) where
  -- what a reading of node m in the set takes is in the set
  pub record ClosedNode (P : Readings) (m : ℕ) (n : Node) : Type 0 where
    pub first : (d : Bool) (i k : ℕ) → i < L → k < L → P m d i → n.first < m →
        takes_first L of n.kind n.first n.second d i k ≡ true → P n.first (under n.kind d) k
    pub second : (d : Bool) (i k : ℕ) → i < L → k < L → P m d i → n.second < m →
        takes_second L of n.kind n.first n.second d i k ≡ true → P n.second (under n.kind d) k

  abbrev pub ClosedFrom : Readings → ℕ → List Node → Type 0
  ClosedFrom P m [] = Unit {0}
  ClosedFrom P m (n ∷ ns) = ClosedNode P m n × ClosedFrom P (suc m) ns

  pub closed_at : (P : Readings) (m : ℕ) (ns : List Node) → ClosedFrom P m ns → (j : ℕ) → j < length ns → ClosedNode P (m + j) (node_at ns j)
  closed_at P m [] c j l = absurd (omega arith)
  closed_at P m (n ∷ ns) c zero l = rw (add-zero m) c.0
  closed_at P m (n ∷ ns) c (suc j) l = let e : m + suc j ≡ suc m + j = omega arith in rw e (closed_at P (suc m) ns c.1 j (omega arith))

  -- one node's turn
  module _ (m : ℕ) (n : Node) (ws : List Rows) where
    turn_keeps : (j : ℕ) (d : Bool) (k : ℕ) → j < count → k < L → read_from ws j d k ≡ true → read_from (walk_node L of count m n ws) j d k ≡ true
    turn_keeps j d k l b e = read_by L count (λ j d k. read_from ws j d k || takes L of (read_from ws) m n j d k) j d k l b ∙ rw e

    turn_late : (j : ℕ) (d : Bool) (k : ℕ) → m ≤ j → j < count → k < L → read_from (walk_node L of count m n ws) j d k ≡ read_from ws j d k
    turn_late j d k a l b =
        read_by L count (λ j d k. read_from ws j d k || takes L of (read_from ws) m n j d k) j d k l b ∙ rw (le-ltb j m a, or-false)

    turn_takes : (j : ℕ) (d : Bool) (i k : ℕ) → j < m → j < count → i < L → k < L → read_from ws m (under n.kind d) i ≡ true →
        ((eqb j n.first && takes_first L of n.kind n.first n.second (under n.kind d) i k)
        || (eqb j n.second && takes_second L of n.kind n.first n.second (under n.kind d) i k)) ≡ true →
        read_from (walk_node L of count m n ws) j d k ≡ true
    turn_takes j d i k a l h b e t =
        read_by L count (λ j d k. read_from ws j d k || takes L of (read_from ws) m n j d k) j d k l b
        ∙ rw (
          lt-ltb j m a,
          some_yes (λ i. read_from ws m (under n.kind d) i
              && ((eqb j n.first && takes_first L of n.kind n.first n.second (under n.kind d) i k)
              || (eqb j n.second && takes_second L of n.kind n.first n.second (under n.kind d) i k))) (L - 0) 0 i (omega arith) (omega arith) (rw (e, t)),
          or-true,
        )

    turn_closed : m < count → ClosedNode (Marked (read_from (walk_node L of count m n ws))) m n
    turn_closed c = record {
      first = λ d i k h b e a t.
          let u : under n.kind (under n.kind d) ≡ d = under_twice n.kind d in
          let e' : read_from ws m d i ≡ true = sym (turn_late m d i (omega arith) c h) ∙ e in
          turn_takes n.first (under n.kind d) i k a (omega arith) h b (rw u e') (rw (u, eq-eqb n.first n.first refl, t));
      second = λ d i k h b e a t.
          let u : under n.kind (under n.kind d) ≡ d = under_twice n.kind d in
          let e' : read_from ws m d i ≡ true = sym (turn_late m d i (omega arith) c h) ∙ e in
          turn_takes n.second (under n.kind d) i k a (omega arith) h b (rw u e') (rw (u, eq-eqb n.second n.second refl, t, or-true));
    }

    -- a turn marks nothing but what a closed set holds already
    turn_least : (P : Readings) → ClosedNode P m n → m < count → ((j : ℕ) (d : Bool) (k : ℕ) → j < count → k < L → read_from ws j d k ≡ true → P j d k) →
        (j : ℕ) (d : Bool) (k : ℕ) → j < count → k < L → read_from (walk_node L of count m n ws) j d k ≡ true → P j d k
    turn_least P C c h j d k l b e = by_test (read_from ws j d k) (h j d k l b) (λ z.
        let t : takes L of (read_from ws) m n j d k ≡ true
        = rw z at (sym (read_by L count (λ j d k. read_from ws j d k || takes L of (read_from ws) m n j d k) j d k l b) ∙ e) in
        let (a, s) = both_true (ltb j m) _ t in
        let F = first_yes _ (L - 0) 0 s in
        let i : ℕ = F.place in
        let (w, f) = both_true (read_from ws m (under n.kind d) i) _ F.here in
        taken d i k (omega (arith, F.below)) b (h m (under n.kind d) i c (omega (arith, F.below)) w) j (ltb-true j m a) f)
      where
        taken : (d : Bool) (i k : ℕ) → i < L → k < L → P m (under n.kind d) i → (j : ℕ) → j < m →
            ((eqb j n.first && takes_first L of n.kind n.first n.second (under n.kind d) i k)
            || (eqb j n.second && takes_second L of n.kind n.first n.second (under n.kind d) i k)) ≡ true → P j d k
        taken d i k x y p j a f = by_test (eqb j n.first && takes_first L of n.kind n.first n.second (under n.kind d) i k)
            (λ z. let (e, g) = both_true (eqb j n.first) _ z in
            let q : j ≡ n.first = eqb-true j n.first e in
            rw (q, ← (under_twice n.kind d)) (C.first (under n.kind d) i k x y p (omega arith) g))
            (λ z. let (e, g) = both_true (eqb j n.second) _ (rw z at f) in
            let q : j ≡ n.second = eqb-true j n.second e in
            rw (q, ← (under_twice n.kind d)) (C.second (under n.kind d) i k x y p (omega arith) g))

  -- marks that are added at nodes before m only keep the nodes from m on closed
  closed_kept : (Y W : ℕ → Row) (m : ℕ) → ((j : ℕ) (d : Bool) (k : ℕ) → j < count → k < L → Y j d k ≡ true → W j d k ≡ true) →
      ((j : ℕ) (d : Bool) (k : ℕ) → m ≤ j → j < count → k < L → W j d k ≡ Y j d k) →
      (x : ℕ) (ns : List Node) → m ≤ x → x + length ns ≤ count → ClosedFrom (Marked Y) x ns → ClosedFrom (Marked W) x ns
  closed_kept Y W m grow late x [] a l c = tt
  closed_kept Y W m grow late x (n ∷ ns) a l c = (
    record {
      first = λ d i k h b e f t. grow n.first (under n.kind d) k (omega arith) b (c.0.first d i k h b (sym (late x d i a (omega arith) h) ∙ e) f t);
      second = λ d i k h b e f t. grow n.second (under n.kind d) k (omega arith) b (c.0.second d i k h b (sym (late x d i a (omega arith) h) ∙ e) f t);
    },
    closed_kept Y W m grow late (suc x) ns (omega arith) (omega arith) c.1,
  )

  pub walked : (ws : List Rows) (m : ℕ) (ns : List Node) → m + length ns ≤ count → ClosedFrom (Marked (read_from (walk_nodes L of count m ns ws))) m ns
  walked ws m [] l = tt
  walked ws m (n ∷ ns) l =
      let us : List Rows = walk_nodes L of count (suc m) ns ws in (
        turn_closed m n us (omega arith),
        closed_kept (read_from us) (read_from (walk_node L of count m n us)) m (turn_keeps m n us) (turn_late m n us) (suc m) ns (omega arith) (omega arith)
            (walked ws (suc m) ns (omega arith)),
      )

  pub walk_keeps : (ws : List Rows) (m : ℕ) (ns : List Node) (j : ℕ) (d : Bool) (k : ℕ) → j < count → k < L → read_from ws j d k ≡ true →
      read_from (walk_nodes L of count m ns ws) j d k ≡ true
  walk_keeps ws m [] j d k l b e = e
  walk_keeps ws m (n ∷ ns) j d k l b e = turn_keeps m n (walk_nodes L of count (suc m) ns ws) j d k l b (walk_keeps ws (suc m) ns j d k l b e)

  pub walk_least : (P : Readings) (ws : List Rows) (m : ℕ) (ns : List Node) → m + length ns ≤ count → ClosedFrom P m ns →
      ((j : ℕ) (d : Bool) (k : ℕ) → j < count → k < L → read_from ws j d k ≡ true → P j d k) →
      (j : ℕ) (d : Bool) (k : ℕ) → j < count → k < L → read_from (walk_nodes L of count m ns ws) j d k ≡ true → P j d k
  walk_least P ws m [] l c h = h
  walk_least P ws m (n ∷ ns) l c h = turn_least m n (walk_nodes L of count (suc m) ns ws) P c.0 (omega arith) (walk_least P ws (suc m) ns (omega arith) c.1 h)

same_itself : (d : Bool) → same_reading d d ≡ true
same_itself true = refl
same_itself false = refl

same_is : (x d : Bool) → same_reading x d ≡ true → d ≡ x
same_is true d e = e
same_is false true e = sym e
same_is false false e = refl

module _ (t : Trace) (ns : List Node) (weak : Bool) where
  pub wanted_closed : ClosedFrom t.places (read_from (rows_of t ns)) (length ns) (Marked (read_from (wanted_rows t ns weak))) 0 ns
  unfolding wanted_rows
  wanted_closed = walked t.places (read_from (rows_of t ns)) (length ns) (start_rows t.places (length ns) weak) 0 ns (omega arith)

  -- the rule is wanted at place 0 in the chosen reading
  pub wanted_rule : 0 < length ns → 0 < t.places → read_from (wanted_rows t ns weak) (length ns - 1) weak 0 ≡ true
  unfolding wanted_rows
  wanted_rule some l =
      walk_keeps t.places (read_from (rows_of t ns)) (length ns) (start_rows t.places (length ns) weak) 0 ns (length ns - 1) weak 0 (omega arith) l
      (read_by t.places (length ns) (λ j d k. eqb (suc j) (length ns) && (same_reading weak d && eqb k 0)) (length ns - 1) weak 0 (omega arith) l
      ∙ rw (eq-eqb (suc (length ns - 1)) (length ns) (omega arith), same_itself weak))

  -- the wanted readings are the least closed set that has it: the walk comes to nothing else
  pub wanted_least : (P : Readings) → ClosedFrom t.places (read_from (rows_of t ns)) (length ns) P 0 ns → P (length ns - 1) weak 0 →
      (m : ℕ) (d : Bool) (i : ℕ) → m < length ns → i < t.places → read_from (wanted_rows t ns weak) m d i ≡ true → P m d i
  unfolding wanted_rows
  wanted_least P C top m d i l b e =
      walk_least t.places (read_from (rows_of t ns)) (length ns) P (start_rows t.places (length ns) weak) 0 ns (omega arith) C
      (λ j d k l b e.
      let z = sym (read_by t.places (length ns) (λ j d k. eqb (suc j) (length ns) && (same_reading weak d && eqb k 0)) j d k l b) ∙ e in
      let (x, y) = both_true (eqb (suc j) (length ns)) (same_reading weak d && eqb k 0) z in
      let (u, v) = both_true (same_reading weak d) (eqb k 0) y in
      let a : j ≡ length ns - 1 = omega (arith, eqb-true (suc j) (length ns) x) in
      rw (a, same_is weak d u, eqb-true k 0 v) top)
      m d i l b e
