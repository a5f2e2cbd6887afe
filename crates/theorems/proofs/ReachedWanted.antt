-- The walk that the request tells, sentence by sentence, comes to just the readings that the wanted rows mark.
use mathlib.Core.Path.{◌≡◌, refl, sym, ap, ◌∙◌}
use Prim.Native.Nat.{ℕ, zero, suc, ◌+◌, ◌≤◌, ◌<◌}
use native.Mathlib.Nat.{add-zero, zero-add}
use native.Mathlib.Omega.{arith}
use native.Mathlib.Decide.{dec_lt}
use mathlib.Core.Bool.{Bool, true, false, not, ◌&&◌, ◌||◌}
use mathlib.Core.List.{List, [], ◌∷◌}
use lib.ListN.{length, get_or}
use lib.Dec.{eqb, ltb}
use borrow.Author.Tests.{lt-ltb, eq-eqb, eqb-true}
use Rattle.definitions.specs.Bounded.{pick, tabulate_from}
use Rattle.definitions.specs.Nodes.{Kind, True, Atom, Not, Or, Next, Until, Prev, Since, Run, End, Unknown, Node, node, node_at}
use Rattle.definitions.specs.Tables.{Rule, rule_refusal, nodes_in}
use Rattle.definitions.specs.Readings.{Trace, reading, until_at, Rows, no_rows, row_of, read_from, rows_of}
use Rattle.definitions.specs.Evidence.{takes_first, takes_second, under, rows_by, takes, walk_nodes, same_reading, start_rows, wanted_rows}
use Rattle.theorems.proofs.Choice.{by_test, clash, both_true}
use Rattle.theorems.proofs.Semantics.{Row}
use Rattle.theorems.proofs.RuleNodes.{RuleNode, RuleNodes, rule_nodes_lem}
use Rattle.theorems.proofs.NodeReadings.{rule_at_lem, reading_of}
use Rattle.theorems.proofs.EvidenceWalk.{Readings, Marked, ClosedNode, ClosedFrom, closed_at, wanted_closed, wanted_rule, wanted_least}
use Rattle.definitions.specs.Reached.{Yes, No, Reached, from_rule, not_passes, or_first, or_second, or_no_first, or_no_second, until_fit, until_before, until_ending, until_fails, until_up_to, until_never, since_fit, since_after, since_fails, since_down_to, since_never, next_takes, prev_takes}
use Rattle.theorems.proofs.TakenPlaces.{FirstTaken, before, ending, fails, SecondTaken, fit, up_to, never_fails, only_weak, first_taken_lem, second_taken_lem, taken_first_lem, taken_second_lem}
use Rattle.theorems.proofs.MirroredPlaces.{FirstTakenBack, after, fails_back, SecondTakenBack, fit_back, down_to, never_fails_back, first_taken_back, second_taken_back, taken_first_back, taken_second_back}

same_number : (k : ℕ) → eqb k k ≡ true
same_number k = eq-eqb k k refl

-- a set that is closed at each node
closed_from : (L : ℕ) (of : ℕ → Row) (count : ℕ) (P : Readings) (m : ℕ) (ns : List Node) →
    ((j : ℕ) → j < length ns → ClosedNode L of count P (m + j) (node_at ns j)) → ClosedFrom L of count P m ns
closed_from L of count P m [] h = tt
closed_from L of count P m (n ∷ ns) h = (
  rw (add-zero m) at (h 0 (omega arith)),
  closed_from L of count P (suc m) ns (λ j l. let e : m + suc j ≡ suc m + j = omega arith in rw e at (h (suc j) (omega arith))),
)

-- marks are nowhere but in the table and in the trace
row_past : (n k : ℕ) (f : ℕ → Bool) (j : ℕ) → n ≤ j → get_or (tabulate_from n k f) j false ≡ false
row_past zero k f j l = refl
row_past (suc n) k f zero l = absurd (omega arith)
row_past (suc n) k f (suc j) l = row_past n (suc k) f j (omega arith)

rows_past : (L n m : ℕ) (f : ℕ → Row) (j : ℕ) → n ≤ j → get_or (rows_by L n m f) j no_rows ≡ no_rows
rows_past L zero m f j l = refl
rows_past L (suc n) m f zero l = absurd (omega arith)
rows_past L (suc n) m f (suc j) l = rows_past L n (suc m) f j (omega arith)

none_read : (d : Bool) (k : ℕ) → get_or (row_of d no_rows) k false ≡ false
none_read true k = refl
none_read false k = refl

places_past : (L n m : ℕ) (f : ℕ → Row) (j : ℕ) (d : Bool) (k : ℕ) → L ≤ k → read_from (rows_by L n m f) j d k ≡ false
places_past L zero m f j d k l = none_read d k
places_past L (suc n) m f zero true k l = row_past L 0 (f m true) k l
places_past L (suc n) m f zero false k l = row_past L 0 (f m false) k l
places_past L (suc n) m f (suc j) d k l = places_past L n (suc m) f j d k l

by_inside : (L n : ℕ) (f : ℕ → Row) (j : ℕ) (d : Bool) (k : ℕ) → read_from (rows_by L n 0 f) j d k ≡ true → (j < n) × (k < L)
by_inside L n f j d k e = go (dec_lt j n) (dec_lt k L)
  where
    go : Dec (j < n) → Dec (k < L) → (j < n) × (k < L)
    go (yes a) (yes b) = (a, b)
    go (yes a) (no b) = clash e (places_past L n 0 f j d k (omega arith))
    go (no a) c = clash e (ap (λ (x : Rows). get_or (row_of d x) k false) (rows_past L n 0 f j (omega arith)) ∙ none_read d k)

wanted_inside : (t : Trace) (ns : List Node) (weak : Bool) (m : ℕ) (d : Bool) (i : ℕ) → read_from (wanted_rows t ns weak) m d i ≡ true →
    (m < length ns) × (i < t.places)
unfolding wanted_rows
wanted_inside t [] weak m d i e = by_inside t.places 0 (λ j other k. eqb (suc j) 0 && (same_reading weak other && eqb k 0)) m d i e
wanted_inside t (n ∷ ns) weak m d i e =
    let ws : List Rows = walk_nodes t.places (read_from (rows_of t (n ∷ ns))) (suc (length ns)) 1 ns (start_rows t.places (suc (length ns)) weak) in
    by_inside t.places (suc (length ns))
    (λ j d k. read_from ws j d k || takes t.places (read_from (rows_of t (n ∷ ns))) (read_from ws) 0 n j d k) m d i e

module _ (t : Trace) (ns : List Node) (weak : Bool) (r : RuleNodes 0 ns) where
  abbrev L : ℕ
  L = t.places

  abbrev of : ℕ → Row
  of = read_from (rows_of t ns)

  -- a reading of the table that the wanted rows mark
  pub record Wanted (m i : ℕ) (d : Bool) : Type 0 where
    pub in_table : m < length ns
    pub in_trace : i < t.places
    pub marked : read_from (wanted_rows t ns weak) m d i ≡ true

  -- what a node that is there is, and how it is read
  fine : (m : ℕ) (K : Kind) (a b : ℕ) → node_at ns m ≡ node K a b → m < length ns → RuleNode m K a b
  fine m K a b e l = rw e at (rw (zero-add m) at (rule_at_lem 0 ns r m l))

  own : (m : ℕ) (K : Kind) (a b : ℕ) → node_at ns m ≡ node K a b → m < length ns → (d : Bool) (i : ℕ) → i < L → of m d i ≡ reading t of K a b d i
  own m K a b e l d i h = rw e at (reading_of t ns r m l d i h)

  closed : (m : ℕ) (K : Kind) (a b : ℕ) → node_at ns m ≡ node K a b → m < length ns →
      ClosedNode L of (length ns) (Marked (read_from (wanted_rows t ns weak))) m (node K a b)
  closed m K a b e l = rw e at (rw (zero-add m) at (closed_at L of (length ns) (Marked (read_from (wanted_rows t ns weak))) 0 ns (wanted_closed t ns weak) m l))

  -- ---- each step stays on marks
  module _ (m : ℕ) (K : Kind) (a b : ℕ) (e : node_at ns m ≡ node K a b) (i : ℕ) (d : Bool) (W : Wanted m i d) where
    step_first : (k : ℕ) → k < L → a < m → takes_first L of K a b d i k ≡ true → Wanted a k (under K d)
    step_first k h early taken = record {
      in_table = omega (arith, W.in_table);
      in_trace = h;
      marked = (closed m K a b e W.in_table).first d i k W.in_trace h W.marked early taken;
    }

    step_second : (k : ℕ) → k < L → b < m → takes_second L of K a b d i k ≡ true → Wanted b k (under K d)
    step_second k h early taken = record {
      in_table = omega (arith, W.in_table);
      in_trace = h;
      marked = (closed m K a b e W.in_table).second d i k W.in_trace h W.marked early taken;
    }

    node_fine : RuleNode m K a b
    node_fine = fine m K a b e W.in_table

    node_own : (x : Bool) → of m d i ≡ x → reading t of K a b d i ≡ x
    node_own x z = sym (own m K a b e W.in_table d i W.in_trace) ∙ z

  module _ (m a b : ℕ) (i : ℕ) (d : Bool) where
    not_step : node_at ns m ≡ node Not a b → Wanted m i d → Wanted a i (not d)
    not_step e W = step_first m Not a b e i d W i W.in_trace (node_fine m Not a b e i d W) (same_number i)

    or_first_lem : node_at ns m ≡ node Or a b → Wanted m i d → Yes t ns a i d → Wanted a i d
    unfolding pick
    or_first_lem e W y = step_first m Or a b e i d W i W.in_trace (node_fine m Or a b e i d W).0 (rw (same_number i, y))

    or_second_lem : node_at ns m ≡ node Or a b → Wanted m i d → No t ns a i d → Yes t ns b i d → Wanted b i d
    unfolding pick
    or_second_lem e W n y = step_second m Or a b e i d W i W.in_trace (node_fine m Or a b e i d W).1 (rw (same_number i, n, y))

    or_no_first_lem : node_at ns m ≡ node Or a b → Wanted m i d → No t ns m i d → Wanted a i d
    unfolding pick
    or_no_first_lem e W n =
        let z : (of a d i || of b d i) ≡ false = node_own m Or a b e i d W false n in
        step_first m Or a b e i d W i W.in_trace (node_fine m Or a b e i d W).0 (rw (same_number i, z))

    or_no_second_lem : node_at ns m ≡ node Or a b → Wanted m i d → No t ns m i d → Wanted b i d
    unfolding pick
    or_no_second_lem e W n =
        let z : (of a d i || of b d i) ≡ false = node_own m Or a b e i d W false n in
        step_second m Or a b e i d W i W.in_trace (node_fine m Or a b e i d W).1 (rw (same_number i, z))

    next_step : node_at ns m ≡ node Next a b → Wanted m i d → suc i < L → Wanted a (suc i) d
    next_step e W h = step_first m Next a b e i d W (suc i) h (node_fine m Next a b e i d W) (rw (same_number (suc i), lt-ltb (suc i) L h))

    prev_step : node_at ns m ≡ node Prev a b → Wanted m (suc i) d → Wanted a i d
    prev_step e W = step_first m Prev a b e (suc i) d W i (omega (arith, W.in_trace)) (node_fine m Prev a b e (suc i) d W) (same_number (suc i))

    until_first_lem : node_at ns m ≡ node Until a b → Wanted m i d → (k : ℕ) → k < L → FirstTaken d L (of a d) (of b d) i k → Wanted a k d
    until_first_lem e W k h T = step_first m Until a b e i d W k h (node_fine m Until a b e i d W).0 (first_taken_lem d L (of a d) (of b d) i k T)

    until_second_lem : node_at ns m ≡ node Until a b → Wanted m i d → (k : ℕ) → k < L → SecondTaken d L (of a d) (of b d) i k → Wanted b k d
    until_second_lem e W k h T = step_second m Until a b e i d W k h (node_fine m Until a b e i d W).1 (second_taken_lem d L (of a d) (of b d) i k T)

    since_first_lem : node_at ns m ≡ node Since a b → Wanted m i d → (k : ℕ) → k < L → FirstTakenBack (of a d) (of b d) i k → Wanted a k d
    since_first_lem e W k h T = step_first m Since a b e i d W k h (node_fine m Since a b e i d W).0 (first_taken_back (of a d) (of b d) i k T)

    since_second_lem : node_at ns m ≡ node Since a b → Wanted m i d → (k : ℕ) → k < L → SecondTakenBack (of a d) (of b d) i k → Wanted b k d
    since_second_lem e W k h T = step_second m Since a b e i d W k h (node_fine m Since a b e i d W).1 (second_taken_back (of a d) (of b d) i k T)

  -- every reading to which the walk comes is marked
  pub come : {m i : ℕ} {d : Bool} → Reached t ns weak m i d → Wanted m i d
  come (from_rule x y) = record { in_table = omega arith; in_trace = y; marked = wanted_rule t ns weak x y }
  come (not_passes {m} {a} {b} {i} {d} e R) = not_step m a b i d e (come R)
  come (or_first {m} {a} {b} {i} {d} e R y p) = or_first_lem m a b i d e (come R) p
  come (or_second {m} {a} {b} {i} {d} e R y n p) = or_second_lem m a b i d e (come R) n p
  come (or_no_first {m} {a} {b} {i} {d} e R n) = or_no_first_lem m a b i d e (come R) n
  come (or_no_second {m} {a} {b} {i} {d} e R n) = or_no_second_lem m a b i d e (come R) n
  come (until_fit {m} {a} {b} {i} {k} {d} e R y F) =
      until_second_lem m a b i d e (come R) k F.fitting.below (fit (node_own m Until a b e i d (come R) true y) F)
  come (until_before {m} {a} {b} {i} {k} {d} e R y F j x z) =
      until_first_lem m a b i d e (come R) j (omega (arith, F.fitting.below)) (before k (node_own m Until a b e i d (come R) true y) F x z)
  come (until_ending {m} {a} {b} {i} {d} e R y N j x z) =
      let is : until_at d L (of a d) (of b d) i ≡ true = node_own m Until a b e i d (come R) true y in
      until_first_lem m a b i d e (come R) j z (ending is (only_weak d L (of a d) (of b d) i is N) N x z)
  come (until_fails {m} {a} {b} {i} {k} {d} e R n F) =
      until_first_lem m a b i d e (come R) k F.below (fails (node_own m Until a b e i d (come R) false n) F)
  come (until_up_to {m} {a} {b} {i} {k} {d} e R n F j x z) =
      until_second_lem m a b i d e (come R) j (omega (arith, F.below)) (up_to k (node_own m Until a b e i d (come R) false n) F x z)
  come (until_never {m} {a} {b} {i} {d} e R n N j x z) =
      until_second_lem m a b i d e (come R) j z (never_fails (node_own m Until a b e i d (come R) false n) N x z)
  come (since_fit {m} {a} {b} {i} {k} {d} e R y F) =
      since_second_lem m a b i d e (come R) k (omega (arith, F.fitting.not_after, (come R).in_trace)) (fit_back (node_own m Since a b e i d (come R) true y) F)
  come (since_after {m} {a} {b} {i} {k} {d} e R y F j x z) =
      since_first_lem m a b i d e (come R) j (omega (arith, (come R).in_trace)) (after k (node_own m Since a b e i d (come R) true y) F x z)
  come (since_fails {m} {a} {b} {i} {k} {d} e R n F) =
      since_first_lem m a b i d e (come R) k (omega (arith, F.not_after, (come R).in_trace)) (fails_back (node_own m Since a b e i d (come R) false n) F)
  come (since_down_to {m} {a} {b} {i} {k} {d} e R n F j x z) =
      since_second_lem m a b i d e (come R) j (omega (arith, (come R).in_trace)) (down_to k (node_own m Since a b e i d (come R) false n) F x z)
  come (since_never {m} {a} {b} {i} {d} e R n N j x) =
      since_second_lem m a b i d e (come R) j (omega (arith, (come R).in_trace)) (never_fails_back (node_own m Since a b e i d (come R) false n) N x)
  come (next_takes {m} {a} {b} {i} {d} e R h) = next_step m a b i d e (come R) h
  come (prev_takes {m} {a} {b} {i} {d} e R) = prev_step m a b i d e (come R)

  -- ---- what a reading that is reached takes is reached
  module _ (m a b : ℕ) (l : m < length ns) (i : ℕ) (d : Bool) (h : i < L) (R : Reached t ns weak m i d) where
    read_as_lem : (K : Kind) → node_at ns m ≡ node K a b → (x : Bool) → reading t of K a b d i ≡ x → of m d i ≡ x
    read_as_lem K e x z = own m K a b e l d i h ∙ z

    take_until_first : node_at ns m ≡ node Until a b → (k : ℕ) → FirstTaken d L (of a d) (of b d) i k → Reached t ns weak a k d
    take_until_first e k (before f is F x y) = until_before e R (read_as_lem Until e true is) F k x y
    take_until_first e k (ending is w N x y) = until_ending e R (read_as_lem Until e true is) N k x y
    take_until_first e k (fails is F) = until_fails e R (read_as_lem Until e false is) F

    take_until_second : node_at ns m ≡ node Until a b → (k : ℕ) → SecondTaken d L (of a d) (of b d) i k → Reached t ns weak b k d
    take_until_second e k (fit is F) = until_fit e R (read_as_lem Until e true is) F
    take_until_second e k (up_to f is F x y) = until_up_to e R (read_as_lem Until e false is) F k x y
    take_until_second e k (never_fails is N x y) = until_never e R (read_as_lem Until e false is) N k x y

    take_since_first : node_at ns m ≡ node Since a b → (k : ℕ) → FirstTakenBack (of a d) (of b d) i k → Reached t ns weak a k d
    take_since_first e k (after f is F x y) = since_after e R (read_as_lem Since e true is) F k x y
    take_since_first e k (fails_back is F) = since_fails e R (read_as_lem Since e false is) F

    take_since_second : node_at ns m ≡ node Since a b → (k : ℕ) → SecondTakenBack (of a d) (of b d) i k → Reached t ns weak b k d
    take_since_second e k (fit_back is F) = since_fit e R (read_as_lem Since e true is) F
    take_since_second e k (down_to f is F x y) = since_down_to e R (read_as_lem Since e false is) F k x y
    take_since_second e k (never_fails_back is N x) = since_never e R (read_as_lem Since e false is) N k x

    take_or_first : node_at ns m ≡ node Or a b → pick (of a d i || of b d i) (of a d i) true ≡ true → Reached t ns weak a i d
    unfolding pick
    take_or_first e z = by_test (of a d i)
        (λ y. or_first e R (read_as_lem Or e true (rw y)) y)
        (λ n. by_test (of b d i) (λ y. clash (rw (n, y) at z) refl) (λ v. or_no_first e R (read_as_lem Or e false (rw (n, v)))))

    take_or_second : node_at ns m ≡ node Or a b → pick (of a d i || of b d i) (not (of a d i)) true ≡ true → Reached t ns weak b i d
    unfolding pick
    take_or_second e z = by_test (of a d i)
        (λ y. clash (rw y at z) refl)
        (λ n. by_test (of b d i) (λ y. or_second e R (read_as_lem Or e true (rw (n, y))) n y) (λ v. or_no_second e R (read_as_lem Or e false (rw (n, v)))))

  take_prev : (m a b : ℕ) (i : ℕ) (d : Bool) → Reached t ns weak m i d → node_at ns m ≡ node Prev a b → (k : ℕ) → suc k ≡ i → Reached t ns weak a k d
  take_prev m a b i d R e k q = let S : Reached t ns weak m (suc k) d = rw q R in prev_takes e S

  take_first : (m : ℕ) → m < length ns → (K : Kind) (a b : ℕ) → node_at ns m ≡ node K a b → (d : Bool) (i k : ℕ) → i < L → k < L →
      Reached t ns weak m i d → takes_first L of K a b d i k ≡ true → Reached t ns weak a k (under K d)
  take_first m l True a b e d i k h g R z = clash z refl
  take_first m l Atom a b e d i k h g R z = clash z refl
  take_first m l Not a b e d i k h g R z = let q : k ≡ i = eqb-true k i z in rw q (not_passes e R)
  take_first m l Or a b e d i k h g R z =
      let (x, y) = both_true (eqb k i) (pick (of a d i || of b d i) (of a d i) true) z in
      let q : k ≡ i = eqb-true k i x in
      rw q (take_or_first m a b l i d h R e y)
  take_first m l Next a b e d i k h g R z =
      let (x, y) = both_true (eqb k (suc i)) (ltb k L) z in
      let q : k ≡ suc i = eqb-true k (suc i) x in
      rw q (next_takes e R (omega arith))
  take_first m l Until a b e d i k h g R z = take_until_first m a b l i d h R e k (taken_first_lem d L (of a d) (of b d) i k z)
  take_first m l Prev a b e d i k h g R z = take_prev m a b i d R e k (eqb-true (suc k) i z)
  take_first m l Since a b e d i k h g R z = take_since_first m a b l i d h R e k (taken_first_back (of a d) (of b d) i k z)
  take_first m l Run a b e d i k h g R z = clash z refl
  take_first m l End a b e d i k h g R z = clash z refl
  take_first m l Unknown a b e d i k h g R z = clash z refl

  take_second : (m : ℕ) → m < length ns → (K : Kind) (a b : ℕ) → node_at ns m ≡ node K a b → (d : Bool) (i k : ℕ) → i < L → k < L →
      Reached t ns weak m i d → takes_second L of K a b d i k ≡ true → Reached t ns weak b k (under K d)
  take_second m l True a b e d i k h g R z = clash z refl
  take_second m l Atom a b e d i k h g R z = clash z refl
  take_second m l Not a b e d i k h g R z = clash z refl
  take_second m l Or a b e d i k h g R z =
      let (x, y) = both_true (eqb k i) (pick (of a d i || of b d i) (not (of a d i)) true) z in
      let q : k ≡ i = eqb-true k i x in
      rw q (take_or_second m a b l i d h R e y)
  take_second m l Next a b e d i k h g R z = clash z refl
  take_second m l Until a b e d i k h g R z = take_until_second m a b l i d h R e k (taken_second_lem d L (of a d) (of b d) i k z)
  take_second m l Prev a b e d i k h g R z = clash z refl
  take_second m l Since a b e d i k h g R z = take_since_second m a b l i d h R e k (taken_second_back (of a d) (of b d) i k z)
  take_second m l Run a b e d i k h g R z = clash z refl
  take_second m l End a b e d i k h g R z = clash z refl
  take_second m l Unknown a b e d i k h g R z = clash z refl

  -- the set of what is reached, in the order of the rows
  abbrev ReachedSet : Readings
  ReachedSet m d i = Reached t ns weak m i d

  reached_closed : ClosedFrom L of (length ns) ReachedSet 0 ns
  reached_closed = closed_from L of (length ns) ReachedSet 0 ns (λ j l. rw (zero-add j) (record {
    first = λ d i k h g R a z. take_first j l (node_at ns j).kind (node_at ns j).first (node_at ns j).second refl d i k h g R z;
    second = λ d i k h g R a z. take_second j l (node_at ns j).kind (node_at ns j).first (node_at ns j).second refl d i k h g R z;
  }))

  -- a reading that is reached has a mark
  pub reached_wanted : (m place : ℕ) (reading : Bool) → Reached t ns weak m place reading → read_from (wanted_rows t ns weak) m reading place ≡ true
  reached_wanted m place reading R = (come R).marked

  -- a reading that has a mark is reached
  pub wanted_reached : (m place : ℕ) (reading : Bool) → read_from (wanted_rows t ns weak) m reading place ≡ true → Reached t ns weak m place reading
  wanted_reached m place reading e =
      let (l, h) = wanted_inside t ns weak m reading place e in
      wanted_least t ns weak ReachedSet reached_closed (from_rule (omega arith) (omega arith)) m reading place l h e

-- For the nodes of an accepted rule, on every trace: the walk comes to a node at a place in a reading exactly where the wanted rows have a mark.
pub reached_is_wanted : (R : Rule) → rule_refusal R ≡ 0 → (t : Trace) (weak : Bool) (m place : ℕ) (reading : Bool) →
    let ns : List Node = nodes_in R.count R.nodes in
    (Reached t ns weak m place reading → read_from (wanted_rows t ns weak) m reading place ≡ true)
    × (read_from (wanted_rows t ns weak) m reading place ≡ true → Reached t ns weak m place reading)
reached_is_wanted R accepted t weak m place reading =
    let ns : List Node = nodes_in R.count R.nodes in
    let r : RuleNodes 0 ns = rule_nodes_lem R accepted in
    (reached_wanted t ns weak r m place reading, wanted_reached t ns weak r m place reading)
