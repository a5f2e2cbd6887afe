-- One law for each need of a node's turn and of the walk.
use mathlib.Core.Path.{◌≡◌, refl, sym, ap, ap₂, ◌∙◌}
use mathlib.Core.Bool.{Bool, true, false, ◌&&◌, ◌||◌, and-false, or-false, true≢false}
use mathlib.Core.List.{List, [], ◌∷◌}
use Prim.Native.Nat.{ℕ, zero, suc, ◌+◌, ◌-◌, ◌<◌, ◌≤◌}
use native.Mathlib.Nat.{zero-add}
use native.Mathlib.Omega.{arith}
use lib.Dec.{eqb}
use lib.ListN.{length, drop, get_or, drop_of_length-le}
use lib.Seq.{drop-cons}
use Rattle.definitions.specs.Nodes.{Kind, True, Atom, Not, Or, Next, Until, Prev, Since, Run, End, Unknown, Node, node, no_node, node_at}
use Rattle.definitions.specs.Tables.{nodes_in}
use Rattle.definitions.specs.Readings.{Trace, Rows, no_rows, row_of, read_from, rows_of}
use Rattle.definitions.specs.Evidence.{under, rows_by, takes, walk_node, walk_nodes, same_reading, start_rows, wanted_rows}
use Rattle.theorems.proofs.Choice.{by_test}
use Rattle.theorems.proofs.RuleNodes.{RuleNodes}
use Rattle.theorems.proofs.Semantics.{Row, Agree}
use Rattle.theorems.proofs.EvidenceRows.{first_marks, second_marks}
use Rattle.theorems.proofs.EvidenceWalk.{by_at, read_by}
use Rattle.theorems.proofs.EvidenceTurns.{turn_of}
use Rattle.mark_words.specs.Marks.{mark_at}
use Rattle.rules.specs.Meaning.{meaning, OfWord}
use Rattle.rules.specs.declared.node.Node as code
use Rattle.rules.specs.Kinds.{kind_in, is_leaf, Fit}
use Rattle.rules.specs.declared.kind.Kind as told
use Rattle.rows.specs.Pairs.{rows_in, PairMade, pair_of_node}
use Rattle.rows.proofs.PairLaws.{rows_in_lem}
use Rattle.rules.proofs.NodeLists.{nodes_length}
use Rattle.walk.specs.declared.taken.Taken.{Taken}
use Rattle.walk.specs.Steps.{both_of, taken_first, taken_second, TakenMade}
use Rattle.walk.specs.Wanted.{Wished, Held, started, wished}
use Rattle.walk.specs.Walking.{Laid, OperatorReady, word_node, Turning, turn_first, turn_second, Turned, Walkable, Walked}
use Rattle.walk.proofs.WantedLaws.{both_at, pair_by, held_by_lem, held_over, pair_recounted, wish_held}

-- ---- pairs that are held

-- pairs that hold some rows hold whole ones
pub held_laid : (n count : ℕ) (l : List ℕ) (f : ℕ → Rows) → Held n count l f → Laid n count l
held_laid n count l f H = record { pairs = λ j c. rw (rows_in_lem (pair_of_node l j) n (f j) (H.pairs j c)) (H.pairs j c) }

-- ---- a leaf takes nothing

leaf_first : (L : ℕ) (K : Kind) (u p q w : ℕ → Bool) (k : ℕ) → is_leaf K ≡ true → first_marks L K u p q w k ≡ false
leaf_first L True u p q w k h = refl
leaf_first L Atom u p q w k h = refl
leaf_first L Not u p q w k h = absurd (true≢false (sym h))
leaf_first L Or u p q w k h = absurd (true≢false (sym h))
leaf_first L Next u p q w k h = absurd (true≢false (sym h))
leaf_first L Until u p q w k h = absurd (true≢false (sym h))
leaf_first L Prev u p q w k h = absurd (true≢false (sym h))
leaf_first L Since u p q w k h = absurd (true≢false (sym h))
leaf_first L Run u p q w k h = refl
leaf_first L End u p q w k h = refl
leaf_first L Unknown u p q w k h = refl

leaf_second : (L : ℕ) (K : Kind) (u p q w : ℕ → Bool) (k : ℕ) → is_leaf K ≡ true → second_marks L K u p q w k ≡ false
leaf_second L True u p q w k h = refl
leaf_second L Atom u p q w k h = refl
leaf_second L Not u p q w k h = absurd (true≢false (sym h))
leaf_second L Or u p q w k h = absurd (true≢false (sym h))
leaf_second L Next u p q w k h = absurd (true≢false (sym h))
leaf_second L Until u p q w k h = absurd (true≢false (sym h))
leaf_second L Prev u p q w k h = absurd (true≢false (sym h))
leaf_second L Since u p q w k h = absurd (true≢false (sym h))
leaf_second L Run u p q w k h = refl
leaf_second L End u p q w k h = refl
leaf_second L Unknown u p q w k h = refl

-- ---- what is wished, read at a place

-- the marks that node m takes of its operands, from rows of the nodes and their wanted places
module _ (x : Node) (n : ℕ) (w u p q : Rows) where
  abbrev pub first_taken : Bool → ℕ → Bool
  first_taken e k =
      first_marks n x.kind (mark_at (row_of (under x.kind e) u)) (mark_at (row_of (under x.kind e) p)) (mark_at (row_of (under x.kind e) q)) (mark_at (row_of (under x.kind e) w)) k

  abbrev pub second_taken : Bool → ℕ → Bool
  second_taken e k =
      second_marks n x.kind (mark_at (row_of (under x.kind e) u)) (mark_at (row_of (under x.kind e) p)) (mark_at (row_of (under x.kind e) q)) (mark_at (row_of (under x.kind e) w)) k

  first_read : (e : Bool) → Agree n (mark_at (row_of e (both_of (taken_first x.kind n w u p q)))) (first_taken e)
  unfolding taken_first
  first_read e = both_at n first_taken e

  second_read : (e : Bool) → Agree n (mark_at (row_of e (both_of (taken_second x.kind n w u p q)))) (second_taken e)
  unfolding taken_second
  second_read e = both_at n second_taken e

  -- both wishes of a turn, at node i
  abbrev pub both_taken : (ℕ → Rows) → ℕ → ℕ → ℕ → Bool → ℕ → Bool
  both_taken f a b i e k = mark_at (row_of e (f i)) k || ((eqb i a && first_taken e k) || (eqb i b && second_taken e k))

  wished_body : (f : ℕ → Rows) (a b i : ℕ) (e : Bool) (k : ℕ) → k < n →
      (mark_at (row_of e (wished n f a (both_of (taken_first x.kind n w u p q)) i)) k || (eqb i b && mark_at (row_of e (both_of (taken_second x.kind n w u p q))) k)) ≡ both_taken f a b i e k
  wished_body f a b i e k h =
      let F : Rows = both_of (taken_first x.kind n w u p q) in
      rw (both_at n (λ e k. mark_at (row_of e (f i)) k || (eqb i a && mark_at (row_of e F) k)) e k h, first_read e k h, second_read e k h)
      (joined (mark_at (row_of e (f i)) k) (eqb i a && first_taken e k) (eqb i b && second_taken e k))
    where
      joined : (x y z : Bool) → ((x || y) || z) ≡ (x || (y || z))
      joined true y z = refl
      joined false y z = refl

  wished_read : (f : ℕ → Rows) (a b i : ℕ) (e : Bool) →
      Agree n (mark_at (row_of e (wished n (wished n f a (both_of (taken_first x.kind n w u p q))) b (both_of (taken_second x.kind n w u p q)) i))) (both_taken f a b i e)
  wished_read f a b i e k h =
      both_at n (λ e k. mark_at (row_of e (wished n f a (both_of (taken_first x.kind n w u p q)) i)) k || (eqb i b && mark_at (row_of e (both_of (taken_second x.kind n w u p q))) k)) e k h
      ∙ wished_body f a b i e k h

-- ---- a node's turn

-- the node and the number of places, told otherwise
turned_over : (m k n : ℕ) (x y : Node) (rows l l' : List ℕ) → k ≡ n → x ≡ y → Turned x m k rows l l' → Turned y m n rows l l'
turned_over m k n x y rows l l' e g U = rw (e, g) at U

-- an operator
module _ (kind : told.Kind) (first second m n : ℕ) (rows wanted : List ℕ) (T : OperatorReady kind first second m n rows wanted) where
  abbrev operator_node : Node
  operator_node = node (kind_in kind) first second

  wanted_made : (j : ℕ) → j < m + 1 → PairMade (pair_of_node wanted j) n (rows_in (pair_of_node wanted j))
  wanted_made j h = T.wanted_laid.pairs j h

  module _ (t : Taken) (made : TakenMade (kind_in kind) (pair_of_node wanted m) (pair_of_node rows m) (pair_of_node rows first) (pair_of_node rows second) t) where
    places : (pair_of_node wanted m).weak.count ≡ n
    places = (wanted_made m (omega arith)).weak.count

    first_made : PairMade t.first n (turn_first operator_node m n rows wanted)
    first_made = pair_recounted t.first (pair_of_node wanted m).weak.count n (λ c. both_of (taken_first (kind_in kind) c (rows_in (pair_of_node wanted m)) (rows_in (pair_of_node rows m))
        (rows_in (pair_of_node rows first)) (rows_in (pair_of_node rows second)))) places made.first

    second_made : PairMade t.second n (turn_second operator_node m n rows wanted)
    second_made = pair_recounted t.second (pair_of_node wanted m).weak.count n (λ c. both_of (taken_second (kind_in kind) c (rows_in (pair_of_node wanted m)) (rows_in (pair_of_node rows m))
        (rows_in (pair_of_node rows first)) (rows_in (pair_of_node rows second)))) places made.second

    module _ (l' : List ℕ) (kept : length l' ≡ length wanted) (W : Wished wanted first t.first l') where
      after_first : (count : ℕ) (f : ℕ → Rows) → m < count → Held n count wanted f → Held n count l' (wished n f first (turn_first operator_node m n rows wanted))
      after_first count f c H =
          wish_held n count wanted l' f first t.first (turn_first operator_node m n rows wanted) H (omega (arith, T.first_early)) first_made W

      -- `turn_operator`
      pub operator_done : (l'' : List ℕ) → Wished l' second t.second l'' → Turned operator_node m n rows wanted l''
      operator_done l'' X = record {
        adds = λ count f c H. wish_held n count l' l'' (wished n f first (turn_first operator_node m n rows wanted)) second t.second
            (turn_second operator_node m n rows wanted) (after_first count f c H) (omega (arith, T.second_early)) second_made X;
      }

-- any node
module _ (nodes : List ℕ) (m n : ℕ) (rows wanted : List ℕ) (T : Turning nodes m n rows wanted) (x : code.Node) (word : OfWord (get_or nodes m 0) x)
    (leaf : Bool) (tested : leaf ≡ is_leaf (kind_in x.kind)) where
  fit : Fit m (meaning x)
  fit = rw word.meant T.fit

  -- `turn` of a leaf, which takes nothing
  pub turn_leaf : leaf ≡ true → Turned (word_node nodes m) m n rows wanted wanted
  turn_leaf t = turned_over m n n (meaning x) (word_node nodes m) rows wanted wanted refl word.meant (record { adds = λ count f c H. record { pairs = λ j d. pairs count f H j d } })
    where
      none_first : (w u p q : Rows) (e : Bool) (k : ℕ) → first_taken (meaning x) n w u p q e k ≡ false
      none_first w u p q e k = leaf_first n (kind_in x.kind) _ _ _ _ k (sym tested ∙ t)

      none_second : (w u p q : Rows) (e : Bool) (k : ℕ) → second_taken (meaning x) n w u p q e k ≡ false
      none_second w u p q e k = leaf_second n (kind_in x.kind) _ _ _ _ k (sym tested ∙ t)

      pairs : (count : ℕ) (f : ℕ → Rows) → Held n count wanted f → (j : ℕ) → j < count →
          PairMade (pair_of_node wanted j) n (wished n (wished n f x.first (turn_first (meaning x) m n rows wanted)) x.second (turn_second (meaning x) m n rows wanted) j)
      pairs count f H j d =
          let w : Rows = rows_in (pair_of_node wanted m) in
          let u : Rows = rows_in (pair_of_node rows m) in
          let p : Rows = rows_in (pair_of_node rows x.first) in
          let q : Rows = rows_in (pair_of_node rows x.second) in
          pair_by (pair_of_node wanted j) n (f j)
          (λ e k. mark_at (row_of e (wished n f x.first (turn_first (meaning x) m n rows wanted) j)) k || (eqb j x.second && mark_at (row_of e (turn_second (meaning x) m n rows wanted)) k))
          (H.pairs j d)
          (λ e k h. sym (wished_body (meaning x) n w u p q f x.first x.second j e k h
          ∙ rw (none_first w u p q e k, none_second w u p q e k, and-false (eqb j x.first), and-false (eqb j x.second), or-false (mark_at (row_of e (f j)) k))))

-- ---- all turns

-- a node of the definitions is the node of its word
pub node_at_lem : (count : ℕ) (nodes : List ℕ) (m : ℕ) → m < count → count ≤ length nodes → node_at (nodes_in count nodes) m ≡ word_node nodes m
node_at_lem zero nodes m h l = absurd (omega arith)
node_at_lem (suc count) [] m h l = absurd (omega arith)
node_at_lem (suc count) (w ∷ ws) zero h l = refl
node_at_lem (suc count) (w ∷ ws) (suc m) h l = node_at_lem count ws m (omega arith) (omega arith)

-- rows that are said by their marks
rows_by_lem : (n count : ℕ) (l : List ℕ) (f : ℕ → Rows) (g : ℕ → Row) → Held n count l f → ((j : ℕ) → j < count → (e : Bool) → Agree n (mark_at (row_of e (f j))) (g j e))
    → Held n count l (λ j. get_or (rows_by n count 0 g) j no_rows)
rows_by_lem n count l f g H h =
    let K = held_by_lem n count l f g H h in
    record { pairs = λ j c. rw (by_at n count 0 g j c, zero-add j) (K.pairs j c) }

-- the same rows
rows_same : (n count : ℕ) (l : List ℕ) (ws vs : List Rows) → ws ≡ vs → Held n count l (λ j. get_or ws j no_rows) → Held n count l (λ j. get_or vs j no_rows)
rows_same n count l ws vs e H = rw e at H

-- one turn over the rows of a rule's nodes is one turn of the walk
module _ (t : Trace) (ns : List Node) (ruled : RuleNodes 0 ns) (m : ℕ) (inside : m < length ns) (fit : Fit m (node_at ns m)) (rows l l' : List ℕ) (ws : List Rows)
    (R : Held t.places (length ns) rows (λ j. get_or (rows_of t ns) j no_rows)) (H : Held t.places (length ns) l (λ j. get_or ws j no_rows))
    (U : Turned (node_at ns m) m t.places rows l l') where
  abbrev x : Node
  x = node_at ns m

  abbrev of : ℕ → Row
  of = read_from (rows_of t ns)

  row_is : (j : ℕ) → j < length ns → rows_in (pair_of_node rows j) ≡ get_or (rows_of t ns) j no_rows
  row_is j c = rows_in_lem (pair_of_node rows j) t.places (get_or (rows_of t ns) j no_rows) (R.pairs j c)

  wanted_is : rows_in (pair_of_node l m) ≡ get_or ws m no_rows
  wanted_is = rows_in_lem (pair_of_node l m) t.places (get_or ws m no_rows) (H.pairs m inside)

  first_is : (e : Bool) (k : ℕ) →
      first_taken x t.places (rows_in (pair_of_node l m)) (rows_in (pair_of_node rows m)) (rows_in (pair_of_node rows x.first)) (rows_in (pair_of_node rows x.second)) e k
      ≡ first_marks t.places x.kind (of m (under x.kind e)) (of x.first (under x.kind e)) (of x.second (under x.kind e)) (read_from ws m (under x.kind e)) k
  first_is e k = by_test (is_leaf x.kind)
      (λ z. leaf_first t.places x.kind _ _ _ _ k z ∙ sym (leaf_first t.places x.kind _ _ _ _ k z))
      (λ z. rw (wanted_is, row_is m inside, row_is x.first (omega (arith, fit.first z)), row_is x.second (omega (arith, fit.second z))))

  second_is : (e : Bool) (k : ℕ) →
      second_taken x t.places (rows_in (pair_of_node l m)) (rows_in (pair_of_node rows m)) (rows_in (pair_of_node rows x.first)) (rows_in (pair_of_node rows x.second)) e k
      ≡ second_marks t.places x.kind (of m (under x.kind e)) (of x.first (under x.kind e)) (of x.second (under x.kind e)) (read_from ws m (under x.kind e)) k
  second_is e k = by_test (is_leaf x.kind)
      (λ z. leaf_second t.places x.kind _ _ _ _ k z ∙ sym (leaf_second t.places x.kind _ _ _ _ k z))
      (λ z. rw (wanted_is, row_is m inside, row_is x.first (omega (arith, fit.first z)), row_is x.second (omega (arith, fit.second z))))

  turn_walks : Held t.places (length ns) l' (λ j. get_or (walk_node t.places of (length ns) m x ws) j no_rows)
  turn_walks =
      let f : ℕ → Rows = λ j. get_or ws j no_rows in
      rows_by_lem t.places (length ns) l' (wished t.places (wished t.places f x.first (turn_first x m t.places rows l)) x.second (turn_second x m t.places rows l))
      (λ j e k. read_from ws j e k || takes t.places of (read_from ws) m x j e k)
      (U.adds (length ns) f inside H)
      (λ j c e k h.
      wished_read x t.places (rows_in (pair_of_node l m)) (rows_in (pair_of_node rows m)) (rows_in (pair_of_node rows x.first)) (rows_in (pair_of_node rows x.second)) f x.first x.second j e k h
      ∙ (rw (first_is e k, second_is e k) (sym (turn_of t ns ruled m inside (length ns) ws j e k c h))
      ∙ read_by t.places (length ns) (λ j e k. read_from ws j e k || takes t.places of (read_from ws) m x j e k) j e k c h))

-- what is wanted after the nodes from node m on
abbrev pub walked_from : Trace → List Node → Bool → ℕ → List Rows
walked_from t ns weak m = walk_nodes t.places (read_from (rows_of t ns)) (length ns) m (drop m ns) (start_rows t.places (length ns) weak)

-- before node m - 1: the nodes from node m on had their turns
pub record Walking (nodes : List ℕ) (count n : ℕ) (rows : List ℕ) (weak : Bool) (entry : List ℕ) (m : ℕ) (l : List ℕ) : Type 0 where
  pub within : m ≤ count
  pub kept : length l ≡ length entry
  pub able : Walkable nodes count n rows l
  pub laid : Laid n count l
  pub wants : (t : Trace) → n ≡ t.places → Held n count rows (λ j. get_or (rows_of t (nodes_in count nodes)) j no_rows)
      → Held n count l (λ j. get_or (walked_from t (nodes_in count nodes) weak m) j no_rows)

-- the space for the wanted places is as long
able_over : (nodes : List ℕ) (count n : ℕ) (rows l l' : List ℕ) → length l' ≡ length l → Walkable nodes count n rows l → Walkable nodes count n rows l'
able_over nodes count n rows l l' kept given = record {
  counted = given.counted;
  some = given.some;
  few = given.few;
  ruled = given.ruled;
  fit = given.fit;
  rows_room = given.rows_room;
  wanted_room = omega (arith, given.wanted_room);
  rows_laid = given.rows_laid;
}

module _ (nodes : List ℕ) (count n : ℕ) (rows : List ℕ) (weak : Bool) (entry : List ℕ) (given : Walkable nodes count n rows entry) where
  size : length (nodes_in count nodes) ≡ count
  size = nodes_length nodes count given.counted

  pub walk_start : (l : List ℕ) → length l ≡ length entry → Held n count l (started n count weak) → Walking nodes count n rows weak l count l
  walk_start l kept H = record {
    within = omega arith;
    kept = refl;
    able = able_over nodes count n rows entry l kept given;
    laid = held_laid n count l (started n count weak) H;
    wants = λ t q R. rows_same n count l (start_rows n count weak) (walked_from t (nodes_in count nodes) weak count)
        (sym (none_left t ∙ ap₂ (λ (P N : ℕ). start_rows P N weak) (sym q) size))
        (rows_by_lem n count l (started n count weak) (λ j e k. eqb (suc j) count && (same_reading weak e && eqb k 0)) H
        (λ j c e k h. both_at n (λ e k. eqb (suc j) count && (same_reading weak e && eqb k 0)) e k h));
  }
    where
      none_left : (t : Trace) → walked_from t (nodes_in count nodes) weak count ≡ start_rows t.places (length (nodes_in count nodes)) weak
      none_left t =
          ap (λ (ns : List Node). walk_nodes t.places (read_from (rows_of t (nodes_in count nodes))) (length (nodes_in count nodes)) count ns (start_rows t.places (length (nodes_in count nodes)) weak))
          (drop_of_length-le (nodes_in count nodes) {i = count} (omega (arith, size)))

module _ (nodes : List ℕ) (count n : ℕ) (rows : List ℕ) (weak : Bool) (first : List ℕ) (m : ℕ) (l : List ℕ) (so : Walking nodes count n rows weak first m l) where
  long : length (nodes_in count nodes) ≡ count
  long = nodes_length nodes count so.able.counted

  -- `walk`: a turn more, and all turns
  pub walk_more : 0 < m → (l' : List ℕ) → length l' ≡ length l → Turned (word_node nodes (m - 1)) (m - 1) n rows l l' → Walking nodes count n rows weak first (m - 1) l'
  walk_more h l' kept U = record {
    within = omega (arith, so.within);
    kept = kept ∙ so.kept;
    able = able_over nodes count n rows l l' kept so.able;
    laid = held_laid n count l' (wished n (wished n (λ j. rows_in (pair_of_node l j)) (word_node nodes (m - 1)).first (turn_first (word_node nodes (m - 1)) (m - 1) n rows l))
        (word_node nodes (m - 1)).second (turn_second (word_node nodes (m - 1)) (m - 1) n rows l))
        (U.adds count (λ j. rows_in (pair_of_node l j)) (omega (arith, so.within)) so.laid);
    wants = λ t q R. more t q R;
  }
    where
      more : (t : Trace) → n ≡ t.places → Held n count rows (λ j. get_or (rows_of t (nodes_in count nodes)) j no_rows)
          → Held n count l' (λ j. get_or (walked_from t (nodes_in count nodes) weak (m - 1)) j no_rows)
      more t q R =
          let ns : List Node = nodes_in count nodes in
          let c : m - 1 < count = omega (arith, so.within) in
          let here : node_at ns (m - 1) ≡ word_node nodes (m - 1) = node_at_lem count nodes (m - 1) c so.able.counted in
          let front : drop (m - 1) ns ≡ node_at ns (m - 1) ∷ drop (suc (m - 1)) ns = drop-cons ns (m - 1) no_node (omega (arith, long)) in
          let next : suc (m - 1) ≡ m = omega arith in
          let ws : List Rows = walked_from t ns weak m in
          let step : ℕ → List Node → List Rows = λ k xs. walk_node t.places (read_from (rows_of t ns)) (length ns) (m - 1) (node_at ns (m - 1))
          (walk_nodes t.places (read_from (rows_of t ns)) (length ns) k xs (start_rows t.places (length ns) weak)) in
          let more_walked : walked_from t ns weak (m - 1) ≡ walk_node t.places (read_from (rows_of t ns)) (length ns) (m - 1) (node_at ns (m - 1)) ws
          = ap (λ (xs : List Node). walk_nodes t.places (read_from (rows_of t ns)) (length ns) (m - 1) xs (start_rows t.places (length ns) weak)) front
          ∙ ap (λ (k : ℕ). step k (drop k ns)) next in
          let walked = turn_walks t ns so.able.ruled (m - 1) (omega (arith, long)) (rw here (so.able.fit (m - 1) c)) rows l l' ws
          (held_over n t.places count (length ns) rows (λ j. get_or (rows_of t ns) j no_rows) q (sym long) R)
          (held_over n t.places count (length ns) l (λ j. get_or ws j no_rows) q (sym long) (so.wants t q R))
          (turned_over (m - 1) n t.places (word_node nodes (m - 1)) (node_at ns (m - 1)) rows l l' q (sym here) U) in
          rows_same n count l' (walk_node t.places (read_from (rows_of t ns)) (length ns) (m - 1) (node_at ns (m - 1)) ws) (walked_from t ns weak (m - 1)) (sym more_walked)
          (held_over t.places n (length ns) count l'
          (λ j. get_or (walk_node t.places (read_from (rows_of t ns)) (length ns) (m - 1) (node_at ns (m - 1)) ws) j no_rows) (sym q) long walked)

  pub walk_done : m ≤ 0 → Walked nodes count n rows weak l
  unfolding wanted_rows
  walk_done h = let e : m ≡ 0 = omega arith in record { wants = rw e at so.wants }
