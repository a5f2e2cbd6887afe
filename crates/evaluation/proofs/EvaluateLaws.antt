-- One law for each need of the evaluator: a node's rows, the rows laid, and the loop.
use mathlib.Core.Path.{◌≡◌, refl, sym, ap, ◌∙◌}
use mathlib.Core.Bool.{Bool, true, false}
use mathlib.Core.List.{List, [], ◌∷◌, ◌++◌, append_assoc}
use Prim.Native.Nat.{ℕ, ◌+◌, ◌*◌, ◌<◌, ◌≤◌}
use native.Mathlib.Omega.{arith}
use lib.Dec.{ltb, eqb}
use lib.ListN.{length, take, drop, get_or, take-append-drop}
use lib.Seq.{drop_at, drop-drop}
use borrow.Author.Tests.{lt-ltb, le-ltb, ltb-true, eqb-true}
use Rattle.definitions.specs.Limits.{max_states, pair_words}
use Rattle.definitions.specs.Nodes.{Node, node_of}
use Rattle.definitions.specs.Tables.{nodes_in}
use Rattle.definitions.specs.Readings.{Trace, Rows, no_rows, node_rows, rows_of, pairs_words}
use Rattle.theorems.proofs.Choice.{both_true}
use Rattle.rules.specs.Kinds.{kind_in, is_leaf, Fit}
use Rattle.rules.specs.Meaning.{meaning, OfWord}
use Rattle.rules.specs.declared.node.Node as code
use Rattle.rules.proofs.NodeLists.{nodes_more, nodes_length}
use Rattle.rows.proofs.StoredLaws.{loaded, pairs_length, pairs_more, weak_words, strong_words}
use Rattle.rows.specs.declared.pair.Pair.{Pair}
use Rattle.evaluation.specs.Nodes.{again, Evaluable, Ready, rows_to, rows_at}
use Rattle.rows.specs.Pairs.{rows_in, PairMade, PairStored, operated, pair_at, pair_of_node, Operands, operator_rows}
use Rattle.evaluation.specs.Traced.{trace_of}
use Rattle.rows.proofs.PairLaws.{rows_in_lem, pair_same, both_made}
use Rattle.evaluation.proofs.TableLaws.{rows_more, rows_length, rows_sized, operated_is, leaf_rows, rows_at_lem}

-- the pair of node k, where rows are laid
pub pair_of_rows : (t : Trace) (ns : List Node) (l rest : List ℕ) → t.places ≤ max_states → l ≡ pairs_words (rows_of t ns) ++ rest → (k : ℕ) → k < length ns
    → (p : Pair) → p ≡ pair_of_node l k → PairMade p t.places (get_or (rows_of t ns) k no_rows)
unfolding pair_at
pair_of_rows t ns l rest few laid k h p e =
    let hk : k < length (rows_of t ns) = rw (rows_length t ns) h in
    let sizes = rows_sized t ns k hk in
    record {
      weak = loaded l (k * pair_words) t.places (get_or (rows_of t ns) k no_rows).weak p.weak (ap (λ (q : Pair). q.weak) e)
          (ap (λ (ws : List ℕ). take 3 (drop (k * pair_words) ws)) laid ∙ weak_words (rows_of t ns) rest k hk) sizes.0 few;
      strong = loaded l (k * pair_words + 3) t.places (get_or (rows_of t ns) k no_rows).strong p.strong (ap (λ (q : Pair). q.strong) e)
          (ap (λ (ws : List ℕ). take 3 (drop (k * pair_words + 3) ws)) laid ∙ strong_words (rows_of t ns) rest k hk) sizes.1 few;
    }

-- ---- a node's turn

again_both : (nodes : List ℕ) (i j : ℕ) → again nodes i j ≡ true → (j < i) × (get_or nodes j 0 ≡ get_or nodes i 0)
unfolding again
again_both nodes i j h =
    let b = both_true (ltb j i) (eqb (get_or nodes j 0) (get_or nodes i 0)) h in
    (ltb-true j i b.0, eqb-true (get_or nodes j 0) (get_or nodes i 0) b.1)

-- the two answers of the test
pub again_tested : (nodes : List ℕ) (i j : ℕ) (b : Bool) → j < i → b ≡ eqb (get_or nodes j 0) (get_or nodes i 0) → b ≡ again nodes i j
unfolding again
again_tested nodes i j b h e = rw (lt-ltb j i h) e

pub again_late : (nodes : List ℕ) (i j : ℕ) → i ≤ j → ltb j i ≡ again nodes i j
unfolding again
again_late nodes i j h = rw (le-ltb j i h)

module _ (nodes : List ℕ) (i : ℕ) (states : List ℕ) (n c own : ℕ) (rows : List ℕ) (ready : Ready nodes i states n c own rows) where
  abbrev before : List Rows
  before = rows_to nodes i states n c own

  laid_whole : rows ≡ pairs_words before ++ drop (i * pair_words) rows
  laid_whole = sym (take-append-drop (i * pair_words) rows) ∙ ap (λ (l : List ℕ). l ++ drop (i * pair_words) rows) ready.laid

  pair_loaded : (k : ℕ) (p : Pair) → p ≡ pair_of_node rows k → k < i → PairMade p n (get_or before k no_rows)
  pair_loaded k p e h =
      let few : k < length (nodes_in i nodes) = omega (arith, nodes_length nodes i (omega (arith, ready.counted))) in
      pair_of_rows (trace_of states n c own) (nodes_in i nodes) rows (drop (i * pair_words) rows) ready.few laid_whole k few p e

  module _ (x : code.Node) (word : OfWord (get_or nodes i 0) x) where
    fit_of : Fit i (meaning x)
    fit_of = rw word.meant ready.fit

    module _ (leaf : Bool) (tested : leaf ≡ is_leaf (kind_in x.kind)) where
      pub again_turn : leaf ≡ true → (j : ℕ) (b : Bool) → b ≡ again nodes i j → b ≡ true → (r : Pair) → r ≡ pair_of_node rows j → PairMade r n (rows_at nodes i states n c own)
      again_turn t j b v y r e =
          let s = again_both nodes i j (sym v ∙ y) in
          let T = trace_of states n c own in
          let w : meaning x ≡ node_of (get_or nodes j 0) = word.meant ∙ ap node_of (sym s.1) in
          let here = leaf_rows states n c own before (kind_in x.kind) x.first x.second (sym tested ∙ t) ∙ ap (node_rows T before) word.meant in
          let there = leaf_rows states n c own (rows_to nodes j states n c own) (kind_in x.kind) x.first x.second (sym tested ∙ t) ∙ ap (node_rows T (rows_to nodes j states n c own)) w in
          pair_same r n (get_or before j no_rows) (rows_at nodes i states n c own) (pair_loaded j r e s.0)
          (rows_at_lem nodes states n c own i j s.0 (omega (arith, ready.counted)) ∙ (sym there ∙ here))

      pub again_room : leaf ≡ true → (j : ℕ) (b : Bool) → b ≡ again nodes i j → b ≡ true → j * pair_words + pair_words ≤ length rows
      again_room t j b v y = let s = again_both nodes i j (sym v ∙ y) in omega (arith, s.0, ready.room)

      module _ (f : leaf ≡ false) where
        first_made : PairMade (pair_of_node rows x.first) n (get_or before x.first no_rows)
        first_made = pair_loaded x.first (pair_of_node rows x.first) refl (fit_of.first (sym tested ∙ f))

        second_made : PairMade (pair_of_node rows x.second) n (get_or before x.second no_rows)
        second_made = pair_loaded x.second (pair_of_node rows x.second) refl (fit_of.second (sym tested ∙ f))

        pub operands_laid : Operands x.kind x.first x.second n rows
        operands_laid = record {
          operator = sym tested ∙ f;
          first_room = omega (arith, fit_of.first (sym tested ∙ f), ready.room);
          second_room = omega (arith, fit_of.second (sym tested ∙ f), ready.room);
          laid = both_made (pair_of_node rows x.first) (pair_of_node rows x.second) n (get_or before x.first no_rows) (get_or before x.second no_rows) first_made second_made;
          places = first_made.weak.count;
        }

        pub operator_turn : (r : Pair) → PairMade r n (operator_rows x.kind x.first x.second n rows) → PairMade r n (rows_at nodes i states n c own)
        operator_turn r m =
            let ps = rows_in_lem (pair_of_node rows x.first) n (get_or before x.first no_rows) first_made in
            let qs = rows_in_lem (pair_of_node rows x.second) n (get_or before x.second no_rows) second_made in
            pair_same r n (operated (kind_in x.kind) n (get_or before x.first no_rows) (get_or before x.second no_rows)) (rows_at nodes i states n c own)
            (rw (ps, qs) at m)
            (operated_is states n c own before (kind_in x.kind) x.first x.second (sym tested ∙ f) ∙ ap (node_rows (trace_of states n c own) before) word.meant)

  -- `evaluate_node`: its pair stored, the rows of one node more are laid
  pub turn_laid : (p : Pair) (l' : List ℕ) → PairMade p n (rows_at nodes i states n c own) → PairStored rows i p l'
      → l' ≡ pairs_words (rows_to nodes (i + 1) states n c own) ++ drop ((i + 1) * pair_words) rows
  turn_laid p l' m u =
      let more : rows_to nodes (i + 1) states n c own ≡ before ++ (rows_at nodes i states n c own ∷ []) =
      ap (rows_of (trace_of states n c own)) (nodes_more nodes i ready.counted) ∙ rows_more (trace_of states n c own) (nodes_in i nodes) (node_of (get_or nodes i 0)) in
      rw (
        more,
        ← rows_in_lem p n (rows_at nodes i states n c own) m,
        pairs_more before (rows_in p),
        append_assoc (pairs_words before) (pairs_words (rows_in p ∷ [])) (drop ((i + 1) * pair_words) rows),
      )
      (u.words ∙ ap (λ (l : List ℕ). l ++ (pairs_words (rows_in p ∷ []) ++ drop ((i + 1) * pair_words) rows)) ready.laid)

-- ---- the loop

-- before node i: the rows of the nodes before it are laid, and what is lent past them is as it was
pub record Evaluated (nodes : List ℕ) (count : ℕ) (states : List ℕ) (n c own : ℕ) (entry : List ℕ) (i : ℕ) (l : List ℕ) : Type 0 where
  pub within : i ≤ count
  pub laid : l ≡ pairs_words (rows_to nodes i states n c own) ++ drop (i * pair_words) entry

pub evaluated_none : (nodes : List ℕ) (count : ℕ) (states : List ℕ) (n c own : ℕ) (entry : List ℕ) → Evaluated nodes count states n c own entry 0 entry
unfolding rows_of
evaluated_none nodes count states n c own entry = record { within = omega arith; laid = refl }

module _ (nodes : List ℕ) (count : ℕ) (states : List ℕ) (n c own : ℕ) (entry : List ℕ) (i : ℕ) (l : List ℕ)
    (given : Evaluable nodes count states n c entry) (so : Evaluated nodes count states n c own entry i l) where
  front_length : length (pairs_words (rows_to nodes i states n c own)) ≡ i * pair_words
  front_length =
      let a = nodes_length nodes i (omega (arith, given.counted, so.within)) in
      let b = rows_length (trace_of states n c own) (nodes_in i nodes) in
      omega (arith, pairs_length (rows_to nodes i states n c own))

  pub evaluated_more : i < count → (l' : List ℕ) → l' ≡ pairs_words (rows_to nodes (i + 1) states n c own) ++ drop ((i + 1) * pair_words) l
      → Evaluated nodes count states n c own entry (i + 1) l'
  evaluated_more h l' e =
      let sum : i * pair_words + 6 ≡ (i + 1) * pair_words = omega arith in
      let rest : drop (i * pair_words) l ≡ drop (i * pair_words) entry =
      ap (drop (i * pair_words)) so.laid ∙ drop_at (pairs_words (rows_to nodes i states n c own)) (drop (i * pair_words) entry) (i * pair_words) front_length in
      let same : drop ((i + 1) * pair_words) l ≡ drop ((i + 1) * pair_words) entry =
      rw sum at (sym (drop-drop 6 (i * pair_words) l) ∙ ap (drop 6) rest ∙ drop-drop 6 (i * pair_words) entry) in
      record { within = omega arith; laid = e ∙ rw same }
