-- The rows of a table, one node more.
use mathlib.Core.Path.{◌≡◌, refl, ap, sym, ◌∙◌}
use mathlib.Core.Bool.{true, false, true≢false}
use mathlib.Core.List.{List, [], ◌∷◌, ◌++◌}
use mathlib.Core.Logic.{⊎_elim}
use Prim.Native.Nat.{ℕ, zero, suc, ◌+◌, ◌<◌, ◌≤◌}
use native.Mathlib.Numerals.{add-one}
use native.Mathlib.Omega.{arith}
use lib.ListN.{length, get_or, length-append, get_or-append}
use lib.Seq.{get_or-append_seam}
use Rattle.definitions.specs.Nodes.{Kind, True, Atom, Not, Or, Next, Until, Prev, Since, Run, End, Unknown, Node, node, node_of}
use Rattle.definitions.specs.Tables.{nodes_in}
use Rattle.definitions.specs.Readings.{Trace, Rows, no_rows, node_rows, reading, read_from, rows_after, rows_of}
use Rattle.theorems.proofs.Tabulations.{tabulate_length}
use Rattle.mark_words.proofs.OperatorLaws.{lt_or_le}
use Rattle.evaluation.specs.Traced.{trace_of}
use Rattle.evaluation.specs.Nodes.{rows_to, rows_at}
use Rattle.rules.specs.Kinds.{is_leaf}
use Rattle.rules.proofs.NodeLists.{nodes_more, nodes_length}
use Rattle.rows.specs.Pairs.{operated}

-- every row of a list covers n places
abbrev pub Sized : ℕ → List Rows → Type 0
Sized n rs = (k : ℕ) → k < length rs → (length (get_or rs k no_rows).weak ≡ n) × (length (get_or rs k no_rows).strong ≡ n)

module _ (t : Trace) where
  after_more : (rs : List Rows) (ns : List Node) (x : Node) → rows_after t rs (ns ++ (x ∷ [])) ≡ rows_after t rs ns ++ (node_rows t (rows_after t rs ns) x ∷ [])
  after_more rs [] x = refl
  after_more rs (n ∷ ns) x = after_more (rs ++ (node_rows t rs n ∷ [])) ns x

  pub rows_more : (ns : List Node) (x : Node) → rows_of t (ns ++ (x ∷ [])) ≡ rows_of t ns ++ (node_rows t (rows_of t ns) x ∷ [])
  unfolding rows_of
  rows_more ns x = after_more [] ns x

  after_length : (rs : List Rows) (ns : List Node) → length (rows_after t rs ns) ≡ length rs + length ns
  after_length rs [] = omega arith
  after_length rs (n ∷ ns) = omega (arith, after_length (rs ++ (node_rows t rs n ∷ [])) ns, length-append rs (node_rows t rs n ∷ []))

  pub rows_length : (ns : List Node) → length (rows_of t ns) ≡ length ns
  unfolding rows_of
  rows_length ns = omega (arith, after_length [] ns)

  sized_more : (rs : List Rows) (n : Node) → Sized t.places rs → Sized t.places (rs ++ (node_rows t rs n ∷ []))
  sized_more rs n s k h =
      ⊎_elim
      (λ (lt : k < length rs). rw (get_or-append rs (node_rows t rs n ∷ []) no_rows k lt) (s k lt))
      (λ (ge : length rs ≤ k).
      let e : k ≡ length rs = omega (arith, length-append rs (node_rows t rs n ∷ [])) in
      rw (e, get_or-append_seam) (
        tabulate_length t.places 0 (reading t (read_from rs) n.kind n.first n.second true),
        tabulate_length t.places 0 (reading t (read_from rs) n.kind n.first n.second false),
      ))
      (lt_or_le k (length rs))

  after_sized : (rs : List Rows) (ns : List Node) → Sized t.places rs → Sized t.places (rows_after t rs ns)
  after_sized rs [] s = s
  after_sized rs (n ∷ ns) s = after_sized (rs ++ (node_rows t rs n ∷ [])) ns (sized_more rs n s)

  pub rows_sized : (ns : List Node) → Sized t.places (rows_of t ns)
  unfolding rows_of
  rows_sized ns = after_sized [] ns (λ k h. absurd (omega arith))

-- the rows of a node, among those of the nodes before a later one
pub rows_at_lem : (nodes states : List ℕ) (n c own i j : ℕ) → j < i → i ≤ length nodes → get_or (rows_to nodes i states n c own) j no_rows ≡ rows_at nodes j states n c own
rows_at_lem nodes states n c own zero j h l = absurd (omega arith)
rows_at_lem nodes states n c own (suc i) j h l =
    let t = trace_of states n c own in
    let fits : i < length nodes = omega arith in
    let more : rows_to nodes (suc i) states n c own ≡ rows_to nodes i states n c own ++ (rows_at nodes i states n c own ∷ []) =
    (rw (add-one i) at (ap (rows_of t) (nodes_more nodes i fits))) ∙ rows_more t (nodes_in i nodes) (node_of (get_or nodes i 0)) in
    let size : length (rows_to nodes i states n c own) ≡ i = rows_length t (nodes_in i nodes) ∙ nodes_length nodes i (omega arith) in
    rw more (⊎_elim
    (λ (lt : j < i). get_or-append (rows_to nodes i states n c own) (rows_at nodes i states n c own ∷ []) no_rows j (rw size lt) ∙ rows_at_lem nodes states n c own i j lt (omega arith))
    (λ (ge : i ≤ j).
    let e : j ≡ length (rows_to nodes i states n c own) = omega arith in
    let q : i ≡ j = omega arith in
    ap (λ (k : ℕ). get_or (rows_to nodes i states n c own ++ (rows_at nodes i states n c own ∷ [])) k no_rows) e
    ∙ (get_or-append_seam (rows_to nodes i states n c own) (rows_at nodes i states n c own) [] no_rows ∙ ap (λ (k : ℕ). rows_at nodes k states n c own) q))
    (lt_or_le j i))

-- an operator's rows are read from its operands' rows, a leaf's from the trace alone
module _ (states : List ℕ) (n c own : ℕ) (rs : List Rows) where
  pub operated_is : (k : Kind) (a b : ℕ) → is_leaf k ≡ false → operated k n (get_or rs a no_rows) (get_or rs b no_rows) ≡ node_rows (trace_of states n c own) rs (node k a b)
  unfolding operated
  operated_is True a b h = absurd (true≢false h)
  operated_is Atom a b h = absurd (true≢false h)
  operated_is Not a b h = refl
  operated_is Or a b h = refl
  operated_is Next a b h = refl
  operated_is Until a b h = refl
  operated_is Prev a b h = refl
  operated_is Since a b h = refl
  operated_is Run a b h = absurd (true≢false h)
  operated_is End a b h = absurd (true≢false h)
  operated_is Unknown a b h = absurd (true≢false h)

  pub leaf_rows : (k : Kind) (a b : ℕ) → is_leaf k ≡ true → node_rows (trace_of states n c own) [] (node k a 0) ≡ node_rows (trace_of states n c own) rs (node k a b)
  leaf_rows True a b h = refl
  leaf_rows Atom a b h = refl
  leaf_rows Not a b h = absurd (true≢false (sym h))
  leaf_rows Or a b h = absurd (true≢false (sym h))
  leaf_rows Next a b h = absurd (true≢false (sym h))
  leaf_rows Until a b h = absurd (true≢false (sym h))
  leaf_rows Prev a b h = absurd (true≢false (sym h))
  leaf_rows Since a b h = absurd (true≢false (sym h))
  leaf_rows Run a b h = refl
  leaf_rows End a b h = refl
  leaf_rows Unknown a b h = refl
