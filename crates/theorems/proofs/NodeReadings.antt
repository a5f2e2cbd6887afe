-- The rows of a rule's table: each node's readings are those of its kind, from the readings of the whole table.
use mathlib.Core.Path.{◌≡◌, refl, sym, ap, ◌∙◌}
use Prim.Native.Nat.{ℕ, zero, suc, ◌+◌, ◌<◌}
use native.Mathlib.Nat.{add-zero, zero-add}
use native.Mathlib.Omega.{arith}
use mathlib.Core.Bool.{Bool, false}
use mathlib.Core.List.{List, [], ◌∷◌, ◌++◌}
use lib.ListN.{length, get_or, length-append, get_or-append}
use lib.Seq.{get_or_at}
use Rattle.definitions.specs.Nodes.{Kind, True, Atom, Not, Or, Next, Until, Prev, Since, Run, End, Unknown, Node, node_at}
use Rattle.definitions.specs.Readings.{Trace, reading, Rows, no_rows, row_of, read_from, node_rows, rows_after, rows_of}
use Rattle.theorems.proofs.RuleNodes.{RuleNode, RuleNodes}
use Rattle.theorems.proofs.Semantics.{Row, row_at}

pub rule_at_lem : (m : ℕ) (ns : List Node) → RuleNodes m ns → (j : ℕ) → j < length ns → RuleNode (m + j) (node_at ns j).kind (node_at ns j).first (node_at ns j).second
rule_at_lem m [] r j l = absurd (omega arith)
rule_at_lem m (n ∷ ns) r zero l = rw (add-zero m) r.0
rule_at_lem m (n ∷ ns) r (suc j) l = let e : m + suc j ≡ suc m + j = omega arith in rw e (rule_at_lem (suc m) ns r.1 j (omega arith))

-- a reading depends on the operands that its kind has
reading_cong : (t : Trace) (f g : ℕ → Row) (m : ℕ) → ((j : ℕ) → j < m → f j ≡ g j) → (k : Kind) (a b : ℕ) → RuleNode m k a b → (d : Bool) (i : ℕ) →
    reading t f k a b d i ≡ reading t g k a b d i
reading_cong t f g m h True a b r d i = refl
reading_cong t f g m h Atom a b r d i = refl
reading_cong t f g m h Not a b r d i = rw (h a r)
reading_cong t f g m h Or a b r d i = rw (h a r.0, h b r.1)
reading_cong t f g m h Next a b r d i = rw (h a r)
reading_cong t f g m h Until a b r d i = rw (h a r.0, h b r.1)
reading_cong t f g m h Prev a b r d i = rw (h a r)
reading_cong t f g m h Since a b r d i = rw (h a r.0, h b r.1)
reading_cong t f g m h Run a b r d i = absurd r
reading_cong t f g m h End a b r d i = absurd r
reading_cong t f g m h Unknown a b r d i = absurd r

-- the rows of the nodes so far are kept
rows_kept : (t : Trace) (rs : List Rows) (ns : List Node) (a : ℕ) → a < length rs → get_or (rows_after t rs ns) a no_rows ≡ get_or rs a no_rows
rows_kept t rs [] a l = refl
rows_kept t rs (n ∷ ns) a l =
    rows_kept t (rs ++ (node_rows t rs n ∷ [])) ns a (omega (arith, length-append rs (node_rows t rs n ∷ [])))
    ∙ get_or-append rs (node_rows t rs n ∷ []) no_rows a l

abbrev row_read : Rows → Row
row_read r d i = get_or (row_of d r) i false

reading_from : (t : Trace) (rs : List Rows) (ns : List Node) → RuleNodes (length rs) ns → (j : ℕ) → j < length ns → (d : Bool) (i : ℕ) → i < t.places →
    read_from (rows_after t rs ns) (length rs + j) d i
    ≡ reading t (read_from (rows_after t rs ns)) (node_at ns j).kind (node_at ns j).first (node_at ns j).second d i
reading_from t rs [] r j l d i b = absurd (omega arith)
reading_from t rs (n ∷ ns) r zero l d i b =
    let us : List Rows = rs ++ (node_rows t rs n ∷ []) in
    let more : length us ≡ suc (length rs) = omega (arith, length-append rs (node_rows t rs n ∷ [])) in
    let row : get_or (rows_after t us ns) (length rs) no_rows ≡ node_rows t rs n
    = rows_kept t us ns (length rs) (omega arith) ∙ get_or_at rs (node_rows t rs n) [] no_rows (length rs) refl in
    rw (add-zero (length rs))
    (ap (λ (x : Rows). row_read x d i) row
    ∙ (row_at t rs n d i b
    ∙ reading_cong t (read_from rs) (read_from (rows_after t us ns)) (length rs)
    (λ a e. ap row_read (sym (rows_kept t rs (n ∷ ns) a e))) n.kind n.first n.second r.0 d i))
reading_from t rs (n ∷ ns) r (suc j) l d i b =
    let us : List Rows = rs ++ (node_rows t rs n ∷ []) in
    let more : length us ≡ suc (length rs) = omega (arith, length-append rs (node_rows t rs n ∷ [])) in
    let e : length rs + suc j ≡ length us + j = omega arith in
    rw e (reading_from t us ns (rw more r.1) j (omega arith) d i b)

-- node m of a rule's table
pub reading_of : (t : Trace) (ns : List Node) → RuleNodes 0 ns → (m : ℕ) → m < length ns → (d : Bool) (i : ℕ) → i < t.places →
    read_from (rows_of t ns) m d i ≡ reading t (read_from (rows_of t ns)) (node_at ns m).kind (node_at ns m).first (node_at ns m).second d i
unfolding rows_of
reading_of t ns r m l d i b = rw zero-add at (reading_from t [] ns r m l d i b)
