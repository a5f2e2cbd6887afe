-- The readings of a table as functions of reading and place, with the operators in their recursive forms; and that they are the rows of the definitions.
use mathlib.Core.Path.{◌≡◌, refl, ap, ◌∙◌}
use Prim.Native.Nat.{ℕ, zero, suc, ◌+◌, ◌-◌, ◌≤◌, ◌<◌}
use native.Mathlib.Omega.{arith}
use mathlib.Core.Bool.{Bool, true, false, not, ◌||◌}
use mathlib.Core.List.{List, [], ◌∷◌, ◌++◌}
use lib.ListN.{length, get_or, length-append, get_or-append, get_or-eq_default}
use lib.Seq.{get_or_at}
use lib.Dec.{ltb}
use native.Mathlib.Decide.{ℕ_discrete, dec_lt}
use borrow.Author.Tests.{ltb-true}
use Rattle.definitions.specs.Bounded.{pick}
use Rattle.definitions.specs.Nodes.{Kind, True, Atom, Not, Or, Next, Until, Prev, Since, Run, End, Unknown, Node}
use Rattle.definitions.specs.Readings.{Trace, reading, Rows, no_rows, row_of, read_from, node_rows, rows_after, rows_of, verdict}
use Rattle.theorems.proofs.Tabulations.{tabulate_at}
use Rattle.theorems.proofs.Recursions.{until_n, since_b, prev_b, until_recursion, since_recursion, prev_recursion}

-- a reading at each place, weak and strong
abbrev pub Row : Type 0
Row = Bool → ℕ → Bool

abbrev pub no_row : Row
no_row d k = false

abbrev pub nth : List Row → ℕ → Row
nth rs i = get_or rs i no_row

abbrev pub op_not : Row → Row
op_not f d k = not (f (not d) k)

abbrev pub op_or : Row → Row → Row
op_or f g d k = f d k || g d k

abbrev pub op_next : ℕ → Row → Row
op_next L f d k = pick (ltb (suc k) L) (f d (suc k)) d

abbrev pub op_until : ℕ → Row → Row → Row
op_until L f g d k = until_n d (f d) (g d) (L - k) k

abbrev pub op_prev : Row → Row
op_prev f d k = prev_b (f d) k

abbrev pub op_since : Row → Row → Row
op_since f g d k = since_b (f d) (g d) (suc k)

-- a node, from the nodes before it
abbrev pub ev : Trace → (ℕ → Row) → Kind → ℕ → ℕ → Row
ev t f True a b = λ d k. true
ev t f Atom a b = t.atom a
ev t f Not a b = op_not (f a)
ev t f Or a b = op_or (f a) (f b)
ev t f Next a b = op_next t.places (f a)
ev t f Until a b = op_until t.places (f a) (f b)
ev t f Prev a b = op_prev (f a)
ev t f Since a b = op_since (f a) (f b)
ev t f Run a b = λ d k. t.run k
ev t f End a b = λ d k. t.end k
ev t f Unknown a b = λ d k. false

abbrev pub ev_node : Trace → List Row → Node → Row
ev_node t rs n = ev t (nth rs) n.kind n.first n.second

-- the rows of a table, given those of the nodes before it
abbrev pub rows_on : Trace → List Row → List Node → List Row
rows_on t rs [] = rs
rows_on t rs (n ∷ ns) = rows_on t (rs ++ (ev_node t rs n ∷ [])) ns

abbrev pub rows : Trace → List Node → List Row
rows t ns = rows_on t [] ns

abbrev pub val : Trace → List Node → ℕ → Row
val t T i = nth (rows t T) i

-- the recursive forms are the readings of the definitions
pub reading_is : (t : Trace) (f : ℕ → Row) (k : Kind) (a b : ℕ) (d : Bool) (i : ℕ) → reading t f k a b d i ≡ ev t f k a b d i
reading_is t f True a b d i = refl
reading_is t f Atom a b d i = refl
reading_is t f Not a b d i = refl
reading_is t f Or a b d i = refl
reading_is t f Next a b d i = refl
reading_is t f Until a b d i = until_recursion d t.places (f a d) (f b d) i
reading_is t f Prev a b d i = prev_recursion (f a d) i
reading_is t f Since a b d i = since_recursion (f a d) (f b d) i
reading_is t f Run a b d i = refl
reading_is t f End a b d i = refl
reading_is t f Unknown a b d i = refl

-- readings that agree below L
abbrev pub Agree : ℕ → (ℕ → Bool) → (ℕ → Bool) → Type 0
Agree L f g = (k : ℕ) → k < L → f k ≡ g k

pub until_agree : (L : ℕ) (d : Bool) (p q p' q' : ℕ → Bool) → Agree L p p' → Agree L q q' → (n k : ℕ) → k + n ≤ L →
    until_n d p q n k ≡ until_n d p' q' n k
until_agree L d p q p' q' a b zero k h = refl
until_agree L d p q p' q' a b (suc n) k h = rw (a k (omega arith), b k (omega arith), until_agree L d p q p' q' a b n (suc k) (omega arith))

pub since_agree : (L : ℕ) (p q p' q' : ℕ → Bool) → Agree L p p' → Agree L q q' → (k : ℕ) → k ≤ L → since_b p q k ≡ since_b p' q' k
since_agree L p q p' q' a b zero h = refl
since_agree L p q p' q' a b (suc k) h = rw (a k h, b k h, since_agree L p q p' q' a b k (omega arith))

pub prev_agree : (L : ℕ) (p p' : ℕ → Bool) → Agree L p p' → Agree L (prev_b p) (prev_b p')
prev_agree L p p' a zero h = refl
prev_agree L p p' a (suc k) h = a k (omega arith)

pub next_agree : (L : ℕ) (d : Bool) (p p' : ℕ → Bool) → Agree L p p' → (k : ℕ) → pick (ltb (suc k) L) (p (suc k)) d ≡ pick (ltb (suc k) L) (p' (suc k)) d
unfolding pick
next_agree L d p p' h k = go (ltb (suc k) L) refl
  where
    go : (c : Bool) → ltb (suc k) L ≡ c → pick c (p (suc k)) d ≡ pick c (p' (suc k)) d
    go true e = h (suc k) (ltb-true (suc k) L e)
    go false e = refl

-- a node's reading below the trace's length depends on its operands' readings below it only
ev_agree : (t : Trace) (f g : ℕ → Row) → ((i : ℕ) (d : Bool) → Agree t.places (f i d) (g i d)) →
    (k : Kind) (a b : ℕ) (d : Bool) → Agree t.places (ev t f k a b d) (ev t g k a b d)
ev_agree t f g h True a b d i l = refl
ev_agree t f g h Atom a b d i l = refl
ev_agree t f g h Not a b d i l = ap not (h a (not d) i l)
ev_agree t f g h Or a b d i l = rw (h a d i l, h b d i l)
ev_agree t f g h Next a b d i l = next_agree t.places d (f a d) (g a d) (h a d) i
ev_agree t f g h Until a b d i l = until_agree t.places d (f a d) (f b d) (g a d) (g b d) (h a d) (h b d) (t.places - i) i (omega arith)
ev_agree t f g h Prev a b d i l = prev_agree t.places (f a d) (g a d) (h a d) i l
ev_agree t f g h Since a b d i l = since_agree t.places (f a d) (f b d) (g a d) (g b d) (h a d) (h b d) (suc i) l
ev_agree t f g h Run a b d i l = refl
ev_agree t f g h End a b d i l = refl
ev_agree t f g h Unknown a b d i l = refl

-- a row of the definitions, at each place
pub row_at : (t : Trace) (rs : List Rows) (n : Node) (d : Bool) (i : ℕ) → i < t.places →
    get_or (row_of d (node_rows t rs n)) i false ≡ reading t (read_from rs) n.kind n.first n.second d i
row_at t rs n true i h = tabulate_at t.places (reading t (read_from rs) n.kind n.first n.second true) i h
row_at t rs n false i h = tabulate_at t.places (reading t (read_from rs) n.kind n.first n.second false) i h

-- rows of the definitions and functions say the same of the nodes so far
record Same (t : Trace) (rs : List Rows) (fs : List Row) : Type 0 where
  sizes : length rs ≡ length fs
  agree : (a : ℕ) (d : Bool) → Agree t.places (read_from rs a d) (nth fs a d)

nothing_read : (d : Bool) (i : ℕ) → get_or (row_of d no_rows) i false ≡ false
nothing_read true i = refl
nothing_read false i = refl

same_none : (t : Trace) → Same t [] []
same_none t = record { sizes = refl; agree = λ a d i l. nothing_read d i }

same_more : (t : Trace) (rs : List Rows) (fs : List Row) (n : Node) → Same t rs fs → Same t (rs ++ (node_rows t rs n ∷ [])) (fs ++ (ev_node t fs n ∷ []))
same_more t rs fs n S = record {
  sizes = omega (arith, S.sizes, length-append rs (node_rows t rs n ∷ []), length-append fs (ev_node t fs n ∷ []));
  agree = λ a d i l. go a d i l (dec_lt a (length rs)) (ℕ_discrete (length rs) a);
}
  where
    new : (d : Bool) (i : ℕ) → i < t.places → get_or (row_of d (node_rows t rs n)) i false ≡ ev_node t fs n d i
    new d i l =
        row_at t rs n d i l
        ∙ (reading_is t (read_from rs) n.kind n.first n.second d i ∙ ev_agree t (read_from rs) (nth fs) S.agree n.kind n.first n.second d i l)

    go : (a : ℕ) (d : Bool) (i : ℕ) → i < t.places → Dec (a < length rs) → Dec (length rs ≡ a) →
        read_from (rs ++ (node_rows t rs n ∷ [])) a d i ≡ nth (fs ++ (ev_node t fs n ∷ [])) a d i
    go a d i l (yes h) e =
        rw (get_or-append rs (node_rows t rs n ∷ []) no_rows a h, get_or-append fs (ev_node t fs n ∷ []) no_row a (omega (arith, S.sizes))) (S.agree a d i l)
    go a d i l (no h) (yes e) =
        rw (get_or_at rs (node_rows t rs n) [] no_rows a e, get_or_at fs (ev_node t fs n) [] no_row a (omega (arith, S.sizes))) (new d i l)
    go a d i l (no h) (no e) =
        let past : length (rs ++ (node_rows t rs n ∷ [])) ≤ a = omega (arith, length-append rs (node_rows t rs n ∷ [])) in
        let beyond : length (fs ++ (ev_node t fs n ∷ [])) ≤ a = omega (arith, S.sizes, length-append fs (ev_node t fs n ∷ [])) in
        rw (get_or-eq_default (rs ++ (node_rows t rs n ∷ [])) no_rows past, get_or-eq_default (fs ++ (ev_node t fs n ∷ [])) no_row beyond) (nothing_read d i)

same_rows : (t : Trace) (rs : List Rows) (fs : List Row) (T : List Node) → Same t rs fs → Same t (rows_after t rs T) (rows_on t fs T)
same_rows t rs fs [] S = S
same_rows t rs fs (n ∷ T) S = same_rows t (rs ++ (node_rows t rs n ∷ [])) (fs ++ (ev_node t fs n ∷ [])) T (same_more t rs fs n S)

-- each row of the definitions, at each place
pub rows_are : (t : Trace) (T : List Node) (a : ℕ) (d : Bool) (i : ℕ) → i < t.places → read_from (rows_of t T) a d i ≡ val t T a d i
unfolding rows_of
rows_are t T = (same_rows t [] [] T (same_none t)).agree

-- the verdict of the definitions
pub verdict_is : (t : Trace) (T : List Node) (top : ℕ) (d : Bool) → 0 < t.places → verdict t T top d ≡ val t T top d 0
unfolding verdict
verdict_is t T top d h = rows_are t T top d 0 h
