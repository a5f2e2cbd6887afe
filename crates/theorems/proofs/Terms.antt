-- Terms over the nodes of a table: how they are written out at its end, and that what is written out reads as the term.
-- A table grows at the end only: what a node reads is settled by what stands before it.
use mathlib.Core.Path.{◌≡◌, refl, sym, ap, ◌∙◌}
use Prim.Native.Nat.{ℕ, zero, suc, ◌+◌, ◌-◌, ◌≤◌, ◌<◌}
use native.Mathlib.Omega.{arith}
use mathlib.Core.Bool.{true}
use mathlib.Core.List.{List, [], ◌∷◌, ◌++◌, append_assoc, append-nil}
use lib.ListN.{length, length-append, get_or-append}
use lib.Seq.{get_or_at}
use Rattle.definitions.specs.Nodes.{Kind, True, Atom, Not, Or, Next, Until, Prev, Since, Node, node}
use Rattle.definitions.specs.Readings.{Trace}
use Rattle.theorems.proofs.Semantics.{Row, no_row, ev, ev_node, rows_on, rows, val, op_not, op_or, op_next, op_until, op_prev, op_since}

-- ---- tables

abbrev pub push : List Node → Node → List Node
push T n = T ++ (n ∷ [])

rows_on_push : (t : Trace) (rs : List Row) (T : List Node) (n : Node) → rows_on t rs (push T n) ≡ rows_on t rs T ++ (ev_node t (rows_on t rs T) n ∷ [])
rows_on_push t rs [] n = refl
rows_on_push t rs (m ∷ T) n = rows_on_push t (rs ++ (ev_node t rs m ∷ [])) T n

length_rows_on : (t : Trace) (rs : List Row) (T : List Node) → length (rows_on t rs T) ≡ length rs + length T
length_rows_on t rs [] = omega arith
length_rows_on t rs (m ∷ T) = omega (arith, length_rows_on t (rs ++ (ev_node t rs m ∷ [])) T, length-append rs (ev_node t rs m ∷ []))

pub length_rows : (t : Trace) (T : List Node) → length (rows t T) ≡ length T
length_rows t T = omega (arith, length_rows_on t [] T)

pub length_push : (T : List Node) (n : Node) → length (push T n) ≡ suc (length T)
length_push T n = omega (arith, length-append T (n ∷ []))

val_old : (t : Trace) (T : List Node) (n : Node) (i : ℕ) → i < length T → val t (push T n) i ≡ val t T i
val_old t T n i h = rw rows_on_push (get_or-append (rows t T) (ev_node t (rows t T) n ∷ []) no_row i (omega (arith, length_rows t T)))

pub val_new : (t : Trace) (T : List Node) (n : Node) → val t (push T n) (length T) ≡ ev_node t (rows t T) n
val_new t T n = rw rows_on_push (get_or_at (rows t T) (ev_node t (rows t T) n) [] no_row (length T) (length_rows t T))

-- ---- terms

pub data Unary : Type 0 where
  not₁ next₁ prev₁ : Unary

pub data Binary : Type 0 where
  or₂ until₂ since₂ : Binary

pub data Term : Type 0 where
  ref : ℕ → Term
  yes₀ : Term
  atom₀ : ℕ → Term
  one : Unary → Term → Term
  two : Binary → Term → Term → Term

abbrev pub kind₁ : Unary → Kind
kind₁ not₁ = Not
kind₁ next₁ = Next
kind₁ prev₁ = Prev

abbrev pub kind₂ : Binary → Kind
kind₂ or₂ = Or
kind₂ until₂ = Until
kind₂ since₂ = Since

-- the table with a term written out, and the node in which the term ends
abbrev mutual
  pub comp : Term → List Node → List Node
  comp (ref i) T = T
  comp yes₀ T = push T (node True 0 0)
  comp (atom₀ a) T = push T (node Atom a 0)
  comp (one o x) T = push (comp x T) (node (kind₁ o) (top x T) 0)
  comp (two o x y) T = push (comp y (comp x T)) (node (kind₂ o) (top x T) (top y (comp x T)))

  pub top : Term → List Node → ℕ
  top (ref i) T = i
  top yes₀ T = length T
  top (atom₀ a) T = length T
  top (one o x) T = length (comp x T)
  top (two o x y) T = length (comp y (comp x T))

abbrev pub op₁ : Trace → Unary → Row → Row
op₁ t not₁ f = op_not f
op₁ t next₁ f = op_next t.places f
op₁ t prev₁ f = op_prev f

abbrev pub op₂ : Trace → Binary → Row → Row → Row
op₂ t or₂ f g = op_or f g
op₂ t until₂ f g = op_until t.places f g
op₂ t since₂ f g = op_since f g

ev₁ : (t : Trace) (f : ℕ → Row) (o : Unary) (a b : ℕ) → ev t f (kind₁ o) a b ≡ op₁ t o (f a)
ev₁ t f not₁ a b = refl
ev₁ t f next₁ a b = refl
ev₁ t f prev₁ a b = refl

ev₂ : (t : Trace) (f : ℕ → Row) (o : Binary) (a b : ℕ) → ev t f (kind₂ o) a b ≡ op₂ t o (f a) (f b)
ev₂ t f or₂ a b = refl
ev₂ t f until₂ a b = refl
ev₂ t f since₂ a b = refl

-- what a term reads, given the rows of the table
abbrev pub den : Trace → Term → (ℕ → Row) → Row
den t (ref i) f = f i
den t yes₀ f = λ d k. true
den t (atom₀ a) f = t.atom a
den t (one o x) f = op₁ t o (den t x f)
den t (two o x y) f = op₂ t o (den t x f) (den t y f)

-- its nodes of the table lie below n
abbrev pub Below : ℕ → Term → Type 0
Below n (ref i) = i < n
Below n yes₀ = Unit {0}
Below n (atom₀ a) = Unit {0}
Below n (one o x) = Below n x
Below n (two o x y) = Below n x × Below n y

below_mono : (x : Term) {n m : ℕ} → n ≤ m → Below n x → Below m x
below_mono (ref i) h b = omega arith
below_mono yes₀ h b = tt
below_mono (atom₀ a) h b = tt
below_mono (one o x) h b = below_mono x h b
below_mono (two o x y) h b = (below_mono x h b.0, below_mono y h b.1)

den_cong : (t : Trace) (x : Term) (n : ℕ) (f g : ℕ → Row) → ((i : ℕ) → i < n → f i ≡ g i) → Below n x → den t x f ≡ den t x g
den_cong t (ref i) n f g e b = e i b
den_cong t yes₀ n f g e b = refl
den_cong t (atom₀ a) n f g e b = refl
den_cong t (one o x) n f g e b = rw (den_cong t x n f g e b)
den_cong t (two o x y) n f g e b = rw (den_cong t x n f g e b.0, den_cong t y n f g e b.1)

pub comp_length : (x : Term) (T : List Node) → length T ≤ length (comp x T)
comp_length (ref i) T = omega arith
comp_length yes₀ T = omega (arith, length_push T (node True 0 0))
comp_length (atom₀ a) T = omega (arith, length_push T (node Atom a 0))
comp_length (one o x) T = omega (arith, comp_length x T, length_push (comp x T) (node (kind₁ o) (top x T) 0))
comp_length (two o x y) T =
    omega (arith, comp_length x T, comp_length y (comp x T), length_push (comp y (comp x T)) (node (kind₂ o) (top x T) (top y (comp x T))))

-- the nodes before it stay
pub comp_old : (t : Trace) (x : Term) (T : List Node) (i : ℕ) → i < length T → val t (comp x T) i ≡ val t T i
comp_old t (ref j) T i h = refl
comp_old t yes₀ T i h = val_old t T (node True 0 0) i h
comp_old t (atom₀ a) T i h = val_old t T (node Atom a 0) i h
comp_old t (one o x) T i h = val_old t (comp x T) (node (kind₁ o) (top x T) 0) i (omega (arith, comp_length x T)) ∙ comp_old t x T i h
comp_old t (two o x y) T i h =
    val_old t (comp y (comp x T)) (node (kind₂ o) (top x T) (top y (comp x T))) i (omega (arith, comp_length x T, comp_length y (comp x T)))
    ∙ (comp_old t y (comp x T) i (omega (arith, comp_length x T)) ∙ comp_old t x T i h)

pub top_lt : (x : Term) (T : List Node) → Below (length T) x → top x T < length (comp x T)
top_lt (ref i) T b = b
top_lt yes₀ T b = omega (arith, length_push T (node True 0 0))
top_lt (atom₀ a) T b = omega (arith, length_push T (node Atom a 0))
top_lt (one o x) T b = omega (arith, length_push (comp x T) (node (kind₁ o) (top x T) 0))
top_lt (two o x y) T b = omega (arith, length_push (comp y (comp x T)) (node (kind₂ o) (top x T) (top y (comp x T))))

-- a term written out reads as the term
pub comp_den : (t : Trace) (x : Term) (T : List Node) → Below (length T) x → val t (comp x T) (top x T) ≡ den t x (val t T)
comp_den t (ref i) T b = refl
comp_den t yes₀ T b = val_new t T (node True 0 0)
comp_den t (atom₀ a) T b = val_new t T (node Atom a 0)
comp_den t (one o x) T b =
    val_new t (comp x T) (node (kind₁ o) (top x T) 0) ∙ (ev₁ t (val t (comp x T)) o (top x T) 0 ∙ ap (op₁ t o) (comp_den t x T b))
comp_den t (two o x y) T b =
    let ey : val t (comp y (comp x T)) (top y (comp x T)) ≡ den t y (val t T)
    = comp_den t y (comp x T) (below_mono y (comp_length x T) b.1) ∙ den_cong t y (length T) (val t (comp x T)) (val t T) (comp_old t x T) b.1 in
    let ex : val t (comp y (comp x T)) (top x T) ≡ den t x (val t T)
    = comp_old t y (comp x T) (top x T) (top_lt x T b.0) ∙ comp_den t x T b.0 in
    val_new t (comp y (comp x T)) (node (kind₂ o) (top x T) (top y (comp x T)))
    ∙ (ev₂ t (val t (comp y (comp x T))) o (top x T) (top y (comp x T)) ∙ rw (ex, ey))

-- ---- a term's nodes, where the first of them has number n

abbrev pub size : Term → ℕ
size (ref i) = 0
size yes₀ = 1
size (atom₀ a) = 1
size (one o x) = suc (size x)
size (two o x y) = suc (size x + size y)

-- k more than n
abbrev pub above : ℕ → ℕ → ℕ
above zero n = n
above (suc k) n = suc (above k n)

above_is : (k n : ℕ) → above k n ≡ n + k
above_is zero n = omega arith
above_is (suc k) n = omega (arith, above_is k n)

abbrev pub top_from : Term → ℕ → ℕ
top_from (ref i) n = i
top_from yes₀ n = n
top_from (atom₀ a) n = n
top_from (one o x) n = above (size x) n
top_from (two o x y) n = above (size y) (above (size x) n)

abbrev pub code : Term → ℕ → List Node
code (ref i) n = []
code yes₀ n = node True 0 0 ∷ []
code (atom₀ a) n = node Atom a 0 ∷ []
code (one o x) n = code x n ++ (node (kind₁ o) (top_from x n) 0 ∷ [])
code (two o x y) n = code x n ++ (code y (above (size x) n) ++ (node (kind₂ o) (top_from x n) (top_from y (above (size x) n)) ∷ []))

pub comp_size : (x : Term) (T : List Node) → length (comp x T) ≡ length T + size x
comp_size (ref i) T = omega arith
comp_size yes₀ T = omega (arith, length_push T (node True 0 0))
comp_size (atom₀ a) T = omega (arith, length_push T (node Atom a 0))
comp_size (one o x) T = omega (arith, comp_size x T, length_push (comp x T) (node (kind₁ o) (top x T) 0))
comp_size (two o x y) T =
    omega (arith, comp_size x T, comp_size y (comp x T), length_push (comp y (comp x T)) (node (kind₂ o) (top x T) (top y (comp x T))))

-- a term that is written out ends in the last node
pub top_last : (x : Term) (T : List Node) → 0 < size x → length (comp x T) - 1 ≡ top x T
top_last (ref i) T h = absurd (omega arith)
top_last yes₀ T h = omega (arith, length_push T (node True 0 0))
top_last (atom₀ a) T h = omega (arith, length_push T (node Atom a 0))
top_last (one o x) T h = omega (arith, length_push (comp x T) (node (kind₁ o) (top x T) 0))
top_last (two o x y) T h = omega (arith, length_push (comp y (comp x T)) (node (kind₂ o) (top x T) (top y (comp x T))))

top_code : (x : Term) (T : List Node) → top x T ≡ top_from x (length T)
top_code (ref i) T = refl
top_code yes₀ T = refl
top_code (atom₀ a) T = refl
top_code (one o x) T = omega (arith, comp_size x T, above_is (size x) (length T))
top_code (two o x y) T =
    omega (arith, comp_size x T, comp_size y (comp x T), above_is (size x) (length T), above_is (size y) (above (size x) (length T)))

pub comp_code : (x : Term) (T : List Node) → comp x T ≡ T ++ code x (length T)
comp_code (ref i) T = sym (append-nil T)
comp_code yes₀ T = refl
comp_code (atom₀ a) T = refl
comp_code (one o x) T = rw (comp_code x T, top_code x T, append_assoc)
comp_code (two o x y) T =
    let l : length (comp x T) ≡ above (size x) (length T) = omega (arith, comp_size x T, above_is (size x) (length T)) in
    rw (top_code x T, top_code y (comp x T), comp_code y (comp x T), l, comp_code x T) (simp append_assoc)
