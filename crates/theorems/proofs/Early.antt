-- Verdicts that may be announced early, over local traces: a strong yes or a weak no stays on every local trace that goes on from it, at every node and
-- place; and a strong yes is a weak yes.
use mathlib.Core.Path.{◌≡◌, refl, sym, ap}
use Prim.Native.Nat.{ℕ, zero, suc, ◌+◌, ◌-◌, ◌≤◌, ◌<◌}
use native.Mathlib.Omega.{arith}
use native.Mathlib.Decide.{ℕ_discrete, dec_lt}
use mathlib.Core.Bool.{Bool, true, false, not, ◌&&◌, ◌||◌, true≢false}
use mathlib.Core.List.{List, [], ◌∷◌, ◌++◌}
use lib.ListN.{length, get_or, length-append, get_or-append, get_or-eq_default}
use lib.Seq.{get_or_at}
use lib.Dec.{ltb}
use borrow.Author.Tests.{lt-ltb, ltb-true}
use Rattle.definitions.specs.Bounded.{pick, bit_of}
use Rattle.definitions.specs.Nodes.{Kind, True, Atom, Not, Or, Next, Until, Prev, Since, Run, End, Unknown, Node}
use Rattle.definitions.specs.Readings.{Trace, local_atom, local, read_from, rows_of, verdict}
use Rattle.theorems.proofs.Choice.{by_test}
use Rattle.theorems.proofs.Recursions.{until_n, since_b, prev_b}
use Rattle.theorems.proofs.Semantics.{Row, no_row, nth, ev, ev_node, rows_on, val, rows_are}
use Rattle.theorems.proofs.EvidencePromise.{unsettled}

-- a relation between the rows of two traces that goes from the nodes before to a node holds of every node
module _ (s t : Trace) (Rel : Row → Row → Type 0) (none : Rel no_row no_row)
    (step : (f g : ℕ → Row) → ((i : ℕ) → Rel (f i) (g i)) → (k : Kind) (a b : ℕ) → Rel (ev s f k a b) (ev t g k a b)) where
  record Related (fs gs : List Row) : Type 0 where
    sizes : length fs ≡ length gs
    each : (i : ℕ) → Rel (nth fs i) (nth gs i)

  related_more : (fs gs : List Row) (n : Node) → Related fs gs → Related (fs ++ (ev_node s fs n ∷ [])) (gs ++ (ev_node t gs n ∷ []))
  related_more fs gs n S = record {
    sizes = omega (arith, S.sizes, length-append fs (ev_node s fs n ∷ []), length-append gs (ev_node t gs n ∷ []));
    each = λ i. go i (dec_lt i (length fs)) (ℕ_discrete (length fs) i);
  }
    where
      go : (i : ℕ) → Dec (i < length fs) → Dec (length fs ≡ i) → Rel (nth (fs ++ (ev_node s fs n ∷ [])) i) (nth (gs ++ (ev_node t gs n ∷ [])) i)
      go i (yes h) e =
          rw (get_or-append fs (ev_node s fs n ∷ []) no_row i h, get_or-append gs (ev_node t gs n ∷ []) no_row i (omega (arith, S.sizes))) (S.each i)
      go i (no h) (yes e) =
          rw (get_or_at fs (ev_node s fs n) [] no_row i e, get_or_at gs (ev_node t gs n) [] no_row i (omega (arith, S.sizes)))
          (step (nth fs) (nth gs) S.each n.kind n.first n.second)
      go i (no h) (no e) =
          let past : length (fs ++ (ev_node s fs n ∷ [])) ≤ i = omega (arith, length-append fs (ev_node s fs n ∷ [])) in
          let beyond : length (gs ++ (ev_node t gs n ∷ [])) ≤ i = omega (arith, S.sizes, length-append gs (ev_node t gs n ∷ [])) in
          rw (get_or-eq_default (fs ++ (ev_node s fs n ∷ [])) no_row past, get_or-eq_default (gs ++ (ev_node t gs n ∷ [])) no_row beyond) none

  related_rows : (fs gs : List Row) (T : List Node) → Related fs gs → Related (rows_on s fs T) (rows_on t gs T)
  related_rows fs gs [] S = S
  related_rows fs gs (n ∷ T) S = related_rows (fs ++ (ev_node s fs n ∷ [])) (gs ++ (ev_node t gs n ∷ [])) T (related_more fs gs n S)

  related : (T : List Node) (i : ℕ) → Rel (val s T i) (val t T i)
  related T i = (related_rows [] [] T (record { sizes = refl; each = λ j. none })).each i

-- a strong yes of x is one of y, a weak no of x is one of y: where the reading d is settled, it is kept
abbrev pub Kept : (d x y : Bool) → Type 0
Kept d x y = x ≡ not d → y ≡ not d

kept_not : (d x y : Bool) → Kept (not d) x y → Kept d (not x) (not y)
kept_not true true y k e = rw (k refl)
kept_not true false y k e = absurd (true≢false e)
kept_not false true y k e = absurd (true≢false (sym e))
kept_not false false y k e = rw (k refl)

kept_or : (d x y x' y' : Bool) → Kept d x x' → Kept d y y' → Kept d (x || y) (x' || y')
kept_or true true y x' y' k l e = absurd (true≢false e)
kept_or true false y x' y' k l e = rw (k refl) (l e)
kept_or false true y x' y' k l e = rw (k refl)
kept_or false false y true y' k l e = refl
kept_or false false y false y' k l e = l e

kept_and : (d x y x' y' : Bool) → Kept d x x' → Kept d y y' → Kept d (x && y) (x' && y')
kept_and true true y true y' k l e = l e
kept_and true true y false y' k l e = refl
kept_and true false y x' y' k l e = rw (k refl)
kept_and false true y x' y' k l e = rw (k refl) (l e)
kept_and false false y x' y' k l e = absurd (true≢false (sym e))

-- readings below L that are kept
abbrev pub KeptBelow : ℕ → Row → Row → Type 0
KeptBelow L f g = (d : Bool) (k : ℕ) → k < L → Kept d (f d k) (g d k)

module _ (L : ℕ) (d : Bool) (p p' : ℕ → Bool) (a : (k : ℕ) → k < L → Kept d (p k) (p' k)) where
  prev_kept : (k : ℕ) → k < L → Kept d (prev_b p k) (prev_b p' k)
  prev_kept zero h e = e
  prev_kept (suc k) h e = a k (omega arith) e

  module _ (q q' : ℕ → Bool) (b : (k : ℕ) → k < L → Kept d (q k) (q' k)) where
    until_kept : (n m k : ℕ) → n ≤ m → k + n ≤ L → Kept d (until_n d p q n k) (until_n d p' q' m k)
    until_kept zero m k l h e = unsettled d e
    until_kept (suc n) zero k l h e = absurd (omega arith)
    until_kept (suc n) (suc m) k l h e =
        kept_or d (q k) (p k && until_n d p q n (suc k)) (q' k) (p' k && until_n d p' q' m (suc k)) (b k (omega arith))
        (kept_and d (p k) (until_n d p q n (suc k)) (p' k) (until_n d p' q' m (suc k)) (a k (omega arith)) (until_kept n m (suc k) (omega arith) (omega arith))) e

    since_kept : (k : ℕ) → k ≤ L → Kept d (since_b p q k) (since_b p' q' k)
    since_kept zero h e = e
    since_kept (suc k) h e =
        kept_or d (q k) (p k && since_b p q k) (q' k) (p' k && since_b p' q' k) (b k h)
        (kept_and d (p k) (since_b p q k) (p' k) (since_b p' q' k) (a k h) (since_kept k (omega arith))) e

-- what a place before the last says stays; the last place says nothing settled
before_end : (L M : ℕ) (d : Bool) (k : ℕ) (x y : Bool) → L ≤ M → (suc k < L → Kept d x y) → Kept d (pick (ltb (suc k) L) x d) (pick (ltb (suc k) M) y d)
unfolding pick
before_end L M d k x y l h = by_test (ltb (suc k) L)
    (λ z. let i : suc k < L = ltb-true (suc k) L z in rw (z, lt-ltb (suc k) M (omega arith)) (h i))
    (λ z. rw z (λ e. unsettled d e))

-- the places ws of a local trace, and the places us of one that goes on from it: no fewer, before the last of ws the same, at the last the own atoms
pub record GoesOn (mask : ℕ) (ws us : List ℕ) : Type 0 where
  pub longer : length ws ≤ length us
  pub before : (i : ℕ) → suc i < length ws → get_or ws i 0 ≡ get_or us i 0
  pub last_own : (i a : ℕ) → suc i ≡ length ws → bit_of mask a ≡ true → bit_of (get_or ws i 0) a ≡ bit_of (get_or us i 0) a

module _ (mask : ℕ) (ws us : List ℕ) (G : GoesOn mask ws us) where
  pub own_bit : (i a : ℕ) → i < length ws → bit_of mask a ≡ true → bit_of (get_or ws i 0) a ≡ bit_of (get_or us i 0) a
  own_bit i a l o = go (ℕ_discrete (suc i) (length ws))
    where
      go : Dec (suc i ≡ length ws) → bit_of (get_or ws i 0) a ≡ bit_of (get_or us i 0) a
      go (yes e) = G.last_own i a e o
      go (no n) = ap (λ (w : ℕ). bit_of w a) (G.before i (omega arith))

  atom_kept : (a : ℕ) → KeptBelow (length ws) (local_atom mask ws a) (local_atom mask us a)
  unfolding pick
  atom_kept a d i l = by_test (bit_of mask a)
      (λ o. rw (o, own_bit i a l o) (λ e. e))
      (λ o. rw o (before_end (length ws) (length us) d i (bit_of (get_or ws i 0) a) (bit_of (get_or us i 0) a) G.longer (λ b. rw (G.before i b) (λ e. e))))

  abbrev s : Trace
  s = local mask ws

  abbrev t : Trace
  t = local mask us

  node_kept : (f g : ℕ → Row) → ((i : ℕ) → KeptBelow (length ws) (f i) (g i)) → (k : Kind) (a b : ℕ) → KeptBelow (length ws) (ev s f k a b) (ev t g k a b)
  node_kept f g h True a b d i l e = e
  node_kept f g h Atom a b d i l e = atom_kept a d i l e
  node_kept f g h Not a b d i l e = kept_not d (f a (not d) i) (g a (not d) i) (h a (not d) i l) e
  node_kept f g h Or a b d i l e = kept_or d (f a d i) (f b d i) (g a d i) (g b d i) (h a d i l) (h b d i l) e
  node_kept f g h Next a b d i l e = before_end (length ws) (length us) d i (f a d (suc i)) (g a d (suc i)) G.longer (h a d (suc i)) e
  node_kept f g h Until a b d i l e =
      until_kept (length ws) d (f a d) (g a d) (h a d) (f b d) (g b d) (h b d) (length ws - i) (length us - i) i (omega (arith, G.longer)) (omega arith) e
  node_kept f g h Prev a b d i l e = prev_kept (length ws) d (f a d) (g a d) (h a d) i l e
  node_kept f g h Since a b d i l e = since_kept (length ws) d (f a d) (g a d) (h a d) (f b d) (g b d) (h b d) (suc i) l e
  node_kept f g h Run a b d i l e = e
  node_kept f g h End a b d i l e = e
  node_kept f g h Unknown a b d i l e = e

  -- "a strong yes .. stays a strong yes", "a weak no stays a weak no alike": at every node and every place, of any table
  pub reading_stays : (T : List Node) (m : ℕ) (d : Bool) (i : ℕ) → i < length ws → Kept d (read_from (rows_of s T) m d i) (read_from (rows_of t T) m d i)
  reading_stays T m d i l =
      rw (rows_are s T m d i l, rows_are t T m d i (omega (arith, G.longer))) (related s t (KeptBelow (length ws)) (λ d k l e. e) node_kept T m d i l)

  pub verdict_stays : (T : List Node) (top : ℕ) (d : Bool) → 0 < length ws → Kept d (verdict s T top d) (verdict t T top d)
  unfolding verdict
  verdict_stays T top d some = reading_stays T top d 0 some

-- ---- a strong yes is a weak yes
abbrev pub Implies : (x y : Bool) → Type 0
Implies x y = x ≡ true → y ≡ true

implies_not : (x y : Bool) → Implies x y → Implies (not y) (not x)
implies_not true true h e = e
implies_not true false h e = absurd (true≢false (sym (h refl)))
implies_not false y h e = refl

abbrev StrongWeak : Row → Row → Type 0
StrongWeak f g = (k : ℕ) → Implies (f false k) (f true k)

until_weak : (p q p' q' : ℕ → Bool) → ((k : ℕ) → Implies (p k) (p' k)) → ((k : ℕ) → Implies (q k) (q' k)) →
    (n k : ℕ) → Implies (until_n false p q n k) (until_n true p' q' n k)
until_weak p q p' q' a b zero k e = refl
until_weak p q p' q' a b (suc n) k e =
    kept_or false (q k) (p k && until_n false p q n (suc k)) (q' k) (p' k && until_n true p' q' n (suc k)) (b k)
    (kept_and false (p k) (until_n false p q n (suc k)) (p' k) (until_n true p' q' n (suc k)) (a k) (until_weak p q p' q' a b n (suc k))) e

next_weak : (c x y : Bool) → Implies x y → Implies (pick c x false) (pick c y true)
unfolding pick
next_weak true x y h e = h e
next_weak false x y h e = refl

module _ (mask : ℕ) (ws : List ℕ) where
  abbrev u : Trace
  u = local mask ws

  atom_weak : (a k : ℕ) → Implies (local_atom mask ws a false k) (local_atom mask ws a true k)
  unfolding pick
  atom_weak a k = by_test (bit_of mask a)
      (λ o. rw o (λ e. e))
      (λ o. rw o (next_weak (ltb (suc k) (length ws)) (bit_of (get_or ws k 0) a) (bit_of (get_or ws k 0) a) (λ e. e)))

  node_weak : (f g : ℕ → Row) → ((i : ℕ) → StrongWeak (f i) (g i)) → (k : Kind) (a b : ℕ) → StrongWeak (ev u f k a b) (ev u g k a b)
  node_weak f g h True a b i e = e
  node_weak f g h Atom a b i e = atom_weak a i e
  node_weak f g h Not a b i e = implies_not (f a false i) (f a true i) (h a i) e
  node_weak f g h Or a b i e = kept_or false (f a false i) (f b false i) (f a true i) (f b true i) (h a i) (h b i) e
  node_weak f g h Next a b i e = next_weak (ltb (suc i) (length ws)) (f a false (suc i)) (f a true (suc i)) (h a (suc i)) e
  node_weak f g h Until a b i e = until_weak (f a false) (f b false) (f a true) (f b true) (h a) (h b) (length ws - i) i e
  node_weak f g h Prev a b i e = prev_kept (suc i) false (f a false) (f a true) (λ k l. h a k) i (omega arith) e
  node_weak f g h Since a b i e =
      since_kept (suc i) false (f a false) (f a true) (λ k l. h a k) (f b false) (f b true) (λ k l. h b k) (suc i) (omega arith) e
  node_weak f g h Run a b i e = e
  node_weak f g h End a b i e = e
  node_weak f g h Unknown a b i e = e

  -- at every node and every place, of any table
  pub strong_is_weak : (T : List Node) (m i : ℕ) → i < length ws → Implies (read_from (rows_of u T) m false i) (read_from (rows_of u T) m true i)
  strong_is_weak T m i l = rw (rows_are u T m false i l, rows_are u T m true i l) (related u u StrongWeak (λ k e. e) node_weak T m i)

  pub strong_verdict_is_weak : (T : List Node) (top : ℕ) → 0 < length ws → Implies (verdict u T top false) (verdict u T top true)
  unfolding verdict
  strong_verdict_is_weak T top some = strong_is_weak T top 0 some
