-- One law for each need of the functions on wanted places.
use mathlib.Core.Path.{◌≡◌, refl, sym, ap, ◌∙◌}
use mathlib.Core.Bool.{Bool, true, false, not, ◌&&◌, ◌||◌, or-false}
use mathlib.Core.List.{List}
use Prim.Native.Nat.{ℕ, zero, suc, ◌-◌, ◌<◌, ◌≤◌}
use native.Mathlib.Omega.{arith}
use native.Mathlib.Decide.{ℕ_discrete}
use lib.Dec.{eqb}
use lib.ListN.{length}
use borrow.Author.Tests.{eq-eqb, ne_eqb}
use Rattle.definitions.specs.Bounded.{tabulate}
use Rattle.definitions.specs.Nodes.{Or}
use Rattle.definitions.specs.Readings.{Rows, row_of, prev_at}
use Rattle.definitions.specs.Evidence.{same_reading}
use Rattle.theorems.proofs.Recursions.{prev_recursion}
use Rattle.theorems.proofs.Tabulations.{tabulate_at, tabulated}
use Rattle.theorems.proofs.Semantics.{Agree}
use Rattle.mark_words.specs.Marks.{mark_at}
use Rattle.rows.specs.Marks.{marks, Made}
use Rattle.rows.specs.declared.Row.{Row}
use Rattle.rows.proofs.PackedLaws.{marks_length, retold}
use Rattle.rows.proofs.RowLaws.{not_on, prev_on}
use Rattle.rows.specs.declared.pair.Pair.{Pair}
use Rattle.rows.specs.Pairs.{PairMade, PairStored, Operable, operated, pair_of_node}
use Rattle.rows.proofs.PairLaws.{pair_of, or_pair, rows_in_lem}
use Rattle.walk.specs.Steps.{both_of}
use Rattle.walk.specs.Wanted.{Wished, Held, none, chosen, started, wished}

-- ---- wanted

module _ (l : List ℕ) (j : ℕ) (p taken : Pair) (e : p ≡ pair_of_node l j) (o : Operable (pair_of_node l j) taken) where
  -- `want`
  pub wish_done : (weak strong : Row) (l' : List ℕ)
      → Made weak p.weak.count (tabulate p.weak.count (λ k. mark_at (marks p.weak) k || mark_at (marks taken.weak) k))
      → Made strong p.strong.count (tabulate p.strong.count (λ k. mark_at (marks p.strong) k || mark_at (marks taken.strong) k))
      → PairStored l j (pair_of weak strong) l' → Wished l j taken l'
  wish_done weak strong l' a b u = record {
    here = rw u.here (rw e at (or_pair p taken weak strong (rw e o) a b));
    others = u.others;
  }

-- ---- what is held

row_of_both : (e : Bool) (h : Bool → List Bool) → row_of e (both_of h) ≡ h e
row_of_both true h = refl
row_of_both false h = refl

-- the mark of rows that are tabulated
pub both_at : (n : ℕ) (g : Bool → ℕ → Bool) (e : Bool) → Agree n (mark_at (row_of e (both_of (λ d. tabulate n (g d))))) (g e)
both_at n g e k h = rw (row_of_both e (λ d. tabulate n (g d))) (tabulate_at n (g e) k h)

made_by : (r : Row) (n : ℕ) (l : List Bool) (g : ℕ → Bool) → Made r n l → Agree n (mark_at l) g → Made r n (tabulate n g)
made_by r n l g m h = retold r n l (tabulate n g) m (tabulated l n g (ap length (sym m.marked) ∙ (marks_length r m.whole ∙ m.count)) h)

pub pair_by : (p : Pair) (n : ℕ) (r : Rows) (g : Bool → ℕ → Bool) → PairMade p n r → ((e : Bool) → Agree n (mark_at (row_of e r)) (g e)) → PairMade p n (both_of (λ e. tabulate n (g e)))
pair_by p n r g m h = record { weak = made_by p.weak n r.weak (g true) m.weak (h true); strong = made_by p.strong n r.strong (g false) m.strong (h false) }

pub held_by_lem : (n count : ℕ) (l : List ℕ) (f : ℕ → Rows) (g : ℕ → Bool → ℕ → Bool) → Held n count l f → ((j : ℕ) → j < count → (e : Bool) → Agree n (mark_at (row_of e (f j))) (g j e))
    → Held n count l (λ j. both_of (λ e. tabulate n (g j e)))
held_by_lem n count l f g H h = record { pairs = λ j c. pair_by (pair_of_node l j) n (f j) (g j) (H.pairs j c) (h j c) }

-- as many places and nodes, told otherwise
pub held_over : (m n a b : ℕ) (l : List ℕ) (f : ℕ → Rows) → m ≡ n → a ≡ b → Held m a l f → Held n b l f
held_over m n a b l f e g H = rw (e, g) at H

pub pair_recounted : (p : Pair) (m n : ℕ) (f : ℕ → Rows) → m ≡ n → PairMade p m (f m) → PairMade p n (f n)
pair_recounted p m n f e v = rw e at v

module _ (n count : ℕ) (l l' : List ℕ) (f : ℕ → Rows) (j : ℕ) (t : Pair) (r : Rows) (H : Held n count l f) (inside : j < count) (m : PairMade t n r) (W : Wished l j t l') where
  here_made : PairMade (pair_of_node l' j) n (operated Or n (f j) r)
  here_made = rw (rows_in_lem (pair_of_node l j) n (f j) (H.pairs j inside), rows_in_lem t n r m, (H.pairs j inside).weak.count) at W.here

  pub wish_held : Held n count l' (wished n f j r)
  unfolding operated
  wish_held = record { pairs = λ i c. go i c (ℕ_discrete i j) }
    where
      or_read : (e : Bool) → Agree n (mark_at (row_of e (operated Or n (f j) r))) (λ k. mark_at (row_of e (f j)) k || mark_at (row_of e r) k)
      or_read true k h = tabulate_at n (λ k. mark_at (f j).weak k || mark_at r.weak k) k h
      or_read false k h = tabulate_at n (λ k. mark_at (f j).strong k || mark_at r.strong k) k h

      go : (i : ℕ) → i < count → Dec (i ≡ j) → PairMade (pair_of_node l' i) n (wished n f j r i)
      go i c (yes e) = rw e (pair_by (pair_of_node l' j) n (operated Or n (f j) r) (λ e k. mark_at (row_of e (f j)) k || (eqb j j && mark_at (row_of e r) k)) here_made
          (λ e k h. or_read e k h ∙ rw (eq-eqb j j refl)))
      go i c (no e) = rw (W.others i e) (pair_by (pair_of_node l i) n (f i) (λ d k. mark_at (row_of d (f i)) k || (eqb i j && mark_at (row_of d r) k)) (H.pairs i c)
          (λ d k h. rw (ne_eqb i j e, or-false)))

-- ---- nothing

pub record Blanking (n count : ℕ) (entry : List ℕ) (i : ℕ) (l : List ℕ) : Type 0 where
  pub within : i ≤ count
  pub kept : length l ≡ length entry
  pub held : Held n i l (λ j. none n)

-- ---- the rule at place 0

first_alone : (n : ℕ) (full before here : Row) → Made full n (tabulate n (λ k. true)) → Made before full.count (tabulate full.count (prev_at (mark_at (marks full))))
    → Made here before.count (tabulate before.count (λ k. not (mark_at (marks before) k))) → Made here n (tabulate n (λ k. eqb k 0))
first_alone n full before here f b h =
    let pb = prev_on full before n (tabulate n (λ k. true)) b f in
    made_by here n (tabulate n (λ k. not (mark_at (tabulate n (prev_at (mark_at (tabulate n (λ k. true))))) k))) (λ k. eqb k 0)
    (not_on before here n (tabulate n (prev_at (mark_at (tabulate n (λ k. true))))) h pb)
    (λ k l. tabulate_at n (λ k. not (mark_at (tabulate n (prev_at (mark_at (tabulate n (λ k. true))))) k)) k l
    ∙ (ap not (tabulate_at n (prev_at (mark_at (tabulate n (λ k. true)))) k l) ∙ at_first k l))
  where
    at_first : (k : ℕ) → k < n → not (prev_at (mark_at (tabulate n (λ k. true))) k) ≡ eqb k 0
    at_first zero l = ap not (prev_recursion (mark_at (tabulate n (λ k. true))) zero)
    at_first (suc k) l = ap not (prev_recursion (mark_at (tabulate n (λ k. true))) (suc k) ∙ tabulate_at n (λ k. true) k (omega arith)) ∙ sym (ne_eqb (suc k) 0 (λ e. omega arith))

module _ (n : ℕ) (weak : Bool) (nothing full before here : Row) (mn : Made nothing n (tabulate n (λ k. false))) (mf : Made full n (tabulate n (λ k. true)))
    (mb : Made before full.count (tabulate full.count (prev_at (mark_at (marks full)))))
    (mh : Made here before.count (tabulate before.count (λ k. not (mark_at (marks before) k)))) where
  -- `chosen`
  pub chosen_weak : weak ≡ true → PairMade (pair_of here nothing) n (chosen n weak)
  unfolding chosen
  chosen_weak e = rw e (record { weak = first_alone n full before here mf mb mh; strong = mn })

  pub chosen_strong : weak ≡ false → PairMade (pair_of nothing here) n (chosen n weak)
  unfolding chosen
  chosen_strong e = rw e (record { weak = mn; strong = first_alone n full before here mf mb mh })

-- ---- the start

module _ (n count : ℕ) (weak : Bool) (l : List ℕ) (p : Pair) (some : 0 < count) (H : Held n count l (λ j. none n)) (m : PairMade p n (chosen n weak)) where
  inside : count - 1 < count
  inside = omega arith

  -- `start`: the wanted places before the first turn are `started`
  pub start_done : (l' : List ℕ) → Wished l (count - 1) p l' → Held n count l' (started n count weak)
  unfolding chosen
  start_done l' W =
      held_by_lem n count l' (wished n (λ j. none n) (count - 1) (chosen n weak)) (λ j e k. eqb (suc j) count && (same_reading weak e && eqb k 0))
      (wish_held n count l l' (λ j. none n) (count - 1) p (chosen n weak) H inside m W)
      (λ j c e k h.
      both_at n (λ e k. mark_at (row_of e (none n)) k || (eqb j (count - 1) && mark_at (row_of e (chosen n weak)) k)) e k h
      ∙ rw (both_at n (λ e k. false) e k h, both_at n (λ e k. same_reading weak e && eqb k 0) e k h, same_node j))
    where
      same_node : (j : ℕ) → eqb j (count - 1) ≡ eqb (suc j) count
      same_node j = go (ℕ_discrete j (count - 1))
        where
          go : Dec (j ≡ count - 1) → eqb j (count - 1) ≡ eqb (suc j) count
          go (yes e) = eq-eqb j (count - 1) e ∙ sym (eq-eqb (suc j) count (omega arith))
          go (no e) = ne_eqb j (count - 1) e ∙ sym (ne_eqb (suc j) count (λ q. e (omega arith)))
