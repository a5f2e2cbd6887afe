-- One law for each return of the functions on pairs.
use mathlib.Core.Path.{◌≡◌, refl, sym, ap₂, ◌∙◌}
use mathlib.Core.Bool.{true, false, not, ◌||◌}
use mathlib.Core.List.{List, ◌++◌, append_assoc}
use Prim.Native.Nat.{ℕ, ◌+◌, ◌*◌, ◌<◌, ◌≤◌}
use native.Mathlib.Omega.{arith}
use native.Mathlib.Decide.{ℕ_discrete, dec_lt}
use lib.ListN.{length, take, drop, length-append, take-append-drop}
use lib.Seq.{length-take-le}
use Rattle.definitions.specs.Limits.{pair_words}
use Rattle.definitions.specs.Bounded.{tabulate}
use Rattle.definitions.specs.Nodes.{Kind, Not, Or, Next, Until, Prev, Since}
use Rattle.definitions.specs.Readings.{Rows, row_words, next_at, until_at, prev_at, since_at}
use Rattle.mark_words.specs.Marks.{mark_at}
use Rattle.rows.specs.Marks.{marks, Made}
use Rattle.rows.specs.declared.Row.{Row}
use Rattle.rows.proofs.RowLaws.{whole_made, not_on, or_on, next_on, until_on, prev_on, since_on}
use Rattle.rows.proofs.StoredLaws.{row_here, row_before, row_past, row_laid}
use Rattle.rows.specs.declared.pair.Pair.{Pair}
use Rattle.rows.specs.Pairs.{rows_in, PairMade, PairWhole, PairStored, Operable, operated, pair_at, pair_of_node}

abbrev pub pair_of : Row → Row → Pair
pair_of w s = record { weak = w; strong = s }

pub rows_in_lem : (p : Pair) (n : ℕ) (r : Rows) → PairMade p n r → rows_in p ≡ r
rows_in_lem p n r m = ap₂ (λ w s. record { weak = w; strong = s }) m.weak.marked m.strong.marked

pub pair_same : (p : Pair) (n : ℕ) (r s : Rows) → PairMade p n r → r ≡ s → PairMade p n s
pair_same p n r s m e = rw e at m

pub both_made : (p q : Pair) (n : ℕ) (r s : Rows) → PairMade p n r → PairMade q n s → Operable p q
both_made p q n r s m o = record {
  first_weak = m.weak.whole;
  first_strong = m.strong.whole;
  second_weak = o.weak.whole;
  second_strong = o.strong.whole;
  first_even = m.strong.count ∙ sym m.weak.count;
  second_first = o.weak.count ∙ sym m.weak.count;
  second_even = o.strong.count ∙ sym m.weak.count;
}

-- ---- `store_pair`: a pair stored, and the pairs beside it

module _ (l l' l'' : List ℕ) (j : ℕ) (p : Pair) (v : PairWhole p) (room : j * pair_words + pair_words ≤ length l) (kept : length l' ≡ length l)
    (a : l' ≡ take (j * pair_words) l ++ (row_words (marks p.weak) ++ drop (j * pair_words + 3) l))
    (b : l'' ≡ take (j * pair_words + 3) l' ++ (row_words (marks p.strong) ++ drop (j * pair_words + 3 + 3) l')) where
  pub pair_stored : PairStored l j p l''
  unfolding pair_at
  pair_stored =
      let one : j * pair_words + 3 ≤ length l = omega arith in
      let two : j * pair_words + 3 + 3 ≤ length l' = omega arith in
      let sum : j * pair_words + 3 + 3 ≡ (j + 1) * pair_words = omega arith in
      let low : length (take (j * pair_words) l) ≡ j * pair_words = length-take-le (j * pair_words) l (omega arith) in
      let high : length (take (j * pair_words) l ++ row_words (marks p.weak)) ≡ j * pair_words + 3 = omega (arith, low, length-append (take (j * pair_words) l) (row_words (marks p.weak))) in
      let first : l' ≡ (take (j * pair_words) l ++ row_words (marks p.weak)) ++ drop (j * pair_words + 3) l =
      row_laid l l l' (take (j * pair_words) l) (j * pair_words) (marks p.weak) (sym (take-append-drop (j * pair_words) l)) low a in
      record {
        words = row_laid l l' l'' (take (j * pair_words) l ++ row_words (marks p.weak)) (j * pair_words + 3) (marks p.strong) first high b
            ∙ rw (
              sum,
              append_assoc (take (j * pair_words) l) (row_words (marks p.weak)) (row_words (marks p.strong)),
              append_assoc (take (j * pair_words) l) (row_words (marks p.weak) ++ row_words (marks p.strong)) (drop ((j + 1) * pair_words) l),
            );
        here = ap₂ pair_of
            (row_before l' l'' (j * pair_words + 3) p.strong v.strong two b (j * pair_words) (omega arith) ∙ row_here l l' (j * pair_words) p.weak v.weak one a)
            (row_here l' l'' (j * pair_words + 3) p.strong v.strong two b);
        others = λ i n. go i n (dec_lt i j) one two;
      }
    where
      go : (i : ℕ) → (i ≡ j → ⊥) → Dec (i < j) → j * pair_words + 3 ≤ length l → j * pair_words + 3 + 3 ≤ length l' → pair_of_node l'' i ≡ pair_of_node l i
      go i n (yes h) one two = ap₂ pair_of
          (row_before l' l'' (j * pair_words + 3) p.strong v.strong two b (i * pair_words) (omega arith) ∙ row_before l l' (j * pair_words) p.weak v.weak one a (i * pair_words) (omega arith))
          (row_before l' l'' (j * pair_words + 3) p.strong v.strong two b (i * pair_words + 3) (omega arith) ∙ row_before l l' (j * pair_words) p.weak v.weak one a (i * pair_words + 3) (omega arith))
      go i n (no h) one two =
          let late : j < i = later i j n h in
          ap₂ pair_of
          (row_past l' l'' (j * pair_words + 3) p.strong v.strong two b (i * pair_words) (omega arith) ∙ row_past l l' (j * pair_words) p.weak v.weak one a (i * pair_words) (omega arith))
          (row_past l' l'' (j * pair_words + 3) p.strong v.strong two b (i * pair_words + 3) (omega arith) ∙ row_past l l' (j * pair_words) p.weak v.weak one a (i * pair_words + 3) (omega arith))
        where
          later : (i j : ℕ) → (i ≡ j → ⊥) → (i < j → ⊥) → j < i
          later i j n h = ordered (ℕ_discrete i j) (dec_lt j i)
            where
              ordered : Dec (i ≡ j) → Dec (j < i) → j < i
              ordered (yes e) d = absurd (n e)
              ordered (no e) (yes d) = d
              ordered (no e) (no d) = absurd (h (omega arith))

-- what operate has to show
abbrev pub Operated : Kind → Pair → Pair → Row → Row → Type 0
Operated kind p q w s = PairMade (pair_of w s) p.weak.count (operated kind p.weak.count (rows_in p) (rows_in q))

module _ (p q : Pair) (w s : Row) (o : Operable p q) where
  pw : Made p.weak p.weak.count (marks p.weak)
  pw = whole_made p.weak p.weak.count o.first_weak refl

  ps : Made p.strong p.weak.count (marks p.strong)
  ps = whole_made p.strong p.weak.count o.first_strong (sym o.first_even)

  qw : Made q.weak p.weak.count (marks q.weak)
  qw = whole_made q.weak p.weak.count o.second_weak (sym o.second_first)

  qs : Made q.strong p.weak.count (marks q.strong)
  qs = whole_made q.strong p.weak.count o.second_strong (sym o.second_even)

  pub not_pair :
      Made w p.strong.count (tabulate p.strong.count (λ k. not (mark_at (marks p.strong) k)))
      → Made s p.weak.count (tabulate p.weak.count (λ k. not (mark_at (marks p.weak) k)))
      → Operated Not p q w s
  unfolding operated
  not_pair a b = record {
    weak = not_on p.strong w p.weak.count (marks p.strong) a ps;
    strong = not_on p.weak s p.weak.count (marks p.weak) b pw;
  }

  pub or_pair :
      Made w p.weak.count (tabulate p.weak.count (λ k. mark_at (marks p.weak) k || mark_at (marks q.weak) k))
      → Made s p.strong.count (tabulate p.strong.count (λ k. mark_at (marks p.strong) k || mark_at (marks q.strong) k))
      → Operated Or p q w s
  unfolding operated
  or_pair a b = record {
    weak = or_on p.weak q.weak w p.weak.count (marks p.weak) (marks q.weak) a pw qw;
    strong = or_on p.strong q.strong s p.weak.count (marks p.strong) (marks q.strong) b ps qs;
  }

  pub next_pair :
      Made w p.weak.count (tabulate p.weak.count (next_at true p.weak.count (mark_at (marks p.weak))))
      → Made s p.strong.count (tabulate p.strong.count (next_at false p.strong.count (mark_at (marks p.strong))))
      → Operated Next p q w s
  unfolding operated
  next_pair a b = record {
    weak = next_on p.weak w p.weak.count (marks p.weak) true a pw;
    strong = next_on p.strong s p.weak.count (marks p.strong) false b ps;
  }

  pub prev_pair :
      Made w p.weak.count (tabulate p.weak.count (prev_at (mark_at (marks p.weak))))
      → Made s p.strong.count (tabulate p.strong.count (prev_at (mark_at (marks p.strong))))
      → Operated Prev p q w s
  unfolding operated
  prev_pair a b = record {
    weak = prev_on p.weak w p.weak.count (marks p.weak) a pw;
    strong = prev_on p.strong s p.weak.count (marks p.strong) b ps;
  }

  pub since_pair :
      Made w p.weak.count (tabulate p.weak.count (since_at (mark_at (marks p.weak)) (mark_at (marks q.weak))))
      → Made s p.strong.count (tabulate p.strong.count (since_at (mark_at (marks p.strong)) (mark_at (marks q.strong))))
      → Operated Since p q w s
  unfolding operated
  since_pair a b = record {
    weak = since_on p.weak q.weak w p.weak.count (marks p.weak) (marks q.weak) a pw qw;
    strong = since_on p.strong q.strong s p.weak.count (marks p.strong) (marks q.strong) b ps qs;
  }

-- until, on copies of both pairs
module _ (p q a b : Pair) (o : Operable p q) (ea : a ≡ p) (eb : b ≡ q) where
  copied : Operable a b
  copied = rw (ea, eb) o

  pub untils_made : (w s : Row)
      → Made w a.weak.count (tabulate a.weak.count (until_at true a.weak.count (mark_at (marks a.weak)) (mark_at (marks b.weak))))
      → Made s a.strong.count (tabulate a.strong.count (until_at false a.strong.count (mark_at (marks a.strong)) (mark_at (marks b.strong))))
      → PairMade (pair_of w s) p.weak.count (operated Until p.weak.count (rows_in p) (rows_in q))
  unfolding operated
  untils_made w s u v = rw (← ea, ← eb) (record {
    weak = until_on a.weak b.weak w a.weak.count (marks a.weak) (marks b.weak) true u (pw a b w s copied) (qw a b w s copied);
    strong = until_on a.strong b.strong s a.weak.count (marks a.strong) (marks b.strong) false v (ps a b w s copied) (qs a b w s copied);
  })
