-- One law for each return of a leaf's rows.
use mathlib.Core.Path.{◌≡◌, refl, sym, ap, ap₂, ◌∙◌}
use mathlib.Core.Bool.{Bool, true, false, not, ◌&&◌}
use mathlib.Core.List.{List}
use Prim.Native.Nat.{ℕ, zero, suc, ◌+◌, ◌-◌, ◌<◌, ◌≤◌}
use native.Mathlib.Omega.{arith}
use lib.Dec.{ltb}
use lib.ListN.{take, get_or}
use lib.Seq.{get_or-take}
use Rattle.definitions.specs.Limits.{atom_count}
use Rattle.definitions.specs.Bounded.{pick, bit_of, some_of, every_of, every, tabulate}
use Rattle.definitions.specs.Projection.{end_at}
use Rattle.definitions.specs.Readings.{until_at}
use Rattle.mark_words.specs.Marks.{mark_at, last_at}
use Rattle.mark_words.proofs.WordLaws.{bit_shr}
use Rattle.rows.specs.Marks.{marks, Made}
use Rattle.rows.specs.declared.Row.{Row}
use Rattle.theorems.proofs.Tabulations.{tabulate_at, tabulate_same}
use Rattle.rows.proofs.RowLaws.{not_on, until_on, last_on}
use Rattle.evaluation.specs.Traced.{state_atom, state_run, atom_rows}
use Rattle.rows.specs.Pairs.{PairMade}
use Rattle.rows.proofs.PairLaws.{pair_of}

made_same : (r : Row) (n : ℕ) (k l : List Bool) → Made r n k → k ≡ l → Made r n l
made_same r n k l m e = rw e at m

marks_of_lem : (n : ℕ) (f : ℕ → Bool) (i : ℕ) → i < n → mark_at (tabulate n f) i ≡ f i
marks_of_lem n f i h = tabulate_at n f i h

-- ---- atoms

module _ (states : List ℕ) (n own a : ℕ) where
  abbrev column_at : ℕ → Bool
  column_at k = bit_of (get_or states k 0) a

  own_same : (weak : Bool) → bit_of own a ≡ true → tabulate n column_at ≡ tabulate n (state_atom states n own a weak)
  unfolding pick
  own_same weak e = tabulate_same n column_at (state_atom states n own a weak) (λ i h. rw e)

  foreign_same : (weak : Bool) → bit_of own a ≡ false → tabulate n (last_at weak n (mark_at (tabulate n column_at))) ≡ tabulate n (state_atom states n own a weak)
  unfolding pick
  foreign_same weak e =
      tabulate_same n (last_at weak n (mark_at (tabulate n column_at))) (state_atom states n own a weak)
      (λ i h. rw (e, marks_of_lem n column_at i h))

  -- `atom`: an own one, a foreign one (`atom_rows`)
  pub own_atom_lem : (column : Row) → Made column n (tabulate n column_at) → (t : Bool) → t ≡ bit_of own a → t ≡ true → PairMade (pair_of column column) n (atom_rows states n own a)
  own_atom_lem column m t e y =
      let own_bit : bit_of own a ≡ true = sym e ∙ y in
      record {
        weak = made_same column n (tabulate n column_at) (tabulate n (state_atom states n own a true)) m (own_same true own_bit);
        strong = made_same column n (tabulate n column_at) (tabulate n (state_atom states n own a false)) m (own_same false own_bit);
      }

  pub foreign_atom_lem : (column w s : Row) → Made column n (tabulate n column_at) → (t : Bool) → t ≡ bit_of own a → t ≡ false
      → Made w column.count (tabulate column.count (last_at true column.count (mark_at (marks column))))
      → Made s column.count (tabulate column.count (last_at false column.count (mark_at (marks column))))
      → PairMade (pair_of w s) n (atom_rows states n own a)
  foreign_atom_lem column w s m t e y mw ms =
      let foreign : bit_of own a ≡ false = sym e ∙ y in
      record {
        weak = made_same w n (tabulate n (last_at true n (mark_at (tabulate n column_at)))) (tabulate n (state_atom states n own a true))
            (last_on column w n (tabulate n column_at) true mw m) (foreign_same true foreign);
        strong = made_same s n (tabulate n (last_at false n (mark_at (tabulate n column_at)))) (tabulate n (state_atom states n own a false))
            (last_on column s n (tabulate n column_at) false ms m) (foreign_same false foreign);
      }

-- ---- run

last_unmarked : (z x : Bool) → pick z x false ≡ (z && x)
unfolding pick
last_unmarked true x = refl
last_unmarked false x = refl

pub run_row : (states : List ℕ) (n c : ℕ) (column r : Row) → Made column n (tabulate n (λ k. bit_of (get_or states k 0) (atom_count + c)))
    → Made r column.count (tabulate column.count (last_at false column.count (mark_at (marks column))))
    → Made r n (tabulate n (state_run states n c))
run_row states n c column r m mr =
    let marked : ℕ → Bool = λ k. bit_of (get_or states k 0) (atom_count + c) in
    made_same r n (tabulate n (last_at false n (mark_at (tabulate n marked)))) (tabulate n (state_run states n c))
    (last_on column r n (tabulate n marked) false mr m)
    (tabulate_same n (last_at false n (mark_at (tabulate n marked))) (state_run states n c)
    (λ i h. last_unmarked (ltb (suc i) n) (mark_at (tabulate n marked) i)
    ∙ ap (λ (b : Bool). ltb (suc i) n && b) (marks_of_lem n marked i h ∙ sym (bit_shr c atom_count (get_or (take n states) i 0) ∙ rw (get_or-take n states i 0 h)))))

-- ---- end

some_no : (n k : ℕ) (q p : ℕ → Bool) → ((j : ℕ) → k ≤ j → j < k + n → q j ≡ false) → some_of n k (λ j. q j && p j) ≡ false
some_no zero k q p h = refl
some_no (suc n) k q p h = rw (h k (omega arith) (omega arith)) (some_no n (suc k) q p (λ j lo hi. h j (omega arith) (omega arith)))

every_same : (n k : ℕ) (f g : ℕ → Bool) → ((j : ℕ) → k ≤ j → j < k + n → f j ≡ g j) → every_of n k f ≡ every_of n k g
every_same zero k f g h = refl
every_same (suc n) k f g h =
    ap₂ ◌&&◌ (h k (omega arith) (omega arith)) (every_same n (suc k) f g (λ j lo hi. h j (omega arith) (omega arith)))

-- weakly idle until what never holds is idle up to the last place
pub end_is : (n : ℕ) (p q run : ℕ → Bool) → ((j : ℕ) → j < n → p j ≡ not (run j)) → ((j : ℕ) → j < n → q j ≡ false)
    → (i : ℕ) → i < n → until_at true n p q i ≡ end_at run n i
end_is n p q run hp hq i h =
    rw (
      some_no (n - i) i q (λ k. every i k p) (λ j lo hi. hq j (omega arith)),
      every_same (n - i) i p (λ j. not (run j)) (λ j lo hi. hp j (omega arith)),
    )

pub end_row : (states : List ℕ) (n c : ℕ) (row idle none r : Row) → Made row n (tabulate n (state_run states n c))
    → Made idle row.count (tabulate row.count (λ k. not (mark_at (marks row) k)))
    → Made none n (tabulate n (λ k. false))
    → Made r idle.count (tabulate idle.count (until_at true idle.count (mark_at (marks idle)) (mark_at (marks none))))
    → Made r n (tabulate n (end_at (state_run states n c) n))
end_row states n c row idle none r m i z u =
    let run : List Bool = tabulate n (state_run states n c) in
    let nots : List Bool = tabulate n (λ k. not (mark_at run k)) in
    let blank : List Bool = tabulate n (λ k. false) in
    let until : Made r n (tabulate n (until_at true n (mark_at nots) (mark_at blank))) =
    until_on idle none r n nots blank true u (not_on row idle n run i m) z in
    made_same r n (tabulate n (until_at true n (mark_at nots) (mark_at blank))) (tabulate n (end_at (state_run states n c) n)) until
    (tabulate_same n (until_at true n (mark_at nots) (mark_at blank)) (end_at (state_run states n c) n)
    (end_is n (mark_at nots) (mark_at blank) (state_run states n c)
    (λ j h. marks_of_lem n (λ k. not (mark_at run k)) j h ∙ ap not (marks_of_lem n (state_run states n c) j h))
    (λ j h. marks_of_lem n (λ k. false) j h)))
