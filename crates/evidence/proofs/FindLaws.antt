-- One law for each need of the rows of places at which nodes are found.
use mathlib.Core.Path.{◌≡◌, refl, sym, ap, ◌∙◌}
use mathlib.Core.Bool.{Bool, true, false, ◌&&◌, ◌||◌}
use mathlib.Core.List.{List, ◌++◌}
use Prim.Native.Nat.{ℕ, suc, ◌+◌, ◌*◌, ◌<◌, ◌≤◌}
use native.Mathlib.Omega.{arith}
use native.Mathlib.Decide.{ℕ_discrete}
use lib.Dec.{ltb}
use lib.ListN.{length, take, drop, get_or}
use borrow.Author.Rules.{rules}
use Rattle.definitions.specs.Limits.{atom_count, word_marks}
use Rattle.definitions.specs.Bounded.{pick, bit_of, tabulate}
use Rattle.definitions.specs.Nodes.{Node, node_of}
use Rattle.definitions.specs.Tables.{Rule, is_atom}
use Rattle.definitions.specs.Readings.{row_words}
use Rattle.theorems.proofs.Tabulations.{tabulate_at, tabulate_same}
use Rattle.mark_words.specs.Marks.{mark_at, last_at}
use Rattle.judges.specs.declared.local.LocalTrace.{LocalTrace}
use Rattle.rules.specs.Kinds.{kind_in, Fit}
use Rattle.rules.specs.Meaning.{meaning, OfWord}
use Rattle.rules.specs.declared.kind.Kind.{Kind}
use Rattle.rules.specs.declared.kind.Kind.TheVariants.{True, Atom, Not, Or, Next, Until, Prev, Since, Run, End, Unknown}
use Rattle.rules.specs.declared.node.Node as code
use Rattle.rows.specs.Marks.{marks, Whole, Made}
use Rattle.rows.specs.Stored.{row_at}
use Rattle.rows.specs.declared.Row.{Row}
use Rattle.rows.proofs.PackedLaws.{retold, recounted}
use Rattle.rows.proofs.RowLaws.{last_on}
use Rattle.rows.proofs.StoredLaws.{row_here, row_before}
use Rattle.rows.specs.declared.pair.Pair.{Pair}
use Rattle.rows.specs.Pairs.{rows_in, PairMade, pair_of_node}
use Rattle.evidence.specs.Finding.{places_of, NodeReady, Findable, FoundRows}

no_atom : (k : Kind) → (k ≡ Atom → ⊥) → is_atom (kind_in k) ≡ false
no_atom True n = refl
no_atom Atom n = absurd (n refl)
no_atom Not n = refl
no_atom Or n = refl
no_atom Next n = refl
no_atom Until n = refl
no_atom Prev n = refl
no_atom Since n = refl
no_atom Run n = refl
no_atom End n = refl
no_atom (Unknown u) n = refl

an_atom : (k : Kind) → k ≡ Atom → is_atom (kind_in k) ≡ true
an_atom k e = rw e

-- a row that marks f marks g, where they are the same
marks_as : (r : Row) (n : ℕ) (f g : ℕ → Bool) → Made r n (tabulate n f) → ((k : ℕ) → k < n → f k ≡ g k) → Made r n (tabulate n g)
marks_as r n f g m h = retold r n (tabulate n f) (tabulate n g) m (tabulate_same n f g h)

module _ (r : Rule) (l : LocalTrace) (wanted : List ℕ) (j : ℕ) (ready : NodeReady r l wanted j) (x : code.Node) (word : OfWord (get_or r.nodes j 0) x) where
  -- the node that is read is the node of the definitions
  abbrev Places : Row → Type 0
  Places row = Made row l.count (tabulate l.count (places_of r l wanted j))

  kind_is : is_atom (kind_in x.kind) ≡ is_atom (node_of (get_or r.nodes j 0)).kind
  kind_is = ap (λ (y : Node). is_atom y.kind) word.meant

  first_is : x.first ≡ (node_of (get_or r.nodes j 0)).first
  first_is = ap (λ (y : Node). y.first) word.meant

  -- `found_row` of a node that is no atom
  pub found_none : (x.kind ≡ Atom → ⊥) → (row : Row) → Made row l.count (tabulate l.count (λ k. false)) → Places row
  unfolding places_of
  found_none e row m = marks_as row l.count (λ k. false) (places_of r l wanted j) m (λ k h. rw (← kind_is, no_atom x.kind e))

  module _ (e : x.kind ≡ Atom) where
    pub atom_low : x.first < word_marks
    atom_low =
        let f : Fit j (meaning x) = rw word.meant ready.fit in
        let low : x.first < atom_count = f.atom (rw e) in
        omega arith

    module _ (p : Pair) (loaded : p ≡ pair_of_node wanted j) where
      made : PairMade p l.count (rows_in p)
      made = rw loaded ready.pair

      pub weak_whole : Whole p.weak
      weak_whole = made.weak.whole

      pub strong_whole : Whole p.strong
      strong_whole = made.strong.whole

      pub pair_even : p.weak.count ≡ p.strong.count
      pair_even = made.weak.count ∙ sym made.strong.count

      abbrev either : ℕ → Bool
      either k = mark_at (marks p.weak) k || mark_at (marks p.strong) k

      -- what is found, by its tests
      found_is : (b : Bool) → bit_of l.mask x.first ≡ b → (k : ℕ) → places_of r l wanted j k ≡ ((b || ltb (suc k) l.count) && either k)
      unfolding places_of
      found_is b h k = rw (← kind_is, an_atom x.kind e, ← first_is, h, loaded)

      module _ (places : Row) (m : Made places p.weak.count (tabulate p.weak.count either)) where
        over : Made places l.count (tabulate l.count either)
        over = recounted places p.weak.count l.count (λ c. tabulate c either) m made.weak.count

        -- `found_row` of an own atom, and of a foreign one: `places_of`
        pub found_own : (t : Bool) → t ≡ bit_of l.mask x.first → t ≡ true → Places places
        found_own t h y = marks_as places l.count either (places_of r l wanted j) over (λ k b. sym (found_is true (sym h ∙ y) k))

        pub found_foreign : (t : Bool) → t ≡ bit_of l.mask x.first → t ≡ false → (row : Row) → Made row places.count (tabulate places.count (last_at false places.count (mark_at (marks places)))) → Places row
        unfolding pick
        found_foreign t h y row mr =
            marks_as row l.count (last_at false l.count (mark_at (tabulate l.count either))) (places_of r l wanted j) (last_on places row l.count (tabulate l.count either) false mr over)
            (λ k b. last_found k b ∙ sym (found_is false (sym h ∙ y) k))
          where
            last_found : (k : ℕ) → k < l.count → last_at false l.count (mark_at (tabulate l.count either)) k ≡ (ltb (suc k) l.count && either k)
            last_found k b = rw (tabulate_at l.count either k b) (chosen (ltb (suc k) l.count) (either k))
              where
                chosen : (z y : Bool) → pick z y false ≡ (z && y)
                chosen true y = refl
                chosen false y = refl

-- ---- all nodes

-- before node i: the rows of the nodes before it are laid
pub record Finding (r : Rule) (l : LocalTrace) (wanted entry : List ℕ) (i : ℕ) (ws : List ℕ) : Type 0 where
  pub within : i ≤ r.count
  pub kept : length ws ≡ length entry
  pub rows : (j : ℕ) → j < i → Made (row_at ws (j * 3)) l.count (tabulate l.count (places_of r l wanted j))

-- `found_rows`, before the first turn: no row is laid
pub finding_none : (r : Rule) (l : LocalTrace) (wanted entry : List ℕ) → Finding r l wanted entry 0 entry
finding_none r l wanted entry = record { within = omega arith; kept = refl; rows = λ j h. absurd (omega arith) }

module _ (r : Rule) (l : LocalTrace) (wanted entry : List ℕ) (given : Findable r l wanted entry) (i : ℕ) (ws : List ℕ) (so : Finding r l wanted entry i ws) where
  pub finding_ready : i < r.count → NodeReady r l wanted i
  finding_ready h = given.ready i h

  pub finding_room : i < r.count → i * 3 + 3 ≤ length ws
  finding_room h = omega (arith, so.kept, given.room)

  -- `found_rows`, a turn: the row of one node more is that of `places_of`
  pub finding_more : i < r.count → (row : Row) → Made row l.count (tabulate l.count (places_of r l wanted i)) → (ws' : List ℕ) → length ws' ≡ length ws
      → ws' ≡ take (i * 3) ws ++ (row_words (marks row) ++ drop (i * 3 + 3) ws) → Finding r l wanted entry (i + 1) ws'
  finding_more h row m ws' kept e = record { within = omega arith; kept = kept ∙ so.kept; rows = λ j c. go j c (ℕ_discrete j i) }
    where
      go : (j : ℕ) → j < i + 1 → Dec (j ≡ i) → Made (row_at ws' (j * 3)) l.count (tabulate l.count (places_of r l wanted j))
      go j c (yes q) = rw (q, row_here ws ws' (i * 3) row m.whole (finding_room h) e) m
      go j c (no q) = rw (row_before ws ws' (i * 3) row m.whole (finding_room h) e (j * 3) (omega arith)) (so.rows j (omega arith))

  -- `found_rows`
  pub finding_done : r.count ≤ i → FoundRows r l wanted ws
  finding_done h = record { rows = λ j c. so.rows j (omega arith) }

pub ruleset find_laws =
    (rules, found_none, atom_low, weak_whole, strong_whole, pair_even, found_own, found_foreign, finding_none, finding_ready, finding_room, finding_more, finding_done)
