-- Pairs of rows in lent space, node by node: what is laid there, and what is wanted.
use Rattle.std.specs.Prelude.{◌≡◌, Bool, false, ◌&&◌, ◌||◌, List, ℕ, suc, ◌<◌, eqb}
use Rattle.definitions.specs.Bounded.{tabulate}
use Rattle.definitions.specs.Nodes.{Or}
use Rattle.definitions.specs.Readings.{Rows, row_of}
use Rattle.definitions.specs.Evidence.{same_reading}
use Rattle.mark_words.specs.Marks.{mark_at}
use Rattle.rows.specs.declared.pair.Pair.{Pair}
use Rattle.rows.specs.Pairs.{rows_in, PairMade, operated, pair_of_node}
use Rattle.walk.specs.Steps.{both_of}

-- node j has its own marks and those of `taken`, and every other node the pair that it had
pub record Wished (entry : List ℕ) (j : ℕ) (taken : Pair) (exit : List ℕ) : Type 0 where
  pub here : PairMade (pair_of_node exit j) (pair_of_node entry j).weak.count (operated Or (pair_of_node entry j).weak.count (rows_in (pair_of_node entry j)) (rows_in taken))
  pub others : (i : ℕ) → (i ≡ j → ⊥) → pair_of_node exit i ≡ pair_of_node entry i

-- each of the first `count` nodes has the rows that f says, over n places
pub record Held (n count : ℕ) (l : List ℕ) (f : ℕ → Rows) : Type 0 where
  pub pairs : (j : ℕ) → j < count → PairMade (pair_of_node l j) n (f j)

-- rows without a mark
abbrev pub none : ℕ → Rows
none n = both_of (λ e. tabulate n (λ k. false))

-- rows with a mark at place 0, in the chosen reading alone
unfoldable pub chosen : ℕ → Bool → Rows
chosen n weak = both_of (λ e. tabulate n (λ k. same_reading weak e && eqb k 0))

-- the last node at place 0, in the chosen reading
abbrev pub started : ℕ → ℕ → Bool → ℕ → Rows
started n count weak j = both_of (λ e. tabulate n (λ k. eqb (suc j) count && (same_reading weak e && eqb k 0)))

-- what f says, and at node j what r says too
abbrev pub wished : ℕ → (ℕ → Rows) → ℕ → Rows → ℕ → Rows
wished n f j r i = both_of (λ e. tabulate n (λ k. mark_at (row_of e (f i)) k || (eqb i j && mark_at (row_of e r) k)))
