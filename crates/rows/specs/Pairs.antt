-- A node's two rows, as the code has them.
use Rattle.std.specs.Prelude.{◌≡◌, List, [], ◌∷◌, ◌++◌, false, ℕ, ◌+◌, ◌*◌, ◌≤◌, length, take, drop}
use Rattle.definitions.specs.Limits.{pair_words}
use Rattle.definitions.specs.Nodes.{Kind, node}
use Rattle.definitions.specs.Readings.{Trace, Rows, node_rows, pairs_words}
use Rattle.rules.specs.Kinds.{kind_in, is_leaf}
use Rattle.rules.specs.declared.kind.Kind as code
use Rattle.rows.specs.Marks.{marks, Whole, Made}
use Rattle.rows.specs.Stored.{row_at}
use Rattle.rows.specs.declared.pair.Pair.{Pair}

-- the rows that a pair holds
abbrev pub rows_in : Pair → Rows
rows_in p = record { weak = marks p.weak; strong = marks p.strong }

-- p holds the rows r, of n places
pub record PairMade (p : Pair) (n : ℕ) (r : Rows) : Type 0 where
  pub weak : Made p.weak n r.weak
  pub strong : Made p.strong n r.strong

-- both rows of a pair are whole
pub record PairWhole (p : Pair) : Type 0 where
  pub weak : Whole p.weak
  pub strong : Whole p.strong

-- both rows of a pair cover n places
pub record Counted (n : ℕ) (p : Pair) : Type 0 where
  pub weak : p.weak.count ≡ n
  pub strong : p.strong.count ≡ n

-- two pairs whose rows cover the same places
pub record Operable (p q : Pair) : Type 0 where
  pub first_weak : Whole p.weak
  pub first_strong : Whole p.strong
  pub second_weak : Whole q.weak
  pub second_strong : Whole q.strong
  pub first_even : p.strong.count ≡ p.weak.count
  pub second_first : q.weak.count ≡ p.weak.count
  pub second_even : q.strong.count ≡ p.weak.count

-- a trace of n places in which no atom, run or end holds: operators read no more of a trace than its places
abbrev pub bare : ℕ → Trace
bare n = record { places = n; atom = λ a weak i. false; run = λ i. false; end = λ i. false }

-- the rows of an operator over the rows of its operands: those of a node over nodes 0 and 1
unfoldable pub operated : Kind → ℕ → Rows → Rows → Rows
operated k n p q = node_rows (bare n) (p ∷ q ∷ []) (node k 0 1)

-- the pair that the six words from `at` on are
unfoldable pub pair_at : List ℕ → ℕ → Pair
pair_at l at = record { weak = row_at l at; strong = row_at l (at + 3) }

-- the pair of node k
abbrev pub pair_of_node : List ℕ → ℕ → Pair
pair_of_node rows k = pair_at rows (k * pair_words)

-- the words of p over those of node j: node j then has the pair p, and every other node the pair that it had
pub record PairStored (entry : List ℕ) (j : ℕ) (p : Pair) (exit : List ℕ) : Type 0 where
  pub words : exit ≡ take (j * pair_words) entry ++ (pairs_words (rows_in p ∷ []) ++ drop ((j + 1) * pair_words) entry)
  pub here : pair_of_node exit j ≡ p
  pub others : (i : ℕ) → (i ≡ j → ⊥) → pair_of_node exit i ≡ pair_of_node entry i

-- an operator whose operands' rows are laid, n places each
pub record Operands (kind : code.Kind) (first second n : ℕ) (rows : List ℕ) : Type 0 where
  pub operator : is_leaf (kind_in kind) ≡ false
  pub first_room : first * pair_words + pair_words ≤ length rows
  pub second_room : second * pair_words + pair_words ≤ length rows
  pub laid : Operable (pair_of_node rows first) (pair_of_node rows second)
  pub places : (pair_of_node rows first).weak.count ≡ n

-- the rows of an operator over the rows that are laid
abbrev pub operator_rows : code.Kind → ℕ → ℕ → ℕ → List ℕ → Rows
operator_rows kind first second n rows = operated (kind_in kind) n (rows_in (pair_of_node rows first)) (rows_in (pair_of_node rows second))
