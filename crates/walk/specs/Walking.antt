-- The walk from the rule: what a node's turn asks and leaves, and all turns.
use Rattle.std.specs.Prelude.{◌≡◌, Bool, false, List, ℕ, ◌+◌, ◌*◌, ◌<◌, ◌≤◌, length, get_or}
use Rattle.definitions.specs.Limits.{max_states, pair_words}
use Rattle.definitions.specs.Nodes.{Node, node_of}
use Rattle.definitions.specs.Tables.{nodes_in}
use Rattle.definitions.specs.Readings.{Trace, Rows, no_rows, rows_of}
use Rattle.definitions.specs.Evidence.{wanted_rows}
use Rattle.theorems.proofs.RuleNodes.{RuleNodes}
use Rattle.rules.specs.Kinds.{kind_in, is_leaf, Fit}
use Rattle.rules.specs.declared.kind.Kind as code
use Rattle.rows.specs.Pairs.{rows_in, pair_of_node}
use Rattle.walk.specs.Steps.{PairsEven, both_of, taken_first, taken_second}
use Rattle.walk.specs.Wanted.{Held, wished}

-- each of the first `count` nodes has whole rows over n places
abbrev pub Laid : ℕ → ℕ → List ℕ → Type 0
Laid n count l = Held n count l (λ j. rows_in (pair_of_node l j))

-- an operator with its rows, its operands' rows and its wanted places
pub record Taking (kind : code.Kind) (first second m : ℕ) (rows wanted : List ℕ) : Type 0 where
  pub operator : is_leaf (kind_in kind) ≡ false
  pub own_room : m * pair_words + pair_words ≤ length rows
  pub first_room : first * pair_words + pair_words ≤ length rows
  pub second_room : second * pair_words + pair_words ≤ length rows
  pub wanted_room : m * pair_words + pair_words ≤ length wanted
  pub even : PairsEven (pair_of_node wanted m) (pair_of_node rows m) (pair_of_node rows first) (pair_of_node rows second)

-- an operator's turn: rows and wanted places of the nodes up to it, which is node m
pub record OperatorReady (kind : code.Kind) (first second m n : ℕ) (rows wanted : List ℕ) : Type 0 where
  pub operator : is_leaf (kind_in kind) ≡ false
  pub first_early : first < m
  pub second_early : second < m
  pub rows_room : (m + 1) * pair_words ≤ length rows
  pub wanted_room : (m + 1) * pair_words ≤ length wanted
  pub rows_laid : Laid n (m + 1) rows
  pub wanted_laid : Laid n (m + 1) wanted

-- the node of word m
abbrev pub word_node : List ℕ → ℕ → Node
word_node nodes m = node_of (get_or nodes m 0)

-- node m's turn: a node of an accepted rule, and rows and wanted places of the nodes up to it
pub record Turning (nodes : List ℕ) (m n : ℕ) (rows wanted : List ℕ) : Type 0 where
  pub counted : m < length nodes
  pub fit : Fit m (word_node nodes m)
  pub rows_room : (m + 1) * pair_words ≤ length rows
  pub wanted_room : (m + 1) * pair_words ≤ length wanted
  pub rows_laid : Laid n (m + 1) rows
  pub wanted_laid : Laid n (m + 1) wanted

-- what node m, which is x, takes of its first operand, in the row forms, and of its second
abbrev pub turn_first : Node → ℕ → ℕ → List ℕ → List ℕ → Rows
turn_first x m n rows wanted =
    both_of (taken_first x.kind n (rows_in (pair_of_node wanted m)) (rows_in (pair_of_node rows m)) (rows_in (pair_of_node rows x.first)) (rows_in (pair_of_node rows x.second)))

abbrev pub turn_second : Node → ℕ → ℕ → List ℕ → List ℕ → Rows
turn_second x m n rows wanted =
    both_of (taken_second x.kind n (rows_in (pair_of_node wanted m)) (rows_in (pair_of_node rows m)) (rows_in (pair_of_node rows x.first)) (rows_in (pair_of_node rows x.second)))

-- after node m's turn what it takes is wanted of its operands too, whatever was wanted
pub record Turned (x : Node) (m n : ℕ) (rows entry exit : List ℕ) : Type 0 where
  pub adds : (count : ℕ) (f : ℕ → Rows) → m < count → Held n count entry f
      → Held n count exit (wished n (wished n f x.first (turn_first x m n rows entry)) x.second (turn_second x m n rows entry))

-- the nodes of an accepted rule with their rows, and space for the wanted places
pub record Walkable (nodes : List ℕ) (count n : ℕ) (rows wanted : List ℕ) : Type 0 where
  pub counted : count ≤ length nodes
  pub some : 0 < count
  pub few : n ≤ max_states
  pub ruled : RuleNodes 0 (nodes_in count nodes)
  pub fit : (m : ℕ) → m < count → Fit m (word_node nodes m)
  pub rows_room : count * pair_words ≤ length rows
  pub wanted_room : count * pair_words ≤ length wanted
  pub rows_laid : Laid n count rows

-- where the rows are those of the nodes over a trace of n places, the wanted places are those to which the walk from the rule comes
pub record Walked (nodes : List ℕ) (count n : ℕ) (rows : List ℕ) (weak : Bool) (exit : List ℕ) : Type 0 where
  pub wants : (t : Trace) → n ≡ t.places → Held n count rows (λ j. get_or (rows_of t (nodes_in count nodes)) j no_rows)
      → Held n count exit (λ j. get_or (wanted_rows t (nodes_in count nodes) weak) j no_rows)
