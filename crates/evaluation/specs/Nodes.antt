-- What the evaluator asks of a node, and of the lent rows when its turn comes.
use Rattle.std.specs.Prelude.{Bool, ◌&&◌, List, ◌≡◌, ℕ, ◌+◌, ◌*◌, ◌<◌, ◌≤◌, eqb, ltb, length, get_or, take}
use Rattle.definitions.specs.Limits.{max_states, max_controllers, pair_words}
use Rattle.definitions.specs.Nodes.{node_of}
use Rattle.definitions.specs.Tables.{nodes_in}
use Rattle.definitions.specs.Readings.{Rows, node_rows, rows_of, pairs_words}
use Rattle.rules.specs.Kinds.{Fit}
use Rattle.evaluation.specs.Traced.{trace_of}

-- node j is a node before node i with the same word
unfoldable pub again : List ℕ → ℕ → ℕ → Bool
again nodes i j = ltb j i && eqb (get_or nodes j 0) (get_or nodes i 0)

-- a table that can be evaluated over states into lent rows
pub record Evaluable (nodes : List ℕ) (count : ℕ) (states : List ℕ) (n c : ℕ) (rows : List ℕ) : Type 0 where
  pub counted : count ≤ length nodes
  pub fit : (j : ℕ) → j < count → Fit j (node_of (get_or nodes j 0))
  pub few : n ≤ max_states
  pub there : n ≤ length states
  pub controller : c < max_controllers
  pub room : count * pair_words ≤ length rows

-- the rows of the first i nodes
abbrev pub rows_to : List ℕ → ℕ → List ℕ → ℕ → ℕ → ℕ → List Rows
rows_to nodes i states n c own = rows_of (trace_of states n c own) (nodes_in i nodes)

-- node i's turn: the rows of the nodes before it are laid, and there is room for its own
pub record Ready (nodes : List ℕ) (i : ℕ) (states : List ℕ) (n c own : ℕ) (rows : List ℕ) : Type 0 where
  pub counted : i < length nodes
  pub fit : Fit i (node_of (get_or nodes i 0))
  pub few : n ≤ max_states
  pub there : n ≤ length states
  pub controller : c < max_controllers
  pub room : (i + 1) * pair_words ≤ length rows
  pub laid : take (i * pair_words) rows ≡ pairs_words (rows_to nodes i states n c own)

-- the rows of node i
abbrev pub rows_at : List ℕ → ℕ → List ℕ → ℕ → ℕ → ℕ → Rows
rows_at nodes i states n c own = node_rows (trace_of states n c own) (rows_to nodes i states n c own) (node_of (get_or nodes i 0))
