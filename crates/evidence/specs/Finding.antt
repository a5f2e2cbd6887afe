-- Which nodes are found at which places, from the wanted places in lent space.
use Rattle.std.specs.Prelude.{Bool, ◌&&◌, ◌||◌, List, ℕ, suc, ◌+◌, ◌*◌, ◌<◌, ◌≤◌, ltb, length, get_or}
use Rattle.definitions.specs.Limits.{max_states, pair_words}
use Rattle.definitions.specs.Bounded.{bit_of, tabulate}
use Rattle.definitions.specs.Nodes.{Node, node_of}
use Rattle.definitions.specs.Tables.{Rule, is_atom}
use Rattle.definitions.specs.Readings.{Rows}
use Rattle.definitions.specs.Evidence.{Found, found_from}
use Rattle.judges.specs.declared.local.LocalTrace.{LocalTrace}
use Rattle.mark_words.specs.Marks.{mark_at}
use Rattle.rows.specs.Marks.{Made}
use Rattle.rows.specs.Stored.{row_at, words_of_row}
use Rattle.rules.specs.Kinds.{Fit}
use Rattle.rows.specs.Pairs.{rows_in, PairMade, pair_of_node}

-- node x, wanted at the places of the rows r, is found at place k: `decides` of the definitions over rows
abbrev pub found_by : (x : Node) (own n : ℕ) (r : Rows) (k : ℕ) → Bool
found_by x own n r k = is_atom x.kind && ((bit_of own x.first || ltb (suc k) n) && (mark_at r.weak k || mark_at r.strong k))

-- the places at which node j is found
unfoldable pub places_of : (r : Rule) (l : LocalTrace) (wanted : List ℕ) (j k : ℕ) → Bool
places_of r l wanted j k = found_by (node_of (get_or r.nodes j 0)) l.mask l.count (rows_in (pair_of_node wanted j)) k

-- the pairs of all nodes and places
abbrev pub pairs_of : (r : Rule) (l : LocalTrace) (wanted : List ℕ) → List Found
pairs_of r l wanted = found_from (places_of r l wanted) r.count l.count 0

-- node j of an accepted rule, with whole rows of wanted places
pub record NodeReady (r : Rule) (l : LocalTrace) (wanted : List ℕ) (j : ℕ) : Type 0 where
  pub counted : j < length r.nodes
  pub fit : Fit j (node_of (get_or r.nodes j 0))
  pub few : l.count ≤ max_states
  pub room : j * pair_words + pair_words ≤ length wanted
  pub pair : PairMade (pair_of_node wanted j) l.count (rows_in (pair_of_node wanted j))

-- all nodes, and space for a row of each
pub record Findable (r : Rule) (l : LocalTrace) (wanted found : List ℕ) : Type 0 where
  pub ready : (j : ℕ) → j < r.count → NodeReady r l wanted j
  pub room : r.count * words_of_row ≤ length found

-- a row for each node
pub record FoundRows (r : Rule) (l : LocalTrace) (wanted exit : List ℕ) : Type 0 where
  pub rows : (j : ℕ) → j < r.count → Made (row_at exit (j * words_of_row)) l.count (tabulate l.count (places_of r l wanted j))
