-- The pairs in lent space, from the rows of places at which the nodes are found.
use Rattle.std.specs.Prelude.{◌≡◌, Bool, List, ◌++◌, map, ℕ, ◌+◌, ◌*◌, ◌/◌, ◌%◌, ◌<◌, ◌≤◌, length, take, drop, get_or}
use Rattle.definitions.specs.Limits.{accepted, max_states, max_rule_nodes, max_pairs, word_marks}
use Rattle.definitions.specs.Bounded.{bit_of}
use Rattle.definitions.specs.Evidence.{Found, found_at, found_from, pair_word}
use Rattle.definitions.specs.Operations.{left}
use Rattle.definitions.specs.Tables.{Rule}
use Rattle.judges.specs.declared.local.LocalTrace.{LocalTrace}
use Rattle.rows.specs.Stored.{words_of_row}
use Rattle.evidence.specs.Finding.{NodeReady}

-- node j's mark at place k
unfoldable pub found_in : (found : List ℕ) (j k : ℕ) → Bool
found_in found j k = bit_of (get_or found (j * words_of_row + k / word_marks) 0) (k % word_marks)

-- space for all the pairs of one more place
pub record PlaceReady (count k : ℕ) (found : List ℕ) (from : ℕ) (pairs : List ℕ) : Type 0 where
  pub few : count ≤ max_rule_nodes
  pub below : k < max_states
  pub rows : count * words_of_row ≤ length found
  pub room : from + count ≤ max_pairs
  pub full : max_pairs ≤ length pairs

-- those of place k stand behind the first `from`, which are kept; what is lent past the full size is as it was
pub record PlaceLaid (count k : ℕ) (found : List ℕ) (from : ℕ) (entry : List ℕ) (end : ℕ) (exit : List ℕ) : Type 0 where
  pub laid : take end exit ≡ take from entry ++ map pair_word (found_at (found_in found) count 0 k)
  pub few : end ≤ from + count
  pub past : drop max_pairs exit ≡ drop max_pairs entry

-- space for the pairs of n places
pub record PlacesReady (count n : ℕ) (found pairs : List ℕ) : Type 0 where
  pub few : count ≤ max_rule_nodes
  pub places : n ≤ max_states
  pub rows : count * words_of_row ≤ length found
  pub full : max_pairs ≤ length pairs

-- they stand at the front; what is lent past the full size is as it was
pub record PlacesLaid (count n : ℕ) (found entry : List ℕ) (end : ℕ) (exit : List ℕ) : Type 0 where
  pub laid : take end exit ≡ map pair_word (found_from (found_in found) count n 0)
  pub few : end ≤ max_pairs
  pub past : drop max_pairs exit ≡ drop max_pairs entry

-- the nodes of an accepted rule with their wanted places, and lent pairs of full size
pub record PairsReady (r : Rule) (l : LocalTrace) (wanted pairs : List ℕ) : Type 0 where
  pub ready : (j : ℕ) → j < r.count → NodeReady r l wanted j
  pub few : r.count ≤ max_rule_nodes
  pub places : l.count ≤ max_states
  pub full : max_pairs ≤ length pairs

-- how many they are, and the lent pairs
pub record PairsLaid (fs : List Found) (entry : List ℕ) (end : ℕ) (exit : List ℕ) : Type 0 where
  pub counted : end ≡ length fs
  pub laid : exit ≡ left accepted max_pairs (map pair_word fs) entry
