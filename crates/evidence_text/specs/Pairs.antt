-- The lines of pairs in lent space, from the tables that they are pairs of.
use Rattle.std.specs.Prelude.{ℕ, ◌+◌, ◌/◌, ◌%◌, ◌<◌, ◌≤◌, List, [], ◌∷◌, ◌++◌, length, get_or}
use Rattle.definitions.specs.Limits.{max_rule_nodes, max_states, atom_count}
use Rattle.definitions.specs.Bounded.{bit_of, bit}
use Rattle.definitions.specs.Nodes.{node_of}
use Rattle.definitions.specs.Tables.{Rule}
use Rattle.definitions.specs.Recordings.{Recording}
use Rattle.definitions.specs.Evidence.{Found, found}
use Rattle.definitions.specs.Lines.{bytes, tab, newline}
use Rattle.definitions.specs.Why.{state_of_place, word_number, pair_text}
use Rattle.projection.specs.Places.{states_only, Countable}
use Rattle.judges.specs.declared.local.LocalTrace.{LocalTrace}
use Rattle.evidence_text.specs.declared.line.Line.{Line}

-- the longest line: the five words, nine tabs, byte 10, and digits of numbers below 1,000 (twice), 100, 10 and 100
abbrev pub max_pair_bytes : ℕ
max_pair_bytes = 40

-- the pair that a number in lent space is
abbrev pub pair_of : ℕ → Found
pair_of w = found (w % max_rule_nodes) (w / max_rule_nodes)

-- what is said of a pair, printed
abbrev pub line_text : Line → List ℕ
line_text l = pair_text l.state l.step l.atom l.value l.node

-- the part of a line that says where it was read
unfoldable pub place_text : Line → List ℕ
place_text l = word_number (bytes "state") l.state ++ (tab ∷ (word_number (bytes "step") l.step ++ (tab ∷ [])))

-- the part that says what was read there
unfoldable pub reading_text : Line → List ℕ
reading_text l =
    word_number (bytes "atom") l.atom ++ (tab ∷ (word_number (bytes "is") l.value ++ (tab ∷ (word_number (bytes "node") l.node ++ (newline ∷ [])))))

-- the line of a pair, of what it depends on: of an atom's node of an accepted rule and the local trace l of its controller, found_text R c ns f is pair_in r l R f
unfoldable pub pair_in : (r : Rule) (l : LocalTrace) (R : Recording) (f : Found) → List ℕ
pair_in r l R f =
    let a = (node_of (get_or r.nodes f.atom_node 0)).first in
    pair_text (state_of_place (states_only R.count R.states) l.controller f.place) f.place a (bit (bit_of (get_or l.words f.place 0) a)) f.atom_node

-- a line for each number
abbrev pub pairs_in : (r : Rule) (l : LocalTrace) (R : Recording) (ws : List ℕ) → List ℕ
pairs_in r l R [] = []
pairs_in r l R (w ∷ ws) = pair_in r l R (pair_of w) ++ pairs_in r l R ws

-- a number is a node of an atom and a place
pub record PairReady (r : Rule) (l : LocalTrace) (R : Recording) (w : ℕ) : Type 0 where
  pub recording : Countable R.count l.controller R.states
  pub node : w % max_rule_nodes < length r.nodes
  pub atom : (node_of (get_or r.nodes (w % max_rule_nodes) 0)).first < atom_count
  pub place : w / max_rule_nodes < length l.words
  pub few : w / max_rule_nodes < max_states

-- each of them is, and there is space for their lines
pub record PairsReady (r : Rule) (l : LocalTrace) (R : Recording) (pairs : List ℕ) (at : ℕ) (text : List ℕ) : Type 0 where
  pub each : (i : ℕ) → i < length pairs → PairReady r l R (get_or pairs i 0)
  pub room : at + length (pairs_in r l R pairs) ≤ length text
