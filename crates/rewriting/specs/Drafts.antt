-- The nodes of a rule in turn.
use Rattle.std.specs.Prelude.{Bool, false, List, [], map, ◌≡◌, ℕ, ◌+◌, ◌<◌, ◌≤◌, length}
use Rattle.definitions.specs.Limits.{accepted, max_rule_nodes, max_table_nodes}
use Rattle.definitions.specs.Nodes.{node_of}
use Rattle.definitions.specs.Tables.{nodes_refusal}
use Rattle.definitions.specs.Rewriting as table
use Rattle.definitions.specs.Rewriting.{opening, steps, last_image}
use Rattle.rewriting.specs.declared.drafts.Draft.{Draft}
use Rattle.images.specs.Emission.{Holds}
use Rattle.images.specs.Images.{meant}

-- what the check of a rule grants of its nodes
pub record Ruled (ws : List ℕ) : Type 0 where
  pub some : 0 < length ws
  pub few : length ws ≤ max_rule_nodes
  pub fine : nodes_refusal false 0 (length ws) ws ≡ accepted

-- the draft before the first of a rule's nodes
abbrev pub opened : table.Draft
opened = record { nodes = opening; images = [] }

-- the draft of a rule
abbrev pub draft_of : Bool → ℕ → List ℕ → table.Draft
draft_of short mask ws = steps short mask opened (map node_of ws)

-- the draft's nodes are in the table, and r tells their count and the last image; a closing has room
pub record Drawn (short : Bool) (mask : ℕ) (ws o : List ℕ) (r : Draft) (o' : List ℕ) : Type 0 where
  pub holds : Holds (draft_of short mask ws).nodes o r.at o'
  pub last : meant r.last ≡ last_image (draft_of short mask ws).images
  pub some : 0 < r.at
  pub low : r.at + 8 ≤ max_table_nodes
