-- Lent space of the joint reading: its full size, and zeros past what is used of it.
use Rattle.std.specs.Prelude.{◌≡◌, ℕ, ◌≤◌, Bool, ◌||◌, List, length}
use Rattle.definitions.specs.Limits.{max_rule_nodes, max_controllers, max_states}
use Rattle.definitions.specs.Operations.{too_short}
use Rattle.lent.specs.Space.{cleared}

-- lent space of full size
pub record Room (nodes masks states : List ℕ) : Type 0 where
  pub nodes_room : max_rule_nodes ≤ length nodes
  pub masks_room : max_controllers ≤ length masks
  pub states_room : max_states ≤ length states

-- "any of it .. shorter than its full size"
unfoldable pub is_short : List ℕ → List ℕ → List ℕ → Bool
is_short nodes masks states = too_short max_rule_nodes nodes || too_short max_controllers masks || too_short max_states states

-- what zeroing asks of its caller: full size, and counts within it
pub record Clearable (count C N : ℕ) (nodes masks states : List ℕ) : Type 0 where
  pub room : Room nodes masks states
  pub count_fits : count ≤ max_rule_nodes
  pub controllers_fit : C ≤ max_controllers
  pub states_fit : N ≤ max_states

-- lent space is zero from its used entries to its full size
pub record Cleared (count C N : ℕ) (nodes masks states nodes' masks' states' : List ℕ) : Type 0 where
  pub nodes_cleared : nodes' ≡ cleared nodes count max_rule_nodes
  pub masks_cleared : masks' ≡ cleared masks C max_controllers
  pub states_cleared : states' ≡ cleared states N max_states
