-- The places of a local trace, in lent space.
use Rattle.std.specs.Prelude.{ℕ, ◌≤◌, ◌<◌, List, [], length}
use Rattle.definitions.specs.Limits.{max_states, atom_count}
use Rattle.definitions.specs.Recordings.{Recording, recording_of, word_at, runs_at}
use Rattle.definitions.specs.Projection.{run_states, places_of}

-- the recording of the N first states, for what depends on no mask
abbrev pub states_only : ℕ → List ℕ → Recording
states_only N states = recording_of 0 N [] states

-- the states in which c runs, of the N first
abbrev pub runs_in : ℕ → ℕ → List ℕ → List ℕ
runs_in N c states = run_states (runs_at (states_only N states) c) N

-- the local trace, of the parts of a recording that it depends on: local_trace R c is places_in R.count (maskOf R c) c R.states
unfoldable pub places_in : ℕ → ℕ → ℕ → List ℕ → List ℕ
places_in N mask c states = places_of (word_at (states_only N states)) mask (runs_in N c states)

-- what an accepted recording and a lent slice of full size give
pub record Projectable (N c : ℕ) (states places : List ℕ) : Type 0 where
  pub some_state : 0 < N
  pub few_states : N ≤ max_states
  pub all_there : N ≤ length states
  pub room : max_states ≤ length places
  pub controller : c < atom_count

-- what counting the run marks of a controller asks
pub record Countable (N c : ℕ) (states : List ℕ) : Type 0 where
  pub some_state : 0 < N
  pub few_states : N ≤ max_states
  pub all_there : N ≤ length states
  pub controller : c < atom_count
