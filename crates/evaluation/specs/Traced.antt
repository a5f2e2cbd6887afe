-- The trace that state words are: one trace serves both judges.
use Rattle.std.specs.Prelude.{ℕ, suc, ◌<◌, ◌≤◌, ◌-◌, ◌^◌, Bool, true, false, ◌≡◌, List, [], length, get_or, ltb}
use Rattle.definitions.specs.Limits.{atom_count, max_states, max_controllers}
use Rattle.definitions.specs.Bounded.{pick, tabulate, bit_of}
use Rattle.definitions.specs.Nodes.{Atom, Unknown}
use Rattle.definitions.specs.Recordings.{recording_of, runs_at}
use Rattle.definitions.specs.Projection.{end_at}
use Rattle.definitions.specs.Readings.{Trace, Rows}
use Rattle.rules.specs.Kinds.{kind_in, is_leaf}
use Rattle.rules.specs.declared.kind.Kind as code

-- atom a of state i: an atom outside `own` is foreign, weak yes and strong no at the last place
abbrev pub state_atom : List ℕ → ℕ → ℕ → ℕ → Bool → ℕ → Bool
state_atom states n own a weak i = pick (bit_of own a) (bit_of (get_or states i 0) a) (pick (ltb (suc i) n) (bit_of (get_or states i 0) a) weak)

-- c runs in state i of the n: a mark in the last one is no run
abbrev pub state_run : List ℕ → ℕ → ℕ → ℕ → Bool
state_run states n c i = runs_at (recording_of 0 n [] states) c i

-- the trace of the first n states, for controller c that owns the atoms of `own`
abbrev pub trace_of : List ℕ → ℕ → ℕ → ℕ → Trace
trace_of states n c own = record {
  places = n;
  atom = state_atom states n own;
  run = state_run states n c;
  end = end_at (state_run states n c) n;
}

-- the mask of all 32 atoms: over the whole recording none is foreign
abbrev pub every_atom : ℕ
every_atom = 2 ^ atom_count - 1

-- the rows of atom a
abbrev pub atom_rows : List ℕ → ℕ → ℕ → ℕ → Rows
atom_rows states n own a = record { weak = tabulate n (state_atom states n own a true); strong = tabulate n (state_atom states n own a false) }

-- what a leaf's rows are gathered from
pub record Gathered (states : List ℕ) (n : ℕ) : Type 0 where
  pub few : n ≤ max_states
  pub there : n ≤ length states

-- a leaf with its states
pub record LeafReady (kind : code.Kind) (a : ℕ) (states : List ℕ) (n c : ℕ) : Type 0 where
  pub leaf : is_leaf (kind_in kind) ≡ true
  pub known : kind_in kind ≡ Unknown → ⊥
  pub atom : kind_in kind ≡ Atom → a < atom_count
  pub few : n ≤ max_states
  pub there : n ≤ length states
  pub controller : c < max_controllers
