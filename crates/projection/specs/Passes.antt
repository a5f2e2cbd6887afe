-- What a pass over the states of a recording holds: its local trace.
use Rattle.std.specs.Prelude.{◌≡◌, ℕ, ◌+◌, ◌-◌, ◌≤◌, ◌<◌, List, [], ◌∷◌, ◌++◌, length, take, drop}
use Rattle.definitions.specs.Limits.{max_states, atom_count}
use Rattle.definitions.specs.Bounded.{tabulate}
use Rattle.definitions.specs.Recordings.{Recording, first_states, state_at, runs_at, mask_of}
use Rattle.definitions.specs.Projection.{local_trace}
use Rattle.lent.specs.Space.{laid}
use Rattle.mark_words.specs.Marks.{yes_marks}
use Rattle.rows.specs.Marks.{marks, Whole, Made}
use Rattle.projection.specs.declared.pass.Pass.{Pass}

-- after the states of S, over lent places that were `entry`: the places before the last one, and its word, are the local trace. The row has the
-- runs in the states before the last, their number is that of these places, and what was lent past the last place is there still
pub record Holds (S : Recording) (c : ℕ) (entry : List ℕ) (p : Pass) (places : List ℕ) : Type 0 where
  pub some : 0 < S.count
  pub row : Made p.run (S.count - 1) (tabulate (S.count - 1) (runs_at S c))
  pub placed : p.placed ≡ yes_marks (marks p.run)
  pub last : p.last ≡ state_at S (S.count - 1)
  pub trace : take p.placed places ++ (p.own ∷ []) ≡ local_trace S c
  pub rest : drop (p.placed + 1) places ≡ drop (p.placed + 1) entry

-- what taking one state more asks: bounds
pub record Ready (c : ℕ) (p : Pass) (places : List ℕ) : Type 0 where
  pub controller : c < atom_count
  pub whole : Whole p.run
  pub more : p.run.count < max_states
  pub few : p.placed ≤ p.run.count
  pub room : max_states ≤ length places

-- after the first N of these states: of every recording that has them, and this mask of c, the local trace of the first N
pub record Passed (N mask c : ℕ) (states entry : List ℕ) (p : Pass) (places : List ℕ) : Type 0 where
  pub whole : Whole p.run
  pub below : p.placed < length places
  pub holds : (R : Recording) → R.states ≡ states → mask_of R c ≡ mask → Holds (first_states N R) c entry p places

-- all places of the local trace are laid
pub record Closed (p : Pass) (before after : List ℕ) : Type 0 where
  pub places : (S : Recording) (c : ℕ) (entry : List ℕ) → Holds S c entry p before → after ≡ laid (local_trace S c) entry

-- r is the local length
pub record Counted (p : Pass) (r : ℕ) : Type 0 where
  pub long : (S : Recording) (c : ℕ) (entry places : List ℕ) → Holds S c entry p places → r ≡ length (local_trace S c)
