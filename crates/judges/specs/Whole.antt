-- Judging the whole recording: what it asks where nothing is refused, what it answers, and what it leaves.
use Rattle.std.specs.Prelude.{List, [], ◌≡◌, ℕ, ◌<◌, ◌≤◌, length, Result}
use Rattle.definitions.specs.Limits.{accepted, max_states, max_controllers, max_row_words}
use Rattle.definitions.specs.Tables.{Table, table_refusal, nodes_in}
use Rattle.definitions.specs.Recordings.{Recording, recording_of}
use Rattle.definitions.specs.Readings.{Trace, whole, rows_of, pairs_words, verdicts}
use Rattle.definitions.specs.Operations.{left, judge_recording_answer, judge_recording_rows}
use Rattle.judges.specs.declared.verdicts.Verdicts.{Verdicts}
use Rattle.rules.specs.declared.refusal.Refusal.{Refusal}
use Rattle.judges.specs.Verdicts.{meant, answer_of}

-- the whole recording, of the parts of it that are read: whole R c is whole_in R.count R.states c
abbrev pub whole_in : ℕ → List ℕ → ℕ → Trace
whole_in n states c = whole (recording_of 0 n [] states) c

-- an accepted table, the states of an accepted recording that has the controller, and lent rows of full size
pub record WholeReady (t : Table) (n : ℕ) (states : List ℕ) (c : ℕ) (rows : List ℕ) : Type 0 where
  pub table : table_refusal t ≡ 0
  pub few : n ≤ max_states
  pub there : n ≤ length states
  pub controller : c < max_controllers
  pub full : max_row_words ≤ length rows

-- the verdicts at the tops, and "a weak and a strong row for each node, the rest zero"
pub record WholeVerdicts (t : Table) (n : ℕ) (states : List ℕ) (c : ℕ) (entry : List ℕ) (v : Verdicts) (exit : List ℕ) : Type 0 where
  pub verdicts : meant v ≡ verdicts (whole_in n states c) (nodes_in t.count t.nodes) t.weak_top t.strong_top
  pub rows : exit ≡ left accepted max_row_words (pairs_words (rows_of (whole_in n states c) (nodes_in t.count t.nodes))) entry

-- the whole answer, and the lent rows
pub record WholeJudged (t : Table) (R : Recording) (c : ℕ) (entry : List ℕ) (r : Result Verdicts Refusal) (exit : List ℕ) : Type 0 where
  pub answered : answer_of r ≡ judge_recording_answer t R c entry
  pub rows : exit ≡ judge_recording_rows t R c entry
