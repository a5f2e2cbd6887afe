-- Trials of document 02's recordings that stop in mid step: "the last state may carry run marks. They mean a step whose result isn't there."
use mathlib.Core.Path.{◌≡◌, refl}
use Prim.Native.Nat.{ℕ}
use Prim.Native.String.{String}
use mathlib.Core.List.{List, [], ◌∷◌, ◌++◌}
use lib.ListN.{replicate}
use Rattle.definitions.specs.Limits.{max_controllers, max_states, max_row_words}
use Rattle.definitions.specs.Nodes.{Atom, Next, Run, End, node, node_word}
use Rattle.definitions.specs.Recordings.{Recording, recording_of, recording_refusal, state_of}
use Rattle.definitions.specs.Lines.{bytes}
use Rattle.definitions.specs.Projection.{local_trace}
use Rattle.definitions.specs.Operations.{answer, project_answer, project_places, judge_recording_answer, read_recording_states}
use Rattle.definitions.specs.Program.{program_output}
use Rattle.definitions.proofs.Samples.{computed, recorded, R, rule, yes, no, judged, agreed}

-- R with both marks in its last state, and one state with the mark of its only controller
abbrev mid_r : Recording
mid_r = recorded (1 ∷ 2 ∷ []) (state_of 1 2 ∷ state_of 2 3 ∷ state_of 1 1 ∷ state_of 2 0 ∷ state_of 3 2 ∷ [])

abbrev mid_z : Recording
mid_z = recorded (1 ∷ []) (state_of 1 0 ∷ [])

-- "a mark in the last state is read as no run: by projection, by `end`, by run in a rewritten rule; the state as read still holds it"
pub record MidStep : Type 0 where
  -- "Number 9 is no longer given"
  pub accepted : recording_refusal mid_r ≡ 0
  pub one_state : recording_refusal mid_z ≡ 0
  -- a mark at C or above is refused there too
  pub mark_at_count : recording_refusal (recorded (1 ∷ []) (state_of 2 0 ∷ [])) ≡ 6
  -- by projection, for both controllers of R
  pub places : local_trace mid_r 0 ≡ local_trace R 0
  pub places_of_other : local_trace mid_r 1 ≡ local_trace R 1
  pub one_place : project_answer mid_z 0 (replicate max_states 0) ≡ answer 0 (1 ∷ [])
  -- next at the last place, and a foreign atom there, rewritten too
  pub next_at_last : judged (rule (node Atom 0 0 ∷ node Next 0 0 ∷ node Next 1 0 ∷ node Next 2 0 ∷ [])) mid_r ≡ agreed yes no 50 46
  pub foreign_atom : judged (rule (node Atom 1 0 ∷ [])) mid_z ≡ agreed yes no 24 24
  -- run and end themselves, over the whole recording
  pub run_and_end : judge_recording_answer (record { count = 2; nodes = node_word (node Run 0 0) ∷ node_word (node End 0 0) ∷ []; weak_top = 0; strong_top = 1 }) mid_z 0
      (replicate max_row_words 0) ≡ answer 0 (no ∷ yes ∷ [])
  -- the last state is that of the declared N, where more states are there: state 2 of R, with the mark of controller 0
  pub lowered_length : project_answer (recording_of 2 3 (1 ∷ 2 ∷ []) R.states) 0 (replicate max_states 0) ≡ answer 0 (2 ∷ [])
  pub lowered : project_places (recording_of 2 3 (1 ∷ 2 ∷ []) R.states) 0 (replicate 129 7) ≡ 2 ∷ 1 ∷ (replicate 126 0 ++ (7 ∷ []))
  -- "the state as read still holds it"
  pub still_held : read_recording_states (bytes "recording\t1\t1\nowns\t00000001\nat\t01\t00000000\n") (replicate max_controllers 7) (replicate 129 7)
      ≡ state_of 1 0 ∷ (replicate 127 0 ++ (7 ∷ []))

mid_step : MidStep
unfolding computed
mid_step = record {
  accepted = refl;
  one_state = refl;
  mark_at_count = refl;
  places = refl;
  places_of_other = refl;
  one_place = refl;
  next_at_last = refl;
  foreign_atom = refl;
  run_and_end = refl;
  lowered_length = refl;
  lowered = refl;
  still_held = refl;
}

-- what the program prints of a recording text after the rule of document 01's example
abbrev of_example : String → List ℕ
of_example recording = program_output (bytes "rule\t0\t9\natom\t1\nnot\t0\natom\t0\nnext\t2\nor\t1\t3\nnot\t4\ntrue\nuntil\t6\t5\nnot\t7\n-\n" ++ bytes recording)

-- the example's verdicts and counts, after so many places
abbrev at_places : String → List ℕ
at_places places = bytes places ++ bytes "own\tyes\tno\nplain\t55\tyes\tno\nshort\t43\tyes\tno\n"

-- "Every beginning of an accepted recording, of one state or more and with N lowered, is then accepted itself": of the example, at each length
pub record Beginnings : Type 0 where
  pub one : of_example "recording\t2\t1\nowns\t00000001\nowns\t00000002\nat\t01\t00000002\n" ≡ at_places "local\t1\n"
  pub two : of_example "recording\t2\t2\nowns\t00000001\nowns\t00000002\nat\t01\t00000002\nat\t02\t00000003\n" ≡ at_places "local\t2\n"
  pub three : of_example "recording\t2\t3\nowns\t00000001\nowns\t00000002\nat\t01\t00000002\nat\t02\t00000003\nat\t01\t00000001\n" ≡ at_places "local\t2\n"
  pub four : of_example "recording\t2\t4\nowns\t00000001\nowns\t00000002\nat\t01\t00000002\nat\t02\t00000003\nat\t01\t00000001\nat\t02\t00000000\n" ≡ at_places "local\t3\n"
  -- the example itself, with both marks put into its last state
  pub marked : of_example "recording\t2\t5\nowns\t00000001\nowns\t00000002\nat\t01\t00000002\nat\t02\t00000003\nat\t01\t00000001\nat\t02\t00000000\nat\t03\t00000002\n" ≡ at_places "local\t3\n"

beginnings : Beginnings
unfolding computed
beginnings = record { one = refl; two = refl; three = refl; four = refl; marked = refl }
