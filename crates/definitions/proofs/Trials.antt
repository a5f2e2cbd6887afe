-- "Trials at the edges" of document 01 as theorems: the starred ones, more that catch its traps, and the program's example.
use mathlib.Core.Path.{◌≡◌, refl}
use mathlib.Core.Bool.{true}
use mathlib.Core.List.{[], ◌∷◌, ◌++◌}
use lib.ListN.{replicate}
use Rattle.definitions.specs.Limits.{max_states, max_table_nodes, max_row_words}
use Rattle.definitions.specs.Nodes.{True, Atom, Not, Next, Until, Prev, Since, node}
use Rattle.definitions.specs.Tables.{rule_refusal}
use Rattle.definitions.specs.Recordings.{recording_refusal}
use Rattle.definitions.specs.Lines.{bytes}
use Rattle.definitions.specs.Operations.{answer, answered_table, judge_recording_answer, project_answer}
use Rattle.definitions.specs.Program.{program_output}
use Rattle.definitions.proofs.Samples.{computed, recorded, R, still, Z, rule_for, rule, yes, no, judged, agreed, counts}

-- the trials marked *, as a group
pub record Starred : Type 0 where
  -- "R, next of atom 1: no, no; 34 nodes, plain and short"
  pub next_of_foreign : judged (rule (node Atom 1 0 ∷ node Next 0 0 ∷ [])) R ≡ agreed no no 34 34
  -- the same through the operations: the judge on what the rewriting answered, in lent space
  pub through_operations : judge_recording_answer (answered_table true (rule (node Atom 1 0 ∷ node Next 0 0 ∷ [])) 1 (replicate max_table_nodes 0)) R 0
      (replicate max_row_words 0) ≡ answer 0 (no ∷ no ∷ [])
  -- "R, prev of true: no, no"
  pub prev_of_true : judged (rule (node True 0 0 ∷ node Prev 0 0 ∷ [])) R ≡ agreed no no 30 22
  -- "Z, foreign atom: yes, no"
  pub foreign_atom : judged (rule (node Atom 1 0 ∷ [])) Z ≡ agreed yes no 24 24
  -- "Z, own atom: no, no"
  pub own_atom : judged (rule (node Atom 0 0 ∷ [])) Z ≡ agreed no no 20 12
  -- "Z, next of true: yes, no"
  pub next_of_true : judged (rule (node True 0 0 ∷ node Next 0 0 ∷ [])) Z ≡ agreed yes no 30 26
  -- "Z, local length 1"
  pub local_length : project_answer Z 0 (replicate max_states 0) ≡ answer 0 (1 ∷ [])
  -- "true alone: 20 plain, 12 short"
  pub true_alone : counts 1 (node True 0 0 ∷ []) ≡ 20 ∷ 12 ∷ []
  -- "Until of two own atoms: 32 and 19"
  pub until_of_own : counts 3 (node Atom 0 0 ∷ node Atom 1 0 ∷ node Until 0 1 ∷ []) ≡ 32 ∷ 19 ∷ []
  -- "Until of two foreign atoms: 40 and 32"
  pub until_of_foreign : counts 0 (node Atom 0 0 ∷ node Atom 1 0 ∷ node Until 0 1 ∷ []) ≡ 40 ∷ 32 ∷ []
  -- "Node 0 as `not 0`: 3"
  pub self_operand : rule_refusal (rule (node Not 0 0 ∷ [])) ≡ 3
  -- "`until 1 0` as node 2: accepted"
  pub earlier_operands : rule_refusal (rule (node True 0 0 ∷ node True 0 0 ∷ node Until 1 0 ∷ [])) ≡ 0

starred : Starred
unfolding computed
starred = record {
  next_of_foreign = refl;
  through_operations = refl;
  prev_of_true = refl;
  foreign_atom = refl;
  own_atom = refl;
  next_of_true = refl;
  local_length = refl;
  true_alone = refl;
  until_of_own = refl;
  until_of_foreign = refl;
  self_operand = refl;
  earlier_operands = refl;
}

-- trials that each catch one of "Traps", in each reading
pub record Traps : Type 0 where
  -- next at the last place, though the recording goes on
  pub next_at_last : judged (rule (node Atom 0 0 ∷ node Next 0 0 ∷ node Next 1 0 ∷ node Next 2 0 ∷ [])) R ≡ agreed yes no 50 46
  pub next_of_true_at_last : judged (rule (node True 0 0 ∷ node Next 0 0 ∷ node Next 1 0 ∷ node Next 2 0 ∷ [])) R ≡ agreed yes no 50 46
  -- next over the states in which the controller doesn't run
  pub next_of_not : judged (rule (node Atom 1 0 ∷ node Not 0 0 ∷ node Next 1 0 ∷ [])) R ≡ agreed yes yes 36 36
  -- prev over them: atom 1 one place back, at the next place; atom 0, which the neighbouring state has and that place hasn't
  pub prev_of_foreign : judged (rule (node Atom 1 0 ∷ node Prev 0 0 ∷ node Next 1 0 ∷ [])) R ≡ agreed yes yes 44 40
  pub prev_of_own : judged (rule (node Atom 0 0 ∷ node Prev 0 0 ∷ node Next 1 0 ∷ [])) R ≡ agreed no no 40 36
  -- since over them: the first operand fails between two places, the second holds before the first place only
  pub since_held : judged (rule (node Atom 1 0 ∷ node Not 0 0 ∷ node Since 1 0 ∷ node Next 2 0 ∷ [])) R ≡ agreed yes yes 46 46
  pub since_before : judged (rule_for 1 (node True 0 0 ∷ node Atom 0 0 ∷ node Not 1 0 ∷ node Since 0 2 ∷ [])) R ≡ agreed no no 37 37
  -- a foreign atom at the last place, though it is recorded there
  pub foreign_at_last : judged (rule (node Atom 1 0 ∷ [])) (still 2) ≡ agreed yes no 24 24
  -- the readings change places under a not
  pub not_of_foreign : judged (rule (node Atom 1 0 ∷ node Not 0 0 ∷ [])) Z ≡ agreed yes no 26 26
  -- a weak until of true and an own atom that never comes, and one whose first operand fails at once
  pub until_unmet : judged (rule (node True 0 0 ∷ node Atom 0 0 ∷ node Until 0 1 ∷ [])) Z ≡ agreed yes no 32 19
  pub until_failed : judged (rule (node Atom 0 0 ∷ node Until 0 0 ∷ [])) Z ≡ agreed no no 31 18

traps : Traps
unfolding computed
traps = record {
  next_at_last = refl;
  next_of_true_at_last = refl;
  next_of_not = refl;
  prev_of_foreign = refl;
  prev_of_own = refl;
  since_held = refl;
  since_before = refl;
  foreign_at_last = refl;
  not_of_foreign = refl;
  until_unmet = refl;
  until_failed = refl;
}

-- trials without a star that compute cheaply
pub record Unstarred : Type 0 where
  -- "64 nodes are accepted, 65 refused with 2"
  pub nodes64 : rule_refusal (rule (replicate 64 (node True 0 0))) ≡ 0
  pub nodes65 : rule_refusal (rule (replicate 65 (node True 0 0))) ≡ 2
  -- "128 states likewise, 129 refused with 6"
  pub states128 : recording_refusal (recorded (1 ∷ []) (replicate 128 0)) ≡ 0
  pub states129 : recording_refusal (recorded (1 ∷ []) (replicate 129 0)) ≡ 6
  -- "atom 31 and 32, accepted and 2"
  pub atom31 : rule_refusal (rule (node Atom 31 0 ∷ [])) ≡ 0
  pub atom32 : rule_refusal (rule (node Atom 32 0 ∷ [])) ≡ 2

unstarred : Unstarred
unfolding computed
unstarred = record { nodes64 = refl; nodes65 = refl; states128 = refl; states129 = refl; atom31 = refl; atom32 = refl }

-- texts and the program
pub record Printed : Type 0 where
  -- "empty rule text: 4"
  pub empty_rule : program_output [] ≡ bytes "refused\t4\t\n"
  pub self_operand_line : program_output (bytes "rule\t0\t1\nnot\t0\n-\n") ≡ bytes "refused\t3\tnot\t0\n"
  -- "Input, with a tab at each space" and "Output, tabs likewise"
  pub example : program_output (
      bytes "rule\t0\t9\natom\t1\nnot\t0\natom\t0\nnext\t2\nor\t1\t3\nnot\t4\ntrue\nuntil\t6\t5\nnot\t7\n-\n"
      ++ bytes "recording\t2\t5\nowns\t00000001\nowns\t00000002\nat\t01\t00000002\nat\t02\t00000003\nat\t01\t00000001\nat\t02\t00000000\nat\t00\t00000002\n"
      ) ≡ bytes "local\t3\nown\tyes\tno\nplain\t55\tyes\tno\nshort\t43\tyes\tno\n"

printed : Printed
unfolding computed
printed = record { empty_rule = refl; self_operand_line = refl; example = refl }
