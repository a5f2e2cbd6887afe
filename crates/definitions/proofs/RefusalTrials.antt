-- Trials of "Where a refusal is met", of the order of refusals, and of what is left in lent space.
use mathlib.Core.Path.{◌≡◌, refl}
use Prim.Native.Nat.{ℕ}
use Prim.Native.String.{String}
use mathlib.Core.Bool.{true}
use mathlib.Core.List.{List, [], ◌∷◌, ◌++◌}
use lib.ListN.{drop, replicate}
use Rattle.definitions.specs.Limits.{max_controllers, max_states, max_rule_nodes, max_row_words}
use Rattle.definitions.specs.Nodes.{True, Not, node, node_word}
use Rattle.definitions.specs.Tables.{rule_of, table_of, rule_refusal, table_refusal}
use Rattle.definitions.specs.Recordings.{recording_of, recording_refusal, state_of}
use Rattle.definitions.specs.Lines.{bytes}
use Rattle.definitions.specs.RecordingText.{empty_start}
use Rattle.definitions.specs.Operations.{read_rule_number, read_rule_nodes, write_rule_number, write_rule_text, read_recording_number, read_recording_masks, read_recording_states, read_joint_number, read_joint_part}
use Rattle.definitions.specs.Operations.{answer, project_number, project_answer, project_places, judge_local_answer, rewrite_number, rewrite_table, judge_recording_number, judge_recording_answer, judge_recording_rows}
use Rattle.definitions.specs.Program.{program_output}
use Rattle.definitions.proofs.Samples.{computed, recorded, R, still, Z, rule_for, rule}

-- what the program prints of a recording text after the rule `true`
abbrev after_true : String → List ℕ
after_true recording = program_output (bytes "rule\t0\t1\ntrue\n-\n" ++ bytes recording)

-- the lines of a text, by the program, with the refused line
pub record RefusedLines : Type 0 where
  -- "1 not closed by byte 10, or not of its form (after an unknown kind word any fields without byte 13 do)"
  pub unclosed_node : program_output (bytes "rule\t0\t1\ntrue") ≡ bytes "refused\t1\ttrue\n"
  pub field_too_many : program_output (bytes "rule\t0\t1\ntrue\t0\n-\n") ≡ bytes "refused\t1\ttrue\t0\n"
  -- 2: "an unknown kind, run or end in a rule"
  pub unknown_kind : program_output (bytes "rule\t0\t1\nuntill\t0 0\n-\n") ≡ bytes "refused\t2\tuntill\t0 0\n"
  pub run_in_rule : program_output (bytes "rule\t0\t1\nrun\n-\n") ≡ bytes "refused\t2\trun\n"
  -- "4 a line missing or one too many"
  pub node_too_many : program_output (bytes "rule\t0\t1\ntrue\ntrue\n-\n") ≡ bytes "refused\t4\ttrue\n"
  -- "5 not closed by byte 10, or not of its form"
  pub unclosed_heading : after_true "recording\t1\t1" ≡ bytes "refused\t5\trecording\t1\t1\n"
  pub short_mask : after_true "recording\t1\t1\nowns\t1\nat\t00\t00000000\n" ≡ bytes "refused\t5\towns\t1\n"
  pub upper_case : after_true "recording\t1\t1\nowns\t00000001\nat\t00\t0000000A\n" ≡ bytes "refused\t5\tat\t00\t0000000A\n"
  -- "6 a number outside its limits, a run mark at C or above"
  pub controllers12 : after_true "recording\t12\t1\n" ≡ bytes "refused\t6\trecording\t12\t1\n"
  pub mark_at_count : after_true "recording\t1\t1\nowns\t00000001\nat\t02\t00000000\n" ≡ bytes "refused\t6\tat\t02\t00000000\n"
  -- "7 mask meets an earlier mask"
  pub masks_meet : after_true "recording\t3\t1\nowns\t00000001\nowns\t00000002\nowns\t00000005\n" ≡ bytes "refused\t7\towns\t00000005\n"
  -- "10 output rule broken by the state before": "the refused line" is the later state's
  pub output_broken : after_true "recording\t1\t2\nowns\t00000001\nat\t00\t00000000\nat\t00\t00000001\n" ≡ bytes "refused\t10\tat\t00\t00000001\n"
  -- "Number 9 is no longer given" (document 02): a run mark in the last state
  pub last_mark : after_true "recording\t1\t1\nowns\t00000001\nat\t01\t00000000\n" ≡ bytes "local\t1\nown\tyes\tyes\nplain\t20\tyes\tyes\nshort\t12\tyes\tyes\n"
  -- "8 a line missing or one too many"
  pub state_missing : after_true "recording\t1\t2\nowns\t00000001\nat\t00\t00000000\n" ≡ bytes "refused\t8\t\n"
  -- "for 11 the rule's first line"
  pub joining : program_output (bytes "rule\t1\t1\ntrue\n-\nrecording\t1\t1\nowns\t00000001\nat\t00\t00000000\n") ≡ bytes "refused\t11\trule\t1\t1\n"

refused_lines : RefusedLines
unfolding computed
refused_lines = record {
  unclosed_node = refl;
  field_too_many = refl;
  unknown_kind = refl;
  run_in_rule = refl;
  node_too_many = refl;
  unclosed_heading = refl;
  short_mask = refl;
  upper_case = refl;
  controllers12 = refl;
  mark_at_count = refl;
  masks_meet = refl;
  output_broken = refl;
  last_mark = refl;
  state_missing = refl;
  joining = refl;
}

-- "Operations on tables check them by the same rows"
pub record RefusedTables : Type 0 where
  -- 6 from both sides of the limits of C and N, and a run mark at C
  pub controllers0 : recording_refusal (recorded [] (0 ∷ [])) ≡ 6
  pub controllers11 : recording_refusal (recorded (replicate 11 0) (0 ∷ [])) ≡ 0
  pub controllers12 : recording_refusal (recorded (replicate 12 0) (0 ∷ [])) ≡ 6
  pub states0 : recording_refusal (recorded (1 ∷ []) []) ≡ 6
  pub mark_at_count : recording_refusal (recorded (1 ∷ 2 ∷ []) (state_of 4 0 ∷ [])) ≡ 6
  -- 7, not only of neighbours
  pub masks_meet : recording_refusal (recorded (1 ∷ 2 ∷ 5 ∷ []) (0 ∷ [])) ≡ 7
  -- 10 of a controller that doesn't run, none of one that runs, and foreign atoms change freely
  pub output_broken : recording_refusal (recorded (1 ∷ 2 ∷ []) (state_of 1 0 ∷ state_of 0 2 ∷ [])) ≡ 10
  pub output_of_step : recording_refusal (recorded (1 ∷ 2 ∷ []) (state_of 2 0 ∷ state_of 0 6 ∷ [])) ≡ 0
  -- the order 6, 10
  pub output_first : recording_refusal (recorded (1 ∷ []) (state_of 0 0 ∷ state_of 1 1 ∷ [])) ≡ 10
  pub mark_first : recording_refusal (recorded (1 ∷ []) (state_of 0 0 ∷ state_of 2 1 ∷ [])) ≡ 6
  -- "an unused operand not 0", the second or both, and before 3 in the same node
  pub unused_second : rule_refusal (rule (node True 0 0 ∷ node Not 0 1 ∷ [])) ≡ 2
  pub unused_both : rule_refusal (rule (node True 1 0 ∷ [])) ≡ 2
  pub unused_first : rule_refusal (rule (node Not 0 1 ∷ [])) ≡ 2
  -- "A table, or masks or states, with fewer entries than its count has a line missing": 4, and 8
  pub nodes_few : rule_refusal (rule_of 0 2 (0 ∷ [])) ≡ 4
  pub table_few : table_refusal (table_of 2 (0 ∷ []) 0 0) ≡ 4
  pub masks_few : recording_refusal (recording_of 2 1 (1 ∷ []) (0 ∷ [])) ≡ 8
  pub states_few : recording_refusal (recording_of 1 2 (1 ∷ []) (0 ∷ [])) ≡ 8
  -- each after what is wrong in the entries that are there
  pub nodes_few_late : rule_refusal (rule_of 0 2 (node_word (node Not 0 0) ∷ [])) ≡ 3
  pub states_few_late : recording_refusal (recording_of 1 2 (1 ∷ []) (state_of 2 0 ∷ [])) ≡ 6
  -- "A top not below the count is 2, tested after the nodes and 4"
  pub weak_top : table_refusal (table_of 1 (0 ∷ []) 1 0) ≡ 2
  pub strong_top : table_refusal (table_of 1 (0 ∷ []) 0 1) ≡ 2
  pub nodes_before_tops : table_refusal (table_of 1 (node_word (node Not 0 0) ∷ []) 1 1) ≡ 3
  pub lines_before_tops : table_refusal (table_of 2 (0 ∷ []) 2 2) ≡ 4
  -- "The judge's table may hold 1,024 nodes"
  pub nodes1024 : table_refusal (table_of 1024 (replicate 1024 0) 1023 1023) ≡ 0
  pub nodes1025 : table_refusal (table_of 1025 (replicate 1025 0) 0 0) ≡ 2
  -- 11 of each operation that takes a controller
  pub projected : project_answer R 2 (replicate max_states 0) ≡ answer 11 []
  pub judged_locally : judge_local_answer (rule_for 2 (node True 0 0 ∷ [])) R ≡ answer 11 []
  pub judged_whole : judge_recording_answer (record { count = 1; nodes = 0 ∷ []; weak_top = 0; strong_top = 0 }) R 2 (replicate max_row_words 0) ≡ answer 11 []

refused_tables : RefusedTables
unfolding computed
refused_tables = record {
  controllers0 = refl;
  controllers11 = refl;
  controllers12 = refl;
  states0 = refl;
  mark_at_count = refl;
  masks_meet = refl;
  output_broken = refl;
  output_of_step = refl;
  output_first = refl;
  mark_first = refl;
  unused_second = refl;
  unused_both = refl;
  unused_first = refl;
  nodes_few = refl;
  table_few = refl;
  masks_few = refl;
  states_few = refl;
  nodes_few_late = refl;
  states_few_late = refl;
  weak_top = refl;
  strong_top = refl;
  nodes_before_tops = refl;
  lines_before_tops = refl;
  nodes1024 = refl;
  nodes1025 = refl;
  projected = refl;
  judged_locally = refl;
  judged_whole = refl;
}

-- 13 comes before every other refusal, for each slice that is one entry short of its full size
pub record LentShort : Type 0 where
  pub rule_nodes : read_rule_number [] (replicate 63 7) ≡ 13
  pub rule_text : write_rule_number (rule []) (replicate 1023 7) ≡ 13
  pub masks : read_recording_number [] (replicate 10 7) (replicate max_states 7) ≡ 13
  pub states : read_recording_number [] (replicate max_controllers 7) (replicate 127 7) ≡ 13
  pub joint_nodes : read_joint_number [] [] (replicate 63 7) (replicate max_controllers 7) (replicate max_states 7) ≡ 13
  pub joint_masks : read_joint_number [] [] (replicate max_rule_nodes 7) (replicate 10 7) (replicate max_states 7) ≡ 13
  pub joint_states : read_joint_number [] [] (replicate max_rule_nodes 7) (replicate max_controllers 7) (replicate 127 7) ≡ 13
  pub places : project_number (recorded [] []) 0 (replicate 127 7) ≡ 13
  pub table : rewrite_number (rule []) (replicate 1023 7) ≡ 13
  pub rows : judge_recording_number (record { count = 0; nodes = []; weak_top = 0; strong_top = 0 }) Z 0 (replicate 6143 7) ≡ 13
  -- "for 13 the empty start of the rule text"
  pub part : read_joint_part [] [] [] [] [] ≡ empty_start

lent_short : LentShort
unfolding computed
lent_short = record {
  rule_nodes = refl;
  rule_text = refl;
  masks = refl;
  states = refl;
  joint_nodes = refl;
  joint_masks = refl;
  joint_states = refl;
  places = refl;
  table = refl;
  rows = refl;
  part = refl;
}

-- "After 13 lent space is untouched; after another refusal its full size is zero. Accepted, unused entries are zero. What is lent past the full
-- size is never touched": every entry was 7, and where it isn't short there is one entry more than the full size
pub record LeftInLentSpace : Type 0 where
  pub nodes_short : read_rule_nodes [] (replicate 63 7) ≡ replicate 63 7
  pub nodes_refused : read_rule_nodes [] (replicate 65 7) ≡ replicate 64 0 ++ (7 ∷ [])
  pub nodes_read : read_rule_nodes (bytes "rule\t0\t1\natom\t1\n") (replicate 65 7) ≡ 257 ∷ (replicate 63 0 ++ (7 ∷ []))
  -- nodes before the refused line are no exception
  pub nodes_read_in_vain : read_rule_nodes (bytes "rule\t0\t2\natom\t1\nnot\t1\n") (replicate 65 7) ≡ replicate 64 0 ++ (7 ∷ [])
  pub text_short : write_rule_text (rule (node True 0 0 ∷ [])) (replicate 1023 7) ≡ replicate 1023 7
  pub text_refused : write_rule_text (rule []) (replicate 1025 7) ≡ replicate 1024 0 ++ (7 ∷ [])
  pub text_written : write_rule_text (rule (node True 0 0 ∷ [])) (replicate 1025 7) ≡ bytes "rule\t0\t1\ntrue\n" ++ (replicate 1010 0 ++ (7 ∷ []))
  pub masks_short : read_recording_masks [] (replicate 10 7) (replicate 129 7) ≡ replicate 10 7
  pub masks_refused : read_recording_masks [] (replicate 12 7) (replicate 129 7) ≡ replicate 11 0 ++ (7 ∷ [])
  -- one short slice leaves the other untouched too
  pub states_short : read_recording_states [] (replicate 10 7) (replicate 129 7) ≡ replicate 129 7
  pub states_refused : read_recording_states [] (replicate 12 7) (replicate 129 7) ≡ replicate 128 0 ++ (7 ∷ [])
  pub places_short : project_places R 0 (replicate 127 7) ≡ replicate 127 7
  pub places_refused : project_places R 2 (replicate 129 7) ≡ replicate 128 0 ++ (7 ∷ [])
  -- the local traces of R: "whole word" at each place but the last; of a controller that never runs, state 0 "with own atoms only"
  pub places : project_places R 0 (replicate 129 7) ≡ 2 ∷ 1 ∷ 0 ∷ (replicate 125 0 ++ (7 ∷ []))
  pub places_of_other : project_places R 1 (replicate 129 7) ≡ 3 ∷ 0 ∷ 2 ∷ (replicate 125 0 ++ (7 ∷ []))
  pub place_of_still : project_places (still 3) 0 (replicate 129 7) ≡ 1 ∷ (replicate 127 0 ++ (7 ∷ []))
  pub table_short : rewrite_table true (rule (node True 0 0 ∷ [])) 0 (replicate 1023 7) ≡ replicate 1023 7
  pub table_refused : rewrite_table true (rule []) 0 (replicate 1025 7) ≡ replicate 1024 0 ++ (7 ∷ [])
  pub table_unused : drop 12 (rewrite_table true (rule (node True 0 0 ∷ [])) 0 (replicate 1025 7)) ≡ replicate 1012 0 ++ (7 ∷ [])
  pub rows_refused : judge_recording_rows (record { count = 0; nodes = []; weak_top = 0; strong_top = 0 }) Z 0 (replicate 6145 7) ≡ replicate 6144 0 ++ (7 ∷ [])
  -- "a weak and a strong row for each node": `true` over one state
  pub rows : judge_recording_rows (record { count = 1; nodes = 0 ∷ []; weak_top = 0; strong_top = 0 }) Z 0 (replicate 6145 7)
      ≡ 1 ∷ 0 ∷ 1 ∷ 1 ∷ 0 ∷ 1 ∷ (replicate 6138 0 ++ (7 ∷ []))

left_in_lent_space : LeftInLentSpace
unfolding computed
left_in_lent_space = record {
  nodes_short = refl;
  nodes_refused = refl;
  nodes_read = refl;
  nodes_read_in_vain = refl;
  text_short = refl;
  text_refused = refl;
  text_written = refl;
  masks_short = refl;
  masks_refused = refl;
  states_short = refl;
  states_refused = refl;
  places_short = refl;
  places_refused = refl;
  places = refl;
  places_of_other = refl;
  place_of_still = refl;
  table_short = refl;
  table_refused = refl;
  table_unused = refl;
  rows_refused = refl;
  rows = refl;
}
