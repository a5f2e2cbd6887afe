-- Trials of document 02's eleven controllers: "Make eleven the limit, and 10 the highest controller in a rule."
use mathlib.Core.Path.{◌≡◌, refl}
use Prim.Native.Nat.{ℕ, zero, suc}
use Prim.Native.String.{String}
use mathlib.Core.List.{List, [], ◌∷◌, ◌++◌}
use lib.ListN.{replicate}
use Rattle.definitions.specs.Limits.{max_rule_nodes, max_states}
use Rattle.definitions.specs.Nodes.{Atom, True, Next, node}
use Rattle.definitions.specs.Tables.{rule_refusal}
use Rattle.definitions.specs.Recordings.{Recording, recording_refusal, state_of}
use Rattle.definitions.specs.Projection.{local_trace}
use Rattle.definitions.specs.Lines.{bytes}
use Rattle.definitions.specs.RecordingText.{scan_recording}
use Rattle.definitions.specs.Operations.{read_recording_number, read_recording_masks, read_recording_states, read_joint_number, read_joint_masks}
use Rattle.definitions.specs.Program.{program_output}
use Rattle.definitions.proofs.Samples.{computed, recorded, rule_for, rule, yes, no, judged, agreed}

-- ---- texts
-- the lines `owns` of so many controllers, without own atoms
abbrev owns_lines : ℕ → List ℕ
owns_lines zero = []
owns_lines (suc n) = bytes "owns\t00000000\n" ++ owns_lines n

-- a recording text: its first line, so many lines `owns`, and the lines of its states
abbrev text : String → ℕ → String → List ℕ
text heading C states = bytes heading ++ (owns_lines C ++ bytes states)

-- its refusal
abbrev refusal : String → ℕ → String → ℕ
refusal heading C states = (scan_recording (text heading C states)).number

-- what the program prints of it after a rule `true`
abbrev prints : String → List ℕ → List ℕ
prints heading recording = program_output (bytes heading ++ (bytes "true\n-\n" ++ recording))

pub record ElevenInTexts : Type 0 where
  -- "Run marks are three hexadecimal digits where C is above 8 and two otherwise"
  pub all_marks : refusal "recording\t11\t1\n" 11 "at\t7ff\t00000000\n" ≡ 0
  pub mark_above_eleven : refusal "recording\t11\t1\n" 11 "at\t800\t00000000\n" ≡ 6
  pub two_digits_of_eleven : refusal "recording\t11\t1\n" 11 "at\t00\t00000000\n" ≡ 5
  pub three_digits_of_nine : refusal "recording\t9\t1\n" 9 "at\t1ff\t00000000\n" ≡ 0
  pub mark_above_nine : refusal "recording\t9\t1\n" 9 "at\t200\t00000000\n" ≡ 6
  pub two_digits_of_nine : refusal "recording\t9\t1\n" 9 "at\t00\t00000000\n" ≡ 5
  pub two_digits_of_eight : refusal "recording\t8\t1\n" 8 "at\tff\t00000000\n" ≡ 0
  pub three_digits_of_eight : refusal "recording\t8\t1\n" 8 "at\t000\t00000000\n" ≡ 5
  pub four_digits : refusal "recording\t11\t1\n" 11 "at\t0000\t00000000\n" ≡ 5
  -- "A recording with C of 12 is refused with 6"
  pub twelve : refusal "recording\t12\t1\n" 12 "at\t000\t00000000\n" ≡ 6
  -- "a held state has a mark bit for each of the eleven"
  pub held : read_recording_states (text "recording\t11\t1\n" 11 "at\t7ff\t00000001\n") (replicate 11 7) (replicate 128 7) ≡ state_of 2047 1 ∷ replicate 127 0
  -- "10 the highest controller in a rule"
  pub rule_of_ten : prints "rule\t10\t1\n" (text "recording\t11\t1\n" 11 "at\t000\t00000000\n") ≡ bytes "local\t1\nown\tyes\tyes\nplain\t20\tyes\tyes\nshort\t12\tyes\tyes\n"
  pub rule_of_eleven : prints "rule\t11\t1\n" (text "recording\t11\t1\n" 11 "at\t000\t00000000\n") ≡ bytes "refused\t2\trule\t11\t1\n"
  -- "11 rule's controller not below C"
  pub rule_of_ten_joined : prints "rule\t10\t1\n" (text "recording\t10\t1\n" 10 "at\t000\t00000000\n") ≡ bytes "refused\t11\trule\t10\t1\n"

eleven_in_texts : ElevenInTexts
unfolding computed
eleven_in_texts = record {
  all_marks = refl;
  mark_above_eleven = refl;
  two_digits_of_eleven = refl;
  three_digits_of_nine = refl;
  mark_above_nine = refl;
  two_digits_of_nine = refl;
  two_digits_of_eight = refl;
  three_digits_of_eight = refl;
  four_digits = refl;
  twelve = refl;
  held = refl;
  rule_of_ten = refl;
  rule_of_eleven = refl;
  rule_of_ten_joined = refl;
}

-- ---- tables
-- the masks of eleven controllers: controller c owns atom c
abbrev masks : List ℕ
masks = 1 ∷ 2 ∷ 4 ∷ 8 ∷ 16 ∷ 32 ∷ 64 ∷ 128 ∷ 256 ∷ 512 ∷ 1024 ∷ []

-- Two recordings in which controller 0 runs once, one of eight controllers and one of eleven, where controller 10 runs first: "Equality of verdicts
-- between recordings must hold between one of eight controllers and one of eleven"
abbrev eight : Recording
eight = recorded (1 ∷ 2 ∷ 4 ∷ 8 ∷ 16 ∷ 32 ∷ 64 ∷ 128 ∷ []) (state_of 1 1026 ∷ state_of 0 1027 ∷ [])

abbrev eleven : Recording
eleven = recorded masks (state_of 1024 2 ∷ state_of 1 1026 ∷ state_of 0 1027 ∷ [])

pub record ElevenInTables : Type 0 where
  pub rule_of_ten : rule_refusal (rule_for 10 (node True 0 0 ∷ [])) ≡ 0
  pub rule_of_eleven : rule_refusal (rule_for 11 (node True 0 0 ∷ [])) ≡ 2
  pub accepted : recording_refusal eleven ≡ 0
  pub twelve : recording_refusal (recorded (replicate 12 0) (0 ∷ [])) ≡ 6
  pub mark_above_eleven : recording_refusal (recorded masks (state_of 2048 0 ∷ [])) ≡ 6
  -- "mask meets an earlier mask", of controllers 8 and 10
  pub masks_meet : recording_refusal (recorded (1 ∷ 2 ∷ 4 ∷ 8 ∷ 16 ∷ 32 ∷ 64 ∷ 128 ∷ 256 ∷ 512 ∷ 256 ∷ []) (0 ∷ [])) ≡ 7
  -- "output rule broken by the state before", of controllers 8 and 10, and not of those that run
  pub output_of_eight : recording_refusal (recorded masks (state_of 1791 0 ∷ state_of 0 256 ∷ [])) ≡ 10
  pub output_of_ten : recording_refusal (recorded masks (state_of 1023 0 ∷ state_of 0 1024 ∷ [])) ≡ 10
  pub output_of_those_that_run : recording_refusal (recorded masks (state_of 1280 0 ∷ state_of 0 1280 ∷ [])) ≡ 0
  -- the local traces of controller 0, and of controller 10
  pub same_trace : local_trace eight 0 ≡ local_trace eleven 0
  pub of_ten : local_trace eleven 10 ≡ 2 ∷ 1024 ∷ []
  pub of_eight : judged (rule (node Atom 1 0 ∷ node Next 0 0 ∷ [])) eight ≡ agreed yes no 34 34
  pub of_eleven : judged (rule (node Atom 1 0 ∷ node Next 0 0 ∷ [])) eleven ≡ agreed yes no 34 34
  pub next_of_ten : judged (rule_for 10 (node Atom 10 0 ∷ node Next 0 0 ∷ [])) eleven ≡ agreed yes yes 30 26

eleven_in_tables : ElevenInTables
unfolding computed
eleven_in_tables = record {
  rule_of_ten = refl;
  rule_of_eleven = refl;
  accepted = refl;
  twelve = refl;
  mark_above_eleven = refl;
  masks_meet = refl;
  output_of_eight = refl;
  output_of_ten = refl;
  output_of_those_that_run = refl;
  same_trace = refl;
  of_ten = refl;
  of_eight = refl;
  of_eleven = refl;
  next_of_ten = refl;
}

-- ---- lent space: "The full size of lent mask space is eleven masks"
pub record ElevenMasksLent : Type 0 where
  pub eight : read_recording_number [] (replicate 8 7) (replicate max_states 7) ≡ 13
  pub ten : read_recording_number [] (replicate 10 7) (replicate max_states 7) ≡ 13
  pub eleven : read_recording_number [] (replicate 11 7) (replicate max_states 7) ≡ 8
  pub untouched : read_recording_masks [] (replicate 10 7) (replicate max_states 7) ≡ replicate 10 7
  pub zeroed : read_recording_masks [] (replicate 12 7) (replicate max_states 7) ≡ replicate 11 0 ++ (7 ∷ [])
  pub unused : read_recording_masks (bytes "recording\t1\t1\nowns\t00000005\nat\t00\t00000000\n") (replicate 12 7) (replicate max_states 7) ≡ 5 ∷ (replicate 10 0 ++ (7 ∷ []))
  pub joint_ten : read_joint_number [] [] (replicate max_rule_nodes 7) (replicate 10 7) (replicate max_states 7) ≡ 13
  pub joint_eleven : read_joint_number [] [] (replicate max_rule_nodes 7) (replicate 11 7) (replicate max_states 7) ≡ 4
  pub joint_zeroed : read_joint_masks [] [] (replicate max_rule_nodes 7) (replicate 12 7) (replicate max_states 7) ≡ replicate 11 0 ++ (7 ∷ [])

eleven_masks_lent : ElevenMasksLent
unfolding computed
eleven_masks_lent = record {
  eight = refl;
  ten = refl;
  eleven = refl;
  untouched = refl;
  zeroed = refl;
  unused = refl;
  joint_ten = refl;
  joint_eleven = refl;
  joint_zeroed = refl;
}
