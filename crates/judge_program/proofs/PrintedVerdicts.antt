-- Demand 3 for those who read what the program prints, from its contract: the same two verdicts in each of its lines, and the same lines for every
-- input with this rule, local trace and own mask.
use mathlib.Core.Path.{◌≡◌, sym, ap, ◌∙◌}
use Prim.Native.Nat.{ℕ, ◌≤◌}
use mathlib.Core.Bool.{Bool, true, false}
use mathlib.Core.List.{List}
use lib.ListN.{length}
use Rattle.definitions.specs.Limits.{max_input_bytes}
use Rattle.definitions.specs.Tables.{Rule, nodes_in}
use Rattle.definitions.specs.Recordings.{mask_of}
use Rattle.definitions.specs.Projection.{local_trace}
use Rattle.definitions.specs.Readings.{local_verdicts}
use Rattle.definitions.specs.Rewriting.{rewriting}
use Rattle.definitions.specs.RecordingText.{joint_number}
use Rattle.definitions.specs.Program.{rule_text_in, recording_text_in}
use Rattle.judge_program.proofs.PrintedEarly.{answer_lines, rule_of_text, recording_of_text, prints, Printed, printed_is}

-- an accepted input, and what the program printed of it
pub record Judged (input printed : List ℕ) : Type 0 where
  pub short : length input ≤ max_input_bytes
  pub accepted : joint_number (rule_text_in input) (recording_text_in input) ≡ 0
  pub run : Printed input printed

-- the rule of an input, and of its recording the own mask and the local trace of the rule's controller
abbrev pub rule_read : (input : List ℕ) → Rule
rule_read input = rule_of_text (rule_text_in input)

abbrev pub own_mask : (input : List ℕ) → ℕ
own_mask input = mask_of (recording_of_text (recording_text_in input)) (rule_read input).controller

abbrev pub own_trace : (input : List ℕ) → List ℕ
own_trace input = local_trace (recording_of_text (recording_text_in input)) (rule_read input).controller

-- the answer of a rule on a local trace, for an own mask: its places, the node counts of both rewritings, and in each of the lines `own`, `plain` and
-- `short` the verdicts of the rule on that local trace
abbrev pub one_pair : (r : Rule) (mask : ℕ) (places : List ℕ) → List ℕ
one_pair r mask places =
    let ns = nodes_in r.count r.nodes in
    let count : Bool → ℕ = λ short. length (rewriting short mask ns).nodes in
    answer_lines (length places) (count false) (count true) (local_verdicts ns mask places)

-- Whatever input is accepted, the verdicts that the program prints for the plain table and for the short one are those that it prints for the rule on
-- its own local trace.
pub printed_one_pair : (input printed : List ℕ) → Judged input printed → printed ≡ one_pair (rule_read input) (own_mask input) (own_trace input)
printed_one_pair input printed j = printed_is input printed j.short j.run ∙ prints (rule_text_in input) (recording_text_in input) j.accepted

-- Of any two accepted inputs with the same rule, and with the same local trace and own mask of its controller, the program prints the same: all six
-- verdicts, and the places and node counts before them.
pub printed_schedule_independence : (input input' printed printed' : List ℕ) → Judged input printed → Judged input' printed' →
    rule_read input ≡ rule_read input' → own_trace input ≡ own_trace input' → own_mask input ≡ own_mask input' → printed ≡ printed'
printed_schedule_independence input input' printed printed' j j' rule places mask =
    printed_one_pair input printed j
    ∙ (ap (λ (r : Rule). one_pair r (own_mask input) (own_trace input)) rule
    ∙ (ap (λ (m : ℕ). one_pair (rule_read input') m (own_trace input)) mask
    ∙ (ap (one_pair (rule_read input') (own_mask input')) places ∙ sym (printed_one_pair input' printed' j'))))
