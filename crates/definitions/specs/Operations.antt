-- "The operations" of document 01 and those of document 02: what each answers on any input, and what every lent slice holds afterwards.
use Rattle.std.specs.Prelude.{ℕ, ◌-◌, Bool, ◌||◌, List, [], ◌∷◌, ◌++◌, map, length, take, drop, get_or, replicate, eqb, ltb}
use Rattle.definitions.specs.Limits.{accepted, lent_short, max_rule_nodes, max_controllers, max_states, max_table_nodes, max_row_words, max_rule_bytes, max_pairs, max_archive_bytes}
use Rattle.definitions.specs.Bounded.{pick, or_else, bit}
use Rattle.definitions.specs.Nodes.{node_word}
use Rattle.definitions.specs.Tables.{Rule, Table, table_of, rule_refusal, table_refusal, nodes_in}
use Rattle.definitions.specs.Recordings.{Recording, recording_refusal, controller_refusal, mask_of}
use Rattle.definitions.specs.Projection.{local_trace}
use Rattle.definitions.specs.Readings.{whole, rows_of, Verdicts, verdicts, local_verdicts, pairs_words}
use Rattle.definitions.specs.Evidence.{Found, evidence, pair_word}
use Rattle.definitions.specs.Rewriting.{Rewritten, rewriting}
use Rattle.definitions.specs.RuleText.{scan_rule, rule_text}
use Rattle.definitions.specs.RecordingText.{scan_recording, scan_plain, Part, empty_start, joint_number, joint_part}
use Rattle.definitions.specs.Archive.{scan_archive, archived, restored}

-- what an operation answers: the refusal number or 0, and its values
pub record Answer : Type 0 where
  pub number : ℕ
  pub values : List ℕ

-- "A refusal carries its number alone"
unfoldable pub answer : (number : ℕ) (values : List ℕ) → Answer
answer number values = record { number = number; values = pick (eqb number accepted) values [] }

-- "shorter than its full size"
abbrev pub too_short : (full : ℕ) (entry : List ℕ) → Bool
too_short full entry = ltb (length entry) full

-- what a lent slice holds afterwards: "After 13 lent space is untouched; after another refusal its full size is zero.
-- Accepted, unused entries are zero. What is lent past the full size is never touched"
unfoldable pub left : (number full : ℕ) (content entry : List ℕ) → List ℕ
left number full content entry =
    pick (eqb number lent_short) entry
    (pick (eqb number accepted) (content ++ (replicate (full - length content) 0 ++ drop full entry)) (replicate full 0 ++ drop full entry))

-- "read a rule (controller, count, nodes)"
unfoldable pub read_rule_number : (text nodes : List ℕ) → ℕ
read_rule_number text nodes = pick (too_short max_rule_nodes nodes) lent_short (scan_rule text).number

-- its answer: controller and count
unfoldable pub read_rule_answer : (text nodes : List ℕ) → Answer
read_rule_answer text nodes = answer (read_rule_number text nodes) ((scan_rule text).controller ∷ (scan_rule text).count ∷ [])

-- its lent nodes
unfoldable pub read_rule_nodes : (text nodes : List ℕ) → List ℕ
read_rule_nodes text nodes = left (read_rule_number text nodes) max_rule_nodes (scan_rule text).words nodes

-- "write one (length, text)"
abbrev pub text_of : Rule → List ℕ
text_of r = rule_text r.controller r.count (take r.count r.nodes)

-- its refusal: 13, then the rule
unfoldable pub write_rule_number : (r : Rule) (text : List ℕ) → ℕ
write_rule_number r text = pick (too_short max_rule_bytes text) lent_short (rule_refusal r)

-- its answer: the length
unfoldable pub write_rule_answer : (r : Rule) (text : List ℕ) → Answer
write_rule_answer r text = answer (write_rule_number r text) (length (text_of r) ∷ [])

-- its lent text
unfoldable pub write_rule_text : (r : Rule) (text : List ℕ) → List ℕ
write_rule_text r text = left (write_rule_number r text) max_rule_bytes (text_of r) text

-- "read a recording (C, N, masks, states)"
unfoldable pub read_recording_number : (text masks states : List ℕ) → ℕ
read_recording_number text masks states =
    pick (too_short max_controllers masks || too_short max_states states) lent_short (scan_recording text).number

-- its answer: C and N
unfoldable pub read_recording_answer : (text masks states : List ℕ) → Answer
read_recording_answer text masks states =
    answer (read_recording_number text masks states) ((scan_recording text).controllers ∷ (scan_recording text).count ∷ [])

-- its lent masks
unfoldable pub read_recording_masks : (text masks states : List ℕ) → List ℕ
read_recording_masks text masks states = left (read_recording_number text masks states) max_controllers (scan_recording text).masks masks

-- its lent states
unfoldable pub read_recording_states : (text masks states : List ℕ) → List ℕ
read_recording_states text masks states = left (read_recording_number text masks states) max_states (scan_recording text).states states

-- "the joint reading": the number and, accepted, controller, node count, C and N; the three lent slices; the part handed back
unfoldable pub read_joint_number : (rule recording nodes masks states : List ℕ) → ℕ
read_joint_number rule recording nodes masks states =
    pick (too_short max_rule_nodes nodes || too_short max_controllers masks || too_short max_states states) lent_short (joint_number rule recording)

-- the heading: the number, then controller, node count, C and N, all zero on a refusal
unfoldable pub read_joint_heading : (rule recording nodes masks states : List ℕ) → List ℕ
read_joint_heading rule recording nodes masks states =
    read_joint_number rule recording nodes masks states
    ∷ pick (eqb (read_joint_number rule recording nodes masks states) accepted)
    ((scan_rule rule).controller ∷ (scan_rule rule).count ∷ (scan_recording recording).controllers ∷ (scan_recording recording).count ∷ [])
    (0 ∷ 0 ∷ 0 ∷ 0 ∷ [])

-- its lent nodes
unfoldable pub read_joint_nodes : (rule recording nodes masks states : List ℕ) → List ℕ
read_joint_nodes rule recording nodes masks states =
    left (read_joint_number rule recording nodes masks states) max_rule_nodes (scan_rule rule).words nodes

-- its lent masks
unfoldable pub read_joint_masks : (rule recording nodes masks states : List ℕ) → List ℕ
read_joint_masks rule recording nodes masks states =
    left (read_joint_number rule recording nodes masks states) max_controllers (scan_recording recording).masks masks

-- its lent states
unfoldable pub read_joint_states : (rule recording nodes masks states : List ℕ) → List ℕ
read_joint_states rule recording nodes masks states =
    left (read_joint_number rule recording nodes masks states) max_states (scan_recording recording).states states

-- "hands back the refused line itself": "for 13 the empty start of the rule text"
unfoldable pub read_joint_part : (rule recording nodes masks states : List ℕ) → Part
read_joint_part rule recording nodes masks states =
    pick (eqb (read_joint_number rule recording nodes masks states) lent_short) empty_start (joint_part rule recording)

-- "project (recording and c)": L and the places
unfoldable pub project_number : (R : Recording) (c : ℕ) (places : List ℕ) → ℕ
project_number R c places = pick (too_short max_states places) lent_short (or_else (recording_refusal R) (controller_refusal R.controllers c))

-- its answer: L
unfoldable pub project_answer : (R : Recording) (c : ℕ) (places : List ℕ) → Answer
project_answer R c places = answer (project_number R c places) (length (local_trace R c) ∷ [])

-- its lent places
unfoldable pub project_places : (R : Recording) (c : ℕ) (places : List ℕ) → List ℕ
project_places R c places = left (project_number R c places) max_states (local_trace R c) places

-- verdicts as values: the weak one, then the strong one
abbrev pub verdict_values : Verdicts → List ℕ
verdict_values v = bit v.weak ∷ bit v.strong ∷ []

-- "judge a rule on its local trace (rule and recording, for the rule's controller)"
unfoldable pub judge_local_number : (r : Rule) (R : Recording) → ℕ
judge_local_number r R = or_else (rule_refusal r) (or_else (recording_refusal R) (controller_refusal R.controllers r.controller))

-- its answer: the weak and the strong verdict
unfoldable pub judge_local_answer : (r : Rule) (R : Recording) → Answer
judge_local_answer r R =
    answer (judge_local_number r R)
    (verdict_values (local_verdicts (nodes_in r.count r.nodes) (mask_of R r.controller) (local_trace R r.controller)))

-- "the readings .. that decide the weak or the strong verdict, as chosen": "For a rule and a recording"
abbrev pub evidence_of : (r : Rule) (R : Recording) (weak : Bool) → List Found
evidence_of r R weak = evidence (mask_of R r.controller) (local_trace R r.controller) (nodes_in r.count r.nodes) weak

-- "Lent space for fewer than 8,192 pairs is refused with 13"; "checked as in judging on the local trace"
unfoldable pub evidence_number : (r : Rule) (R : Recording) (pairs : List ℕ) → ℕ
evidence_number r R pairs = pick (too_short max_pairs pairs) lent_short (judge_local_number r R)

-- its answer: how many pairs there are
unfoldable pub evidence_answer : (r : Rule) (R : Recording) (weak : Bool) (pairs : List ℕ) → Answer
evidence_answer r R weak pairs = answer (evidence_number r R pairs) (length (evidence_of r R weak) ∷ [])

-- its lent pairs
unfoldable pub evidence_pairs : (r : Rule) (R : Recording) (weak : Bool) (pairs : List ℕ) → List ℕ
evidence_pairs r R weak pairs = left (evidence_number r R pairs) max_pairs (map pair_word (evidence_of r R weak)) pairs

-- "rewrite plain or short (rule and own mask, any 32 bits)": node count and both tops, and the table
abbrev pub rewritten_of : (short : Bool) (r : Rule) (mask : ℕ) → Rewritten
rewritten_of short r mask = rewriting short mask (nodes_in r.count r.nodes)

-- its refusal: 13, then the rule
unfoldable pub rewrite_number : (r : Rule) (table : List ℕ) → ℕ
rewrite_number r table = pick (too_short max_table_nodes table) lent_short (rule_refusal r)

-- its answer: "node count and both tops"
unfoldable pub rewrite_answer : (short : Bool) (r : Rule) (mask : ℕ) (table : List ℕ) → Answer
rewrite_answer short r mask table =
    answer (rewrite_number r table)
    (length (rewritten_of short r mask).nodes ∷ (rewritten_of short r mask).weak_top ∷ (rewritten_of short r mask).strong_top ∷ [])

-- its lent table
unfoldable pub rewrite_table : (short : Bool) (r : Rule) (mask : ℕ) (table : List ℕ) → List ℕ
rewrite_table short r mask table =
    left (rewrite_number r table) max_table_nodes (map node_word (rewritten_of short r mask).nodes) table

-- "the table, count and tops that a rewriting answered"
abbrev pub answered_table : (short : Bool) (r : Rule) (mask : ℕ) (table : List ℕ) → Table
answered_table short r mask table =
    let values = (rewrite_answer short r mask table).values in
    table_of (get_or values 0 0) (rewrite_table short r mask table) (get_or values 1 0) (get_or values 2 0)

-- "judge the whole recording": the verdicts at the tops, and "a weak and a strong row for each node, the rest zero"
unfoldable pub judge_recording_number : (t : Table) (R : Recording) (c : ℕ) (rows : List ℕ) → ℕ
judge_recording_number t R c rows =
    pick (too_short max_row_words rows) lent_short (or_else (table_refusal t) (or_else (recording_refusal R) (controller_refusal R.controllers c)))

-- its answer: the weak and the strong verdict
unfoldable pub judge_recording_answer : (t : Table) (R : Recording) (c : ℕ) (rows : List ℕ) → Answer
judge_recording_answer t R c rows =
    answer (judge_recording_number t R c rows) (verdict_values (verdicts (whole R c) (nodes_in t.count t.nodes) t.weak_top t.strong_top))

-- its lent rows
unfoldable pub judge_recording_rows : (t : Table) (R : Recording) (c : ℕ) (rows : List ℕ) → List ℕ
judge_recording_rows t R c rows =
    left (judge_recording_number t R c rows) max_row_words (pairs_words (rows_of (whole R c) (nodes_in t.count t.nodes))) rows

-- "Rearrange a recording without gauges": "The full size of the lent space is 8,192 bytes either way, below it 13", then the recording's refusal
unfoldable pub to_archive_number : (text archive : List ℕ) → ℕ
to_archive_number text archive = pick (too_short max_archive_bytes archive) lent_short (scan_plain text).number

-- its answer: the length
unfoldable pub to_archive_answer : (text archive : List ℕ) → Answer
to_archive_answer text archive = answer (to_archive_number text archive) (length (archived text) ∷ [])

-- its lent archive text
unfoldable pub to_archive_text : (text archive : List ℕ) → List ℕ
to_archive_text text archive = left (to_archive_number text archive) max_archive_bytes (archived text) archive

-- "the inverse": 13, then "5, 6, 7, 8 or 10 as a recording would"
unfoldable pub from_archive_number : (archive text : List ℕ) → ℕ
from_archive_number archive text = pick (too_short max_archive_bytes text) lent_short (scan_archive archive).number

-- its answer: the length
unfoldable pub from_archive_answer : (archive text : List ℕ) → Answer
from_archive_answer archive text = answer (from_archive_number archive text) (length (restored archive) ∷ [])

-- its lent recording text
unfoldable pub from_archive_text : (archive text : List ℕ) → List ℕ
from_archive_text archive text = left (from_archive_number archive text) max_archive_bytes (restored archive) text
