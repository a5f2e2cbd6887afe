-- What the trials share: the recordings R and Z of document 01, how a rule is judged on them, and what they compute through.
use Prim.Native.Nat.{ℕ}
use mathlib.Core.Bool.{Bool, true, false}
use mathlib.Core.List.{List, [], ◌∷◌, map}
use lib.ListN.{length, get_or, replicate}
use Rattle.definitions.specs.Limits.{max_table_nodes}
use Rattle.definitions.specs.Bounded.{pick, bit_of, or_else}
use Rattle.definitions.specs.Nodes.{Node, kind_of, node_word}
use Rattle.definitions.specs.Tables.{Rule, rule_of, node_refusal, nodes_refusal, rule_heading_refusal, rule_refusal, tops_refusal, table_refusal}
use Rattle.definitions.specs.Recordings.{Recording, state_of, mask_of, state_refusal, mask_refusal, masks_refusal, states_refusal, recording_heading_refusal, recording_lines_refusal, recording_refusal, controller_refusal, recording_of}
use Rattle.definitions.specs.Readings.{whole, verdict, verdicts, rows_of}
use Rattle.definitions.specs.Rewriting.{rewriting}
use Rattle.definitions.specs.Lines.{before, newline_next, is_return, line_length, with_newlines, on_parsed, decimal_on, decimal, hex_digit, hex_on, hexadecimal, same, letters, two_fields, worded, heading_form, digits_by, digits, on_next, next_line}
use Rattle.definitions.specs.RuleText.{word_kind, unknown_form, operands_form, node_form, scan_nodes, scan_rule, node_text, nodes_text, rule_text}
use Rattle.definitions.specs.Measures.{is_digit, decimals, hundredths, below_zero, measure, in_limits, hundredths_text, spelled}
use Rattle.definitions.specs.Gauges.{gauge_fields, gauge_form, among, gauge_refusal, values_after, any_outside, with_atom, finished_bit, finished_from, finished, any_set}
use Rattle.definitions.specs.RecordingText.{mark_digits, mask_form, state_form, word_and_values, measured_fields, at_form, finished_state, at_refusal, scan_masks, is_gauge, scan_gauges, scan_states, gauged_after_masks, after_masks, scan_opening, scan_recording, scan_plain, joint_number, joint_part}
use Rattle.definitions.specs.Operations.{answer, left, judge_local_number, judge_local_answer, verdict_values, rewritten_of, rewrite_number, rewrite_answer, rewrite_table, judge_recording_number, judge_recording_answer, judge_recording_rows, project_number, project_answer, project_places}
use Rattle.definitions.specs.Operations.{read_rule_number, read_rule_answer, read_rule_nodes, write_rule_number, write_rule_answer, write_rule_text, read_recording_number, read_recording_answer, read_recording_masks, read_recording_states}
use Rattle.definitions.specs.Operations.{read_joint_number, read_joint_heading, read_joint_nodes, read_joint_masks, read_joint_states, read_joint_part}
use Rattle.definitions.specs.Program.{rule_length, refused_text, local_text, own_text, rewritten_text, judged_text, texts_output, program_output}

-- what a trial computes through: `unfolding computed` opens all that this definition's own line names
unfoldable pub computed : Bool
unfolding pick bit_of or_else kind_of node_refusal nodes_refusal rule_heading_refusal rule_refusal tops_refusal table_refusal state_refusal mask_refusal masks_refusal states_refusal recording_heading_refusal recording_lines_refusal recording_refusal verdict rows_of rewriting answer left controller_refusal judge_local_number judge_local_answer rewrite_number rewrite_answer rewrite_table judge_recording_number judge_recording_answer judge_recording_rows project_number project_answer project_places before newline_next is_return line_length with_newlines on_parsed decimal_on decimal hex_digit hex_on hexadecimal same letters two_fields worded heading_form digits_by digits on_next next_line word_kind unknown_form operands_form node_form scan_nodes scan_rule node_text nodes_text rule_text is_digit decimals hundredths below_zero measure in_limits hundredths_text spelled gauge_fields gauge_form among gauge_refusal values_after any_outside with_atom finished_bit finished_from finished any_set mark_digits mask_form state_form word_and_values measured_fields at_form finished_state at_refusal scan_masks is_gauge scan_gauges scan_states gauged_after_masks after_masks scan_opening scan_recording scan_plain joint_number joint_part read_rule_number read_rule_answer read_rule_nodes write_rule_number write_rule_answer write_rule_text read_recording_number read_recording_answer read_recording_masks read_recording_states read_joint_number read_joint_heading read_joint_nodes read_joint_masks read_joint_states read_joint_part rule_length refused_text local_text own_text rewritten_text judged_text texts_output program_output
computed = true

-- a recording of as many states as are given
abbrev pub recorded : List ℕ → List ℕ → Recording
recorded masks states = recording_of (length masks) (length states) masks states

-- "R is that recording, controller 0"
abbrev pub R : Recording
R = recorded (1 ∷ 2 ∷ []) (state_of 1 2 ∷ state_of 2 3 ∷ state_of 1 1 ∷ state_of 2 0 ∷ state_of 0 2 ∷ [])

-- one state of a word, no run, C 1, mask 00000001
abbrev pub still : ℕ → Recording
still word = recorded (1 ∷ []) (state_of 0 word ∷ [])

-- "Z is one state, word 0, no run, C 1, mask 00000001, so atom 0 is own and atom 1 foreign"
abbrev pub Z : Recording
Z = still 0

-- a rule of controller c
abbrev pub rule_for : ℕ → List Node → Rule
rule_for c ns = rule_of c (length ns) (map node_word ns)

-- a rule of controller 0
abbrev pub rule : List Node → Rule
rule ns = rule_for 0 ns

abbrev pub yes : ℕ
yes = 1

abbrev pub no : ℕ
no = 0

-- what a rule gets: weak and strong on its local trace; node count, weak and strong over the whole recording, plain and short
pub record Judged : Type 0 where
  pub own : List ℕ
  pub plain : List ℕ
  pub short : List ℕ

abbrev pub rewritten : Bool → Rule → Recording → List ℕ
rewritten short r M =
    let w = rewritten_of short r (mask_of M r.controller) in
    length w.nodes ∷ verdict_values (verdicts (whole M r.controller) w.nodes w.weak_top w.strong_top)

abbrev pub judged : Rule → Recording → Judged
judged r M = record { own = (judge_local_answer r M).values; plain = rewritten false r M; short = rewritten true r M }

-- the same verdicts all three times, with a node count each for plain and short
abbrev pub agreed : ℕ → ℕ → ℕ → ℕ → Judged
agreed weak strong plain short = record { own = weak ∷ strong ∷ []; plain = plain ∷ weak ∷ strong ∷ []; short = short ∷ weak ∷ strong ∷ [] }

-- the node counts, plain and short, for an own mask
abbrev pub counts : ℕ → List Node → List ℕ
counts mask ns =
    get_or (rewrite_answer false (rule ns) mask (replicate max_table_nodes 0)).values 0 0
    ∷ get_or (rewrite_answer true (rule ns) mask (replicate max_table_nodes 0)).values 0 0
    ∷ []
