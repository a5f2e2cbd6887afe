-- "Number 9 is no longer given", and "Number 12 therefore can't happen" (document 02): no operation answers either, on any tables or texts.
use mathlib.Core.Path.{◌≡◌, refl}
use Prim.Native.Nat.{ℕ, zero, suc, ◌+◌}
use mathlib.Core.Bool.{Bool, true, false, ◌||◌}
use mathlib.Core.List.{List, [], ◌∷◌}
use lib.Dec.{eqb}
use borrow.Author.Tests.{eqb-false}
use Rattle.definitions.specs.Limits.{accepted, rule_form, rule_limits, rule_operand, rule_lines, recording_form, recording_limits, masks_meet, recording_lines, output_rule, no_controller, lent_short, line_form, brackets_deep, second_gauge, gauge_bit_set}
use Rattle.definitions.specs.Bounded.{pick, or_else}
use Rattle.definitions.specs.Nodes.{Node, node_of}
use Rattle.definitions.specs.Tables.{Rule, Table, node_refusal, nodes_refusal, rule_heading_refusal, rule_refusal, tops_refusal, table_refusal}
use Rattle.definitions.specs.Recordings.{Recording, recording_refusal, controller_refusal}
use Rattle.definitions.specs.Lines.{Parsed, formed, malformed, on_parsed}
use Rattle.definitions.specs.RuleText.{scan_rule}
use Rattle.definitions.specs.RecordingText.{scan_recording, scan_plain, joint_number}
use Rattle.definitions.specs.Archive.{scan_archive}
use Rattle.definitions.specs.Operations.{read_rule_number, write_rule_number, read_recording_number, read_joint_number, project_number, judge_local_number, evidence_number, rewrite_number, judge_recording_number, to_archive_number, from_archive_number}
use Rattle.definitions.specs.OneLineSigns.{Sign}
use Rattle.definitions.specs.OneLineGrammar.{Tree}
use Rattle.definitions.specs.OneLineReading.{signs_of, tree_of}
use Rattle.definitions.specs.OneLine.{sentence_refusal, line_refusal, read_line_number}
use Rattle.theorems.proofs.Choice.{both_false}
use Rattle.theorems.proofs.TextNumbers.{rule_text_number, recording_text_number}
use Rattle.theorems.proofs.RefusalBounds.{pick_of, or_else_of, recording_number}
use Rattle.theorems.proofs.OpeningReads.{plain_number, archive_number}

-- neither of the two numbers
pub record Given (number : ℕ) : Type 0 where
  pub not_nine : number ≡ 9 → ⊥
  pub not_twelve : number ≡ 12 → ⊥

given : (n : ℕ) → (eqb n 9 || eqb n 12) ≡ false → Given n
given n e = let p = both_false (eqb n 9) (eqb n 12) e in record { not_nine = eqb-false n 9 p.0; not_twelve = eqb-false n 12 p.1 }

either_given : (z : Bool) (a b : ℕ) → Given a → Given b → Given (pick z a b)
either_given z a b p q = pick_of Given z a b p q

first_given : (a b : ℕ) → Given a → Given b → Given (or_else a b)
first_given a b p q = or_else_of Given a b p q

-- ---- tables
node_given : (rewritten : Bool) (i : ℕ) (n : Node) → Given (node_refusal rewritten i n)
unfolding node_refusal
node_given rewritten i n =
    let two = given rule_limits refl in
    either_given _ rule_limits _ two (either_given _ rule_limits _ two (either_given _ rule_limits _ two (either_given _ rule_limits _ two (either_given _ rule_operand accepted (given rule_operand refl) (given accepted refl)))))

nodes_given : (rewritten : Bool) (i remaining : ℕ) (ws : List ℕ) → Given (nodes_refusal rewritten i remaining ws)
unfolding nodes_refusal
nodes_given rewritten i zero ws = given accepted refl
nodes_given rewritten i (suc remaining) [] = given rule_lines refl
nodes_given rewritten i (suc remaining) (w ∷ ws) = first_given _ _ (node_given rewritten i (node_of w)) (nodes_given rewritten (i + 1) remaining ws)

rule_heading_given : (controller count : ℕ) → Given (rule_heading_refusal controller count)
unfolding rule_heading_refusal
rule_heading_given controller count = either_given _ accepted rule_limits (given accepted refl) (given rule_limits refl)

rule_given : (r : Rule) → Given (rule_refusal r)
unfolding rule_refusal
rule_given r = first_given _ _ (rule_heading_given r.controller r.count) (nodes_given false 0 r.count r.nodes)

table_given : (t : Table) → Given (table_refusal t)
unfolding table_refusal tops_refusal
table_given t =
    let limits : (z : Bool) → Given (pick z accepted rule_limits) = λ z. either_given z accepted rule_limits (given accepted refl) (given rule_limits refl) in
    first_given _ _ (limits _) (first_given _ _ (nodes_given true 0 t.count t.nodes) (limits _))

recording_given : (R : Recording) → Given (recording_refusal R)
recording_given = recording_number Given (given accepted refl) (given recording_limits refl) (given output_rule refl) (given masks_meet refl) (given recording_lines refl)

controller_given : (C c : ℕ) → Given (controller_refusal C c)
unfolding controller_refusal
controller_given C c = either_given _ accepted no_controller (given accepted refl) (given no_controller refl)

-- ---- texts
scanned_rule : (t : List ℕ) → Given (scan_rule t).number
scanned_rule =
    rule_text_number Given (given accepted refl) (given rule_form refl) (given rule_limits refl) (given rule_operand refl) (given rule_lines refl)

scanned_recording : (t : List ℕ) → Given (scan_recording t).number
scanned_recording =
    recording_text_number Given (given accepted refl) (given recording_form refl) (given recording_limits refl) (given masks_meet refl) (given recording_lines refl)
    (given output_rule refl) (given second_gauge refl) (given gauge_bit_set refl)

joint_given : (rule recording : List ℕ) → Given (joint_number rule recording)
unfolding joint_number
joint_given rule recording = either_given _ _ _ (either_given _ _ _ (controller_given _ _) (scanned_recording recording)) (scanned_rule rule)

-- ---- a rule in one line
parsed_given : {A : Type 0} (p : Parsed A) (other : ℕ) (f : A → ℕ) → Given other → ((a : A) → Given (f a)) → Given (on_parsed p other f)
unfolding on_parsed
parsed_given (formed a) other f o g = g a
parsed_given malformed other f o g = o

sentence_given : (controller : ℕ) (s : List Sign) (t : Tree) → Given (sentence_refusal controller s t)
unfolding sentence_refusal
sentence_given controller s t = either_given _ brackets_deep _ (given brackets_deep refl) (either_given _ rule_limits accepted (given rule_limits refl) (given accepted refl))

one_line_given : (controller : ℕ) (line : List ℕ) → Given (line_refusal controller line)
unfolding line_refusal
one_line_given controller line =
    let form = given line_form refl in
    either_given _ line_form _ form (parsed_given (signs_of line) line_form _ form (λ s. parsed_given (tree_of s) line_form _ form (sentence_given controller s)))

-- ---- archive texts
plain_given : (t : List ℕ) → Given (scan_plain t).number
plain_given = plain_number Given (given accepted refl) (given recording_form refl) (given recording_limits refl) (given masks_meet refl) (given recording_lines refl) (given output_rule refl)

archive_given : (t : List ℕ) → Given (scan_archive t).number
archive_given = archive_number Given (given accepted refl) (given recording_form refl) (given recording_limits refl) (given masks_meet refl) (given recording_lines refl) (given output_rule refl)

-- ---- the thirteen operations on texts and tables: whatever tables, texts and lent space they get, the number that they answer is neither
lent_given : (z : Bool) (number : ℕ) → Given number → Given (pick z lent_short number)
lent_given z number g = either_given z lent_short number (given lent_short refl) g

pub record NeitherAnswered : Type 0 where
  pub read_rule : (text nodes : List ℕ) → Given (read_rule_number text nodes)
  pub write_rule : (r : Rule) (text : List ℕ) → Given (write_rule_number r text)
  pub read_recording : (text masks states : List ℕ) → Given (read_recording_number text masks states)
  pub read_joint : (rule recording nodes masks states : List ℕ) → Given (read_joint_number rule recording nodes masks states)
  pub project : (R : Recording) (c : ℕ) (places : List ℕ) → Given (project_number R c places)
  pub judge_local : (r : Rule) (R : Recording) → Given (judge_local_number r R)
  pub evidence : (r : Rule) (R : Recording) (pairs : List ℕ) → Given (evidence_number r R pairs)
  -- plain and short
  pub rewrite : (r : Rule) (table : List ℕ) → Given (rewrite_number r table)
  pub judge_recording : (t : Table) (R : Recording) (c : ℕ) (rows : List ℕ) → Given (judge_recording_number t R c rows)
  pub read_line : (controller : ℕ) (line nodes : List ℕ) → Given (read_line_number controller line nodes)
  pub to_archive : (text archive : List ℕ) → Given (to_archive_number text archive)
  pub from_archive : (archive text : List ℕ) → Given (from_archive_number archive text)

pub nine_and_twelve_are_never_answered : NeitherAnswered
unfolding read_rule_number write_rule_number read_recording_number read_joint_number project_number judge_local_number evidence_number rewrite_number judge_recording_number read_line_number to_archive_number from_archive_number
nine_and_twelve_are_never_answered =
    let rack : (R : Recording) (c : ℕ) → Given (or_else (recording_refusal R) (controller_refusal R.controllers c))
    = λ R c. first_given _ _ (recording_given R) (controller_given R.controllers c) in
    let both : (r : Rule) (R : Recording) → Given (or_else (rule_refusal r) (or_else (recording_refusal R) (controller_refusal R.controllers r.controller)))
    = λ r R. first_given _ _ (rule_given r) (rack R r.controller) in
    record {
      read_rule = λ text ns. lent_given _ _ (scanned_rule text);
      write_rule = λ r text. lent_given _ _ (rule_given r);
      read_recording = λ text masks states. lent_given _ _ (scanned_recording text);
      read_joint = λ r R ns masks states. lent_given _ _ (joint_given r R);
      project = λ R c places. lent_given _ _ (rack R c);
      judge_local = both;
      evidence = λ r R pairs. lent_given _ _ (both r R);
      rewrite = λ r t. lent_given _ _ (rule_given r);
      judge_recording = λ t R c rows. lent_given _ _ (first_given _ _ (table_given t) (rack R c));
      read_line = λ c l ns. lent_given _ _ (one_line_given c l);
      to_archive = λ text archive. lent_given _ _ (plain_given text);
      from_archive = λ archive text. lent_given _ _ (archive_given archive);
    }
