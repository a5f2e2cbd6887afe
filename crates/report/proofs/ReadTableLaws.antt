-- Laws of reading two texts into tables, or printing their refusal.
use mathlib.Core.Path.{◌≡◌, refl, ap, sym, ◌∙◌}
use mathlib.Core.Bool.{Bool, true, false}
use mathlib.Core.List.{List, [], ◌∷◌}
use Prim.Native.Nat.{ℕ, ◌≤◌}
use native.Mathlib.Omega.{arith}
use lib.Dec.{eqb}
use lib.ListN.{length, take, drop, get_or, length-take, length-drop}
use lib.Seq.{take_at}
use borrow.Author.Rules.{rules}
use borrow.Author.Tests.{ne_eqb, le-ltb}
use Rattle.std.specs.Prelude.{Ok, Err}
use Rattle.definitions.specs.Limits.{accepted, lent_short, no_controller, max_input_bytes, max_rule_nodes, max_controllers, max_states}
use Rattle.definitions.specs.Bounded.{pick}
use Rattle.definitions.specs.Tables.{Rule, rule_of}
use Rattle.definitions.specs.RuleText.{scan_rule}
use Rattle.definitions.specs.Recordings.{Recording, controller_refusal}
use Rattle.definitions.specs.RecordingText.{scan_recording, Part, joint_number, joint_part}
use Rattle.definitions.specs.Operations.{left, read_joint_number, read_joint_heading, read_joint_nodes, read_joint_masks, read_joint_states, read_joint_part}
use Rattle.definitions.specs.Program.{refused_text, bytes_of, scanned}
use Rattle.theorems.proofs.LentSpace.{left_accepted}
use Rattle.theorems.proofs.RefusalBounds.{pick_of}
use Rattle.theorems.proofs.TextNumbers.{recording_of_text_lem}
use Rattle.theorems.proofs.RoundTrips.{read_count, read_accepted}
use Rattle.theorems.proofs.RuleNodes.{rule_few}
use Rattle.theorems.proofs.RecordingLaws.{checked}
use Rattle.rules.specs.Handed.{rule_in}
use Rattle.rules.specs.Refusals.{number_of, refusal_in}
use Rattle.rules.specs.declared.refusal.Refusal.{Refusal}
use Rattle.rules.proofs.RefusalLaws.{number_some}
use Rattle.recordings.specs.Heading.{recording_in}
use Rattle.rule_reader.proofs.ReadLaws.{rule_low}
use Rattle.joint_reading.specs.Scanning.{part_of}
use Rattle.joint_reading.specs.Joining.{heading_of, Joined}
use Rattle.joint_reading.specs.declared.scan.Joined as scan
use Rattle.joint_reading.specs.declared.scan.Found.{Found}
use Rattle.joint_reading.proofs.JoinLaws.{part_inside_lem, part_bytes}
use Rattle.printing.specs.Printing.{Printed}
use Rattle.report.proofs.ReportLaws.{refused_length}
use Rattle.report.proofs.RecordingAccepted.{TextsAccepted, texts_accepted, recording_fine, masks_count_lem, states_count_lem}
use Rattle.report.specs.ReadTables.{Within, ReadIs, TextsRoom, RefusedTexts, AcceptedTexts}
use Rattle.report.specs.declared.read.Read.{Read}

-- ---- the number of a joint reading
-- not 13, which is for lent space alone
pub not_lent : (rule recording : List ℕ) → joint_number rule recording ≡ lent_short → ⊥
unfolding joint_number controller_refusal
not_lent rule recording =
    let r = recording_of_text_lem recording in
    pick_of NotLent _ _ _
    (pick_of NotLent _ _ _
    (pick_of NotLent _ accepted no_controller (λ q. omega arith) (λ q. omega arith))
    r.not_lent)
    (λ q. omega (arith, rule_low rule))
  where
    NotLent : ℕ → Type 0
    NotLent n = n ≡ lent_short → ⊥

-- ---- the tables of accepted texts, in lent space of full size
held : (full count : ℕ) (words entry exit : List ℕ) → length words ≡ count → exit ≡ left 0 full words entry → take count exit ≡ words
held full count words entry exit c e = rw (e, left_accepted full words entry) (take_at words _ count c)

-- ---- `read_tables`
module _ (x y nodes masks states nodes' masks' states' text : List ℕ) (f : Found) (j : Joined x y nodes masks states f nodes' masks' states') (room : TextsRoom x y text)
    (nodes_room : length nodes ≡ max_rule_nodes) (masks_room : length masks ≡ max_controllers) (states_room : length states ≡ max_states) where
  abbrev R : ℕ
  R = joint_number x y

  number_is : read_joint_number x y nodes masks states ≡ R
  unfolding read_joint_number pick
  number_is =
      rw (le-ltb (length nodes) max_rule_nodes (omega arith), le-ltb (length masks) max_controllers (omega arith), le-ltb (length states) max_states (omega arith))

  heading_is : heading_of f ≡ R ∷ pick (eqb R accepted)
      ((scan_rule x).controller ∷ (scan_rule x).count ∷ (scan_recording y).controllers ∷ (scan_recording y).count ∷ [])
      (0 ∷ 0 ∷ 0 ∷ 0 ∷ [])
  unfolding read_joint_heading
  heading_is = j.heading ∙ rw number_is

  first_is : refusal_in f.read ≡ R
  first_is = ap (λ (l : List ℕ). get_or l 0 0) heading_is

  -- refused
  module _ (e : Refusal) (z : f.read ≡ Err e) where
    refusal_is : number_of e ≡ R
    refusal_is = rw z at first_is

    part_is : part_of f ≡ joint_part x y
    unfolding read_joint_part pick
    part_is = j.part ∙ rw (number_is, ne_eqb R lent_short (not_lent x y))

    chosen_length : (b : Bool) → length (pick b x y) ≤ max_input_bytes
    unfolding pick
    chosen_length true = room.rule_fits
    chosen_length false = room.recording_fits

    module _ (line : List ℕ) (is : line ≡ bytes_of x y (part_of f)) where
      line_fits : length line ≤ max_input_bytes
      line_fits =
          let p : Part = part_of f in
          rw is (omega (arith, length-take p.count (drop p.from (pick p.of_rule x y)), length-drop p.from (pick p.of_rule x y), chosen_length p.of_rule))

      pub refusal_room : length (refused_text (number_of e) line) ≤ length text
      refusal_room = omega (arith, room.text_room, refused_length e line line_fits)

      -- `read_tables`, refused: the number and the line printed are those of the joint reading
      pub refusal_read : (k : ℕ) (text' : List ℕ) → Printed (refused_text (number_of e) line) text 0 k text' → RefusedTexts x y text k text'
      refusal_read k text' p = record { refused = λ n. number_some e (refusal_is ∙ n); printed = rw (← part_is, ← is, ← refusal_is) p }

  -- accepted
  module _ (joined : scan.Joined) (z : f.read ≡ Ok joined) where
    accepts : R ≡ 0
    accepts = sym (rw z at first_is)

    texts : TextsAccepted x y
    texts = texts_accepted x y accepts

    values_are : heading_of f ≡ 0 ∷ (scan_rule x).controller ∷ (scan_rule x).count ∷ (scan_recording y).controllers ∷ (scan_recording y).count ∷ []
    unfolding pick
    values_are = heading_is ∙ rw accepts

    controller_is : joined.rule.controller ≡ (scan_rule x).controller
    controller_is = rw z at (ap (λ (l : List ℕ). get_or l 1 0) values_are)

    count_is : joined.rule.count ≡ (scan_rule x).count
    count_is = rw z at (ap (λ (l : List ℕ). get_or l 2 0) values_are)

    controllers_are : joined.recording.controllers ≡ (scan_recording y).controllers
    controllers_are = rw z at (ap (λ (l : List ℕ). get_or l 3 0) values_are)

    states_are : joined.recording.count ≡ (scan_recording y).count
    states_are = rw z at (ap (λ (l : List ℕ). get_or l 4 0) values_are)

    pub joined_within : Within joined
    joined_within =
        let k = rule_few (rule_of (scan_rule x).controller (scan_rule x).count (scan_rule x).words) (read_accepted x texts.rule_read) in
        let c = checked (scanned (scan_recording y)) (recording_fine y texts.recording_read) in
        record { nodes = omega (arith, count_is, k); masks = omega (arith, controllers_are, c.few_controllers); states = omega (arith, states_are, c.few_states) }

    zero : read_joint_number x y nodes masks states ≡ 0
    zero = number_is ∙ accepts

    nodes_held_lem : take joined.rule.count nodes' ≡ (scan_rule x).words
    unfolding read_joint_nodes
    nodes_held_lem =
        held max_rule_nodes joined.rule.count (scan_rule x).words nodes nodes' (read_count x texts.rule_read ∙ sym count_is) (rw zero at j.nodes_left)

    masks_held_lem : take joined.recording.controllers masks' ≡ (scan_recording y).masks
    unfolding read_joint_masks
    masks_held_lem =
        held max_controllers joined.recording.controllers (scan_recording y).masks masks masks' (masks_count_lem y texts.recording_read ∙ sym controllers_are) (rw zero at j.masks_left)

    states_held_lem : take joined.recording.count states' ≡ (scan_recording y).states
    unfolding read_joint_states
    states_held_lem =
        held max_states joined.recording.count (scan_recording y).states states states' (states_count_lem y texts.recording_read ∙ sym states_are) (rw zero at j.states_left)

    module _ (r : Read) (is : ReadIs joined (record { nodes = nodes'; masks = masks'; states = states' }) r) where
      rule_is_lem : rule_in r.rule ≡ rule_of (scan_rule x).controller (scan_rule x).count (scan_rule x).words
      rule_is_lem = is.rule ∙ rw (nodes_held_lem, controller_is, count_is)

      recording_is_lem : recording_in r.recording ≡ scanned (scan_recording y)
      recording_is_lem = is.recording ∙ rw (masks_held_lem, states_held_lem, controllers_are, states_are)

      -- `read_tables`, accepted: the tables are what the texts are read as
      pub tables_read : AcceptedTexts x y text r text
      tables_read = record {
        accepts = accepts;
        rule_is = rule_is_lem;
        recording_is = recording_is_lem;
        both = record {
          rule = rw rule_is_lem (read_accepted x texts.rule_read);
          recording = rw recording_is_lem (recording_fine y texts.recording_read);
          controller = rw (ap (λ (a : Rule). a.controller) rule_is_lem, ap (λ (b : Recording). b.controllers) recording_is_lem) texts.controller;
        };
        unprinted = refl;
      }

pub ruleset read_laws = (rules, part_inside_lem, part_bytes, refusal_room, refusal_read, joined_within, tables_read)
