-- Laws of reading both texts: one for each return.
use mathlib.Core.Path.{◌≡◌, refl, ap, sym, ◌∙◌}
use mathlib.Core.Bool.{true, false}
use mathlib.Core.List.{List, [], ◌∷◌}
use Prim.Native.Nat.{ℕ, ◌+◌, ◌-◌, ◌<◌, ◌≤◌}
use native.Mathlib.Omega.{arith}
use lib.ListN.{length, take, drop, length-drop}
use borrow.Author.Tests.{ne_eqb, lt-ltb, le-ltb}
use Rattle.definitions.specs.Limits.{no_controller, max_rule_nodes, max_controllers, max_states}
use Rattle.definitions.specs.Bounded.{pick}
use Rattle.definitions.specs.Lines.{line_length}
use Rattle.definitions.specs.RuleText.{scan_rule}
use Rattle.definitions.specs.Recordings.{controller_refusal}
use Rattle.definitions.specs.RecordingText.{scan_recording, line_in, joint_number, joint_part}
use Rattle.lent.specs.Space.{laid}
use Rattle.lent.proofs.LeftLaws.{laid_begins}
use Rattle.lines.proofs.PartLaws.{part_to_end}
use Rattle.lines.specs.Reading.{FirstLine}
use Rattle.lines.specs.declared.Line.{Line}
use Rattle.lines.proofs.NextLaws.{length_le}
use Rattle.std.specs.Prelude.{Ok, Err}
use Rattle.rules.specs.Refusals.{number_of}
use Rattle.rules.specs.declared.refusal.Refusal.{Refusal}
use Rattle.rules.specs.declared.refusal.Refusal.TheVariants.{NoController}
use Rattle.rules.specs.declared.rule.RuleHeading.{RuleHeading}
use Rattle.rules.proofs.RefusalLaws.{number_some}
use Rattle.recordings.specs.declared.heading.RecordingHeading.{RecordingHeading}
use Rattle.lines.specs.declared.CutShort.{CutShort}
use Rattle.rule_reader.specs.Reading.{RuleAccepted, RuleRefused}
use Rattle.theorems.proofs.TextNumbers.{recording_of_text_lem}
use Rattle.recording_reader.specs.Scanning.{RecordingAccepted, RecordingRefused}
use Rattle.recording_reader.proofs.ScanLaws.{recording_end}
use Rattle.joint_reading.specs.Scanning.{refused_at, joint_values, Low, Held, JointScanned}
use Rattle.joint_reading.specs.declared.scan.Found.{Found}
use Rattle.joint_reading.specs.declared.scan.Text.{Text}
use Rattle.joint_reading.specs.declared.scan.Text.TheVariants.{Rule, Recording}

-- ---- `refused_at`
-- `refused_at`: the refusal and the line that begins there are `refused_at`
pub refused_line_lem : (e : Refusal) (text : Text) (at : ℕ) (l : Line) (s : List ℕ) → FirstLine (take (length s - at) (drop at s)) l
    → record { read = Err e; text = text; from = at; len = l.len } ≡ refused_at e text at (line_length (drop at s))
refused_line_lem e text at l s f = ap (refused_at e text at) (f.length_is ∙ ap line_length (part_to_end s at))

low_none : (e : Refusal) → Low (Err e)
low_none e = record { controller = omega arith; count = omega arith; controllers = omega arith; states = omega arith }

-- ---- lent space
held_refused : (full number : ℕ) (content entry exit : List ℕ) → (number ≡ 0 → ⊥) → drop full exit ≡ drop full entry → Held full number 0 content entry exit
held_refused full number content entry exit z d =
    record { fits = omega arith; begins = λ e. absurd (z e); counts = λ e. absurd (z e); none = λ e. refl; past = d }

held_laid : (full count : ℕ) (content entry exit : List ℕ) → count ≤ full → length content ≡ count → exit ≡ laid content entry → drop full exit ≡ drop full entry
    → Held full 0 count content entry exit
held_laid full count content entry exit f l x d =
    record { fits = f; begins = λ e. laid_begins count content entry exit l x; counts = λ e. l; none = λ z. absurd (z refl); past = d }

-- ---- the definitions, by what the two texts gave
module _ (rule recording : List ℕ) where
  module _ (z : (scan_rule rule).number ≡ 0 → ⊥) where
    rule_number : joint_number rule recording ≡ (scan_rule rule).number
    unfolding joint_number pick
    rule_number = rw (ne_eqb (scan_rule rule).number 0 z)

    rule_part : joint_part rule recording ≡ line_in true rule (scan_rule rule).rest
    unfolding joint_part pick
    rule_part = rw (ne_eqb (scan_rule rule).number 0 z)

  module _ (e : (scan_rule rule).number ≡ 0) where
    module _ (z : (scan_recording recording).number ≡ 0 → ⊥) where
      recording_number : joint_number rule recording ≡ (scan_recording recording).number
      unfolding joint_number pick
      recording_number = rw (e, ne_eqb (scan_recording recording).number 0 z)

      recording_part : joint_part rule recording ≡ line_in false recording (scan_recording recording).rest
      unfolding joint_part pick
      recording_part =
          rw (e, recording_number, ne_eqb (scan_recording recording).number no_controller (recording_of_text_lem recording).not_joining)

    module _ (a : (scan_recording recording).number ≡ 0) where
      module _ (h : (scan_recording recording).controllers ≤ (scan_rule rule).controller) where
        joining_number : joint_number rule recording ≡ no_controller
        unfolding joint_number controller_refusal pick
        joining_number = rw (e, a, le-ltb (scan_rule rule).controller (scan_recording recording).controllers h)

        joining_part : joint_part rule recording ≡ line_in true rule rule
        unfolding joint_part pick
        joining_part = rw (e, joining_number)

      module _ (h : (scan_rule rule).controller < (scan_recording recording).controllers) where
        accepted_number : joint_number rule recording ≡ 0
        unfolding joint_number controller_refusal pick
        accepted_number = rw (e, a, lt-ltb (scan_rule rule).controller (scan_recording recording).controllers h)

        accepted_part : joint_part rule recording ≡ line_in false recording (scan_recording recording).rest
        unfolding joint_part pick
        accepted_part = rw (e, accepted_number)

  refused_values : (n : ℕ) → (n ≡ 0 → ⊥) → ◌≡◌ {A = List ℕ} (0 ∷ 0 ∷ 0 ∷ 0 ∷ []) (joint_values n rule recording)
  unfolding joint_values pick
  refused_values n z = rw (ne_eqb n 0 z)

-- the line that begins at a place of a text lies in it
line_inside : (t : List ℕ) (at : ℕ) → at ≤ length t → at + line_length (drop at t) ≤ length t
line_inside t at h = omega (arith, length_le (drop at t), length-drop at t)

-- ---- `scan_joint`
module _ (rule recording nodes masks states nodes' : List ℕ) (past : drop max_rule_nodes nodes' ≡ drop max_rule_nodes nodes) where
  -- `scan_joint`, the rule is refused: `joint_part` is the rule's refused line
  pub rule_refused : (cut : CutShort RuleHeading) → RuleRefused rule cut → (f : Found) → f ≡ refused_at cut.stop.refusal Rule cut.stop.at (line_length (drop cut.stop.at rule))
      → JointScanned rule recording nodes masks states f nodes' masks states
  unfolding pick
  rule_refused cut s f e =
      let u = cut.stop in
      let z = number_some u.refusal in
      let y : (scan_rule rule).number ≡ 0 → ⊥ = λ q. z (s.number ∙ q) in
      rw e
      (record {
        number = s.number ∙ sym (rule_number rule recording y);
        not_lent = λ q. omega (arith, s.low);
        values = refused_values rule recording (number_of u.refusal) z;
        low = low_none u.refusal;
        part = rw (s.rest, s.place) (sym (rule_part rule recording y));
        inside = line_inside rule u.at s.inside;
        nodes_held = held_refused max_rule_nodes (number_of u.refusal) (scan_rule rule).words nodes nodes' z past;
        masks_held = held_refused max_controllers (number_of u.refusal) (scan_recording recording).masks masks masks z refl;
        states_held = held_refused max_states (number_of u.refusal) (scan_recording recording).states states states z refl;
      })

  module _ (laid_nodes : nodes' ≡ laid (scan_rule rule).words nodes) (u : RuleHeading) (s : RuleAccepted rule u) (masks' states' : List ℕ)
      (masks_past : drop max_controllers masks' ≡ drop max_controllers masks) (states_past : drop max_states states' ≡ drop max_states states) where
    ruled_number : (scan_rule rule).number ≡ 0
    ruled_number = sym s.number

    -- `scan_joint`, the recording is refused: `joint_part` is the recording's refused line
    pub recording_refused : (cut : CutShort RecordingHeading) → RecordingRefused recording cut → (f : Found) → f ≡ refused_at cut.stop.refusal Recording cut.stop.at (line_length (drop cut.stop.at recording))
        → JointScanned rule recording nodes masks states f nodes' masks' states'
    unfolding pick
    recording_refused cut t f e =
        let v = cut.stop in
        let z = number_some v.refusal in
        let y : (scan_recording recording).number ≡ 0 → ⊥ = λ q. z (t.number ∙ q) in
        rw e
        (record {
          number = t.number ∙ sym (recording_number rule recording ruled_number y);
          not_lent = t.not_lent;
          values = refused_values rule recording (number_of v.refusal) z;
          low = low_none v.refusal;
          part = rw (t.rest, t.place) (sym (recording_part rule recording ruled_number y));
          inside = line_inside recording v.at t.inside;
          nodes_held = held_refused max_rule_nodes (number_of v.refusal) (scan_rule rule).words nodes nodes' z past;
          masks_held = held_refused max_controllers (number_of v.refusal) (scan_recording recording).masks masks masks' z masks_past;
          states_held = held_refused max_states (number_of v.refusal) (scan_recording recording).states states states' z states_past;
        })

    module _ (laid_states : states' ≡ laid (scan_recording recording).states states) (v : RecordingHeading) (t : RecordingAccepted recording masks v masks') where
      recorded_number : (scan_recording recording).number ≡ 0
      recorded_number = sym t.number

      -- `scan_joint`, 11: `joint_part` is the rule's first line
      pub joining_refused : (f : Found) → v.controllers ≤ u.controller → f ≡ refused_at NoController Rule 0 (line_length rule)
          → JointScanned rule recording nodes masks states f nodes' masks' states'
      unfolding pick
      joining_refused f h e =
          let l : (scan_recording recording).controllers ≤ (scan_rule rule).controller = omega (arith, s.controller, t.controllers) in
          let o : length rule - length rule ≡ 0 = omega arith in
          let z = number_some NoController in
          rw e
          (record {
            number = sym (joining_number rule recording ruled_number recorded_number l);
            not_lent = λ (q : ◌≡◌ {A = ℕ} 11 13). omega arith;
            values = refused_values rule recording 11 z;
            low = low_none NoController;
            part = rw o at (sym (joining_part rule recording ruled_number recorded_number l));
            inside = omega (arith, length_le rule);
            nodes_held = held_refused max_rule_nodes 11 (scan_rule rule).words nodes nodes' z past;
            masks_held = held_refused max_controllers 11 (scan_recording recording).masks masks masks' z masks_past;
            states_held = held_refused max_states 11 (scan_recording recording).states states states' z states_past;
          })

      module _ (h : u.controller < v.controllers) where
        below : (scan_rule rule).controller < (scan_recording recording).controllers
        below = omega (arith, s.controller, t.controllers)

        end_part : record { of_rule = false; from = length recording; count = 0 } ≡ line_in false recording (scan_recording recording).rest
        end_part =
            let r = recording_end recording recorded_number in
            let o : length recording - length (scan_recording recording).rest ≡ length recording = omega arith in
            let c : line_length (scan_recording recording).rest ≡ 0 = omega (arith, length_le (scan_recording recording).rest) in
            rw (o, c)

        accepted_values : ◌≡◌ {A = List ℕ} (u.controller ∷ u.count ∷ v.controllers ∷ v.count ∷ []) (joint_values 0 rule recording)
        unfolding joint_values pick
        accepted_values = rw (s.controller, s.count, t.controllers, t.count)

        -- `scan_joint`, accepted: `joint_values` are the two headings, `joint_part` is empty at the recording's end
        pub joint_accepted :
            JointScanned rule recording nodes masks states (record { read = Ok (record { rule = u; recording = v }); text = Recording; from = length recording; len = 0 }) nodes' masks' states'
        unfolding pick
        joint_accepted =
            record {
              number = sym (accepted_number rule recording ruled_number recorded_number below);
              not_lent = λ (q : ◌≡◌ {A = ℕ} 0 13). omega arith;
              values = accepted_values;
              low = record { controller = omega (arith, t.few); count = omega (arith, s.few); controllers = omega (arith, t.few); states = t.short };
              part = end_part ∙ sym (accepted_part rule recording ruled_number recorded_number below);
              inside = omega arith;
              nodes_held = held_laid max_rule_nodes u.count (scan_rule rule).words nodes nodes' s.few s.nodes_count laid_nodes past;
              masks_held = held_laid max_controllers v.controllers (scan_recording recording).masks masks masks' t.few t.masks_count t.masks_laid masks_past;
              states_held = held_laid max_states v.count (scan_recording recording).states states states' t.short t.states_count laid_states states_past;
            }
