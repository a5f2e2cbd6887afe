-- Laws of the refused line: one for each return, and what its calls ask.
use mathlib.Core.Path.{◌≡◌, refl, ap, sym, ◌∙◌}
use mathlib.Core.Bool.{Bool, true, false, true≢false}
use mathlib.Core.List.{List}
use Prim.Native.Nat.{ℕ, ◌<◌, ◌≤◌}
use native.Mathlib.Omega.{arith}
use lib.ListN.{length, get_or, replicate}
use borrow.Author.Rules.{rules}
use borrow.Author.Tests.{ne_eqb, eq-eqb, lt-ltb, le-ltb}
use Rattle.definitions.specs.Limits.{lent_short, max_input_bytes, max_rule_nodes, max_controllers, max_states}
use Rattle.definitions.specs.Bounded.{pick}
use Rattle.definitions.specs.RecordingText.{joint_number, joint_part}
use Rattle.definitions.specs.Operations.{read_joint_number, read_joint_heading, read_joint_part}
use Rattle.std.specs.Prelude.{Option, Some, None, Result, Ok, Err}
use Rattle.std.specs.Result.{is_ok}
use Rattle.rules.specs.Refusals.{refusal_in}
use Rattle.rules.specs.declared.refusal.Refusal.{Refusal}
use Rattle.rules.proofs.RefusalLaws.{number_some}
use Rattle.joint_reading.specs.Room.{Room}
use Rattle.joint_reading.specs.declared.scan.Text.TheVariants.{Rule, Recording}
use Rattle.joint_reading.specs.Scanning.{part_of}
use Rattle.joint_reading.specs.Joining.{Joined}
use Rattle.joint_reading.specs.declared.scan.Found.{Found}
use Rattle.program_input.specs.Splitting.{SplitIs, Texts}
use Rattle.program_input.specs.declared.Parts.{Parts}
use Rattle.program_input.proofs.SplitLaws.{texts_fit}
use Rattle.report.proofs.ReadTableLaws.{not_lent}
use Rattle.refused_line.specs.Numbering.{line_number, LineStart}
use Rattle.refused_line.specs.Finding.{part_line, texts_line, input_line}
use Rattle.refused_line.specs.declared.Line.{Line}

-- ---- `in_texts`
lent : Room (replicate max_rule_nodes 0) (replicate max_controllers 0) (replicate max_states 0)
lent = record { nodes_room = omega arith; masks_room = omega arith; states_room = omega arith }

-- what is read has no refusal
read_number : {A : Type 0} (r : Result A Refusal) → is_ok r ≡ true → refusal_in r ≡ 0
read_number (Ok v) e = refl
read_number (Err d) e = absurd (true≢false (sym e))

refused_number : {A : Type 0} (r : Result A Refusal) → is_ok r ≡ false → refusal_in r ≡ 0 → ⊥
refused_number (Ok v) e = absurd (true≢false e)
refused_number (Err d) e = number_some d

module _ (rule recording nodes' masks' states' : List ℕ) (f : Found)
    (j : Joined rule recording (replicate max_rule_nodes 0) (replicate max_controllers 0) (replicate max_states 0) f nodes' masks' states') where
  number_is : read_joint_number rule recording (replicate max_rule_nodes 0) (replicate max_controllers 0) (replicate max_states 0) ≡ joint_number rule recording
  unfolding read_joint_number pick
  number_is = refl

  found_number : refusal_in f.read ≡ joint_number rule recording
  unfolding read_joint_heading
  found_number = ap (λ (l : List ℕ). get_or l 0 0) j.heading ∙ number_is

  found_part : part_of f ≡ joint_part rule recording
  unfolding read_joint_part pick
  found_part = j.part ∙ rw (number_is, ne_eqb (joint_number rule recording) lent_short (not_lent rule recording))

  module _ (b : Bool) (is : b ≡ is_ok f.read) where
    -- `in_texts`, accepted: `texts_line` is none
    pub accepted_none : b ≡ true → None ≡ texts_line rule recording
    unfolding texts_line pick
    accepted_none z = rw (eq-eqb (joint_number rule recording) 0 (sym found_number ∙ read_number f.read (sym is ∙ z)))

    module _ (z : b ≡ false) where
      refused_part : Some (part_line rule recording (part_of f)) ≡ texts_line rule recording
      unfolding texts_line pick
      refused_part = rw (found_part, ne_eqb (joint_number rule recording) 0 (λ q. refused_number f.read (sym is ∙ z) (found_number ∙ q)))

      module _ (t : Texts rule recording) where
        module _ (o : f.text ≡ Rule) where
          pub rule_start : LineStart f.from rule
          unfolding pick
          rule_start = record { inside = omega (arith, rw o at j.inside); small = t.rule_fits }

          -- `in_texts`, the rule's text: `texts_line` is the number of its refused line
          pub rule_line : (n : ℕ) → n ≡ line_number f.from rule → Some (record { text = Rule; number = n }) ≡ texts_line rule recording
          unfolding part_line pick
          rule_line n e = rw e (rw o at refused_part)

        module _ (o : f.text ≡ Recording) where
          pub recording_start : LineStart f.from recording
          unfolding pick
          recording_start = record { inside = omega (arith, rw o at j.inside); small = t.recording_fits }

          -- `in_texts`, the recording's text: `texts_line` is the number of its refused line
          pub recording_line : (n : ℕ) → n ≡ line_number f.from recording → Some (record { text = Recording; number = n }) ≡ texts_line rule recording
          unfolding part_line pick
          recording_line n e = rw e (rw o at refused_part)

pub ruleset table_laws = (rules, accepted_none, rule_start, rule_line, recording_start, recording_line)

-- ---- `refused_line`
module _ (input : List ℕ) where
  -- `refused_line`, an input too long: `input_line` is none
  pub long_none : max_input_bytes < length input → None ≡ input_line input
  unfolding input_line pick
  long_none h = rw (lt-ltb max_input_bytes (length input) h)

  -- `refused_line`, the input is split: `input_line` is `texts_line` of its two texts
  pub texts_line_lem : length input ≤ max_input_bytes → (p : Parts) → SplitIs input p → (r : Option Line) → r ≡ texts_line p.rule.now p.recording.now → r ≡ input_line input
  unfolding input_line pick
  texts_line_lem short p is r e = rw (le-ltb max_input_bytes (length input) short, ← is.rule, ← is.recording) e

pub ruleset input_laws = (rules, long_none, texts_fit, texts_line_lem)
