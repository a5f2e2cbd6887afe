-- Which numbers a text may be refused with: what holds of those that its lines name holds of its number.
use mathlib.Core.Path.{◌≡◌, refl}
use Prim.Native.Nat.{ℕ, zero, suc, ◌+◌, ◌≤◌}
use native.Mathlib.Omega.{arith}
use mathlib.Core.Bool.{false}
use mathlib.Core.List.{List, [], ◌∷◌}
use lib.Dec.{eqb}
use lib.ListN.{length}
use borrow.Author.Tests.{eqb-false}
use Rattle.definitions.specs.Limits.{accepted, max_gauges, rule_form, rule_limits, rule_operand, rule_lines, recording_form, recording_limits, masks_meet, recording_lines, output_rule, no_controller, lent_short, second_gauge, gauge_bit_set}
use Rattle.definitions.specs.Bounded.{pick}
use Rattle.definitions.specs.Nodes.{Node}
use Rattle.definitions.specs.Tables.{node_refusal, rule_heading_refusal}
use Rattle.definitions.specs.Recordings.{mask_refusal, recording_heading_refusal}
use Rattle.definitions.specs.Lines.{Parsed, next_line, refused, Scan}
use Rattle.definitions.specs.Gauges.{Gauge, gauge_form, gauge_refusal, Gauges}
use Rattle.definitions.specs.RuleText.{node_form, node_line, scan_nodes, rule_heading, rule_heading_line, RuleScan, scan_rule}
use Rattle.definitions.specs.RecordingText.{mask_form, at_form, finished_state, at_refusal, mask_line, gauge_line, at_line, scan_masks, GaugeScan, is_gauge, scan_gauges, scan_states, recording_heading, recording_heading_line, RecordingScan, gauged_after_masks, opening_masks, scan_opening, scan_recording}
use Rattle.theorems.proofs.Choice.{by_test}
use Rattle.theorems.proofs.NextLines.{on_next_lem, next_number}
use Rattle.theorems.proofs.RefusalBounds.{pick_of, at_number}

module _ (P : ℕ → Type 0) (none : P accepted) where
  -- ---- rule texts
  module _ (form : P rule_form) (limits : P rule_limits) (operand : P rule_operand) (lines : P rule_lines) where
    pub node_number : (i : ℕ) (n : Node) → P (node_refusal false i n)
    unfolding node_refusal
    node_number i n =
        pick_of P _ rule_limits _ limits (pick_of P _ rule_limits _ limits (pick_of P _ rule_limits _ limits
        (pick_of P _ rule_limits _ limits (pick_of P _ rule_operand accepted operand none))))

    nodes_number : (left i : ℕ) (t : List ℕ) → P (scan_nodes left i t).number
    unfolding scan_nodes
    nodes_number zero i t = pick_of P _ accepted rule_lines none lines
    nodes_number (suc left) i t =
        on_next_lem (λ (s : Scan). P s.number) (node_line i t) _ _
        (next_number rule_lines rule_form node_form (node_refusal false i) t P lines form (λ n z. node_number i n))
        (λ n rest e. nodes_number left (i + 1) rest)

    pub rule_text_number : (t : List ℕ) → P (scan_rule t).number
    unfolding scan_rule rule_heading_refusal
    rule_text_number t =
        on_next_lem (λ (s : RuleScan). P s.number) (rule_heading_line t) _ _
        (next_number rule_lines rule_form rule_heading (λ h. rule_heading_refusal h.first h.second) t P lines form (λ h z. pick_of P _ accepted rule_limits none limits))
        (λ h rest e. nodes_number h.second 0 rest)

  -- ---- the first line and the `owns` lines of a recording text, and then what follows them
  module _ (form : P recording_form) (limits : P recording_limits) (meet : P masks_meet) (lines : P recording_lines) where
    -- a refused line of a recording text, from its check
    line_number_lem : {A : Type 0} (of : List ℕ → Parsed A) (check : A → ℕ) (t : List ℕ) → ((a : A) → P (check a))
        → (k : ℕ) → next_line recording_lines recording_form of check t ≡ refused k → P k
    line_number_lem of check t g = next_number recording_lines recording_form of check t P lines form (λ a z. g a)

    masks_number : (left : ℕ) (earlier t : List ℕ) → P (scan_masks left earlier t).number
    unfolding scan_masks mask_refusal
    masks_number zero earlier t = none
    masks_number (suc left) earlier t =
        on_next_lem (λ (s : Scan). P s.number) (mask_line earlier t) _ _ (line_number_lem mask_form (mask_refusal earlier) t (λ m. pick_of P _ masks_meet accepted meet none))
        (λ m rest e. masks_number left (m ∷ earlier) rest)

    module _ (next : (C N : ℕ) (masks t : List ℕ) → RecordingScan) (later : (C N : ℕ) (masks t : List ℕ) → P (next C N masks t).number) where
      masked_number : (C N : ℕ) (m : Scan) → P m.number → P (opening_masks next C N m).number
      unfolding pick
      masked_number C N m p = by_test (eqb m.number accepted) (λ z. rw z (later C N m.words m.rest)) (λ z. rw z p)

      pub opening_number : (t : List ℕ) → P (scan_opening next t).number
      unfolding scan_opening recording_heading_refusal
      opening_number t =
          on_next_lem (λ (s : RecordingScan). P s.number) (recording_heading_line t) _ _
          (line_number_lem recording_heading (λ h. recording_heading_refusal h.first h.second) t (λ h. pick_of P _ accepted recording_limits none limits))
          (λ h rest e. masked_number h.first h.second (scan_masks h.first [] rest) (masks_number h.first [] rest))

  -- ---- recording texts
  module _ (form : P recording_form) (limits : P recording_limits) (meet : P masks_meet) (lines : P recording_lines) (output : P output_rule)
      (second : P second_gauge) (set : P gauge_bit_set) where
    gauge_number : (earlier : List ℕ) (g : Gauge) → P (gauge_refusal earlier g)
    unfolding gauge_refusal
    gauge_number earlier g = pick_of P _ _ recording_limits (pick_of P _ second_gauge accepted second none) limits

    gauges_number : (left : ℕ) (earlier t : List ℕ) → P (scan_gauges left earlier t).number
    unfolding scan_gauges pick
    gauges_number zero earlier t = none
    gauges_number (suc left) earlier t =
        by_test (is_gauge t)
        (λ z. rw z (on_next_lem (λ (s : GaugeScan). P s.number) (gauge_line earlier t) _ _ (line_number_lem form limits meet lines gauge_form (gauge_refusal earlier) t (gauge_number earlier))
        (λ g rest e. gauges_number left (g.atom ∷ earlier) rest)))
        (λ z. rw z none)

    states_number : (C : ℕ) (masks : List ℕ) (g : Gauges) (left k prior : ℕ) (t : List ℕ) → P (scan_states C masks g left k prior t).number
    unfolding scan_states
    states_number C masks g zero k prior t = pick_of P _ accepted recording_lines none lines
    states_number C masks g (suc left) k prior t =
        on_next_lem (λ (s : Scan). P s.number) (at_line C masks g k prior t) _ _
        (line_number_lem form limits meet lines (at_form C (length g.atoms)) (at_refusal C masks g k prior) t (at_number P none limits output set C masks g k prior))
        (λ m rest e. states_number C masks g left (k + 1) (finished_state g m) rest)

    gauged_number : (C N : ℕ) (masks t : List ℕ) → P (gauged_after_masks C N masks t).number
    unfolding gauged_after_masks pick
    gauged_number C N masks t =
        let s = scan_gauges max_gauges [] t in
        by_test (eqb s.number accepted) (λ z. rw z (states_number C masks s.gauges N 0 0 s.rest)) (λ z. rw z (gauges_number max_gauges [] t))

    pub recording_text_number : (t : List ℕ) → P (scan_recording t).number
    unfolding scan_recording
    recording_text_number t = opening_number form limits meet lines gauged_after_masks gauged_number t

-- ---- no text is refused with 11, which is for joining alone, or with 13, which is for lent space alone
pub record OfText (number : ℕ) : Type 0 where
  pub few : number ≤ gauge_bit_set
  pub not_joining : number ≡ no_controller → ⊥
  pub not_lent : number ≡ lent_short → ⊥

pub recording_of_text_lem : (t : List ℕ) → OfText (scan_recording t).number
recording_of_text_lem =
    recording_text_number OfText (of accepted (omega arith) refl refl) (of recording_form (omega arith) refl refl) (of recording_limits (omega arith) refl refl)
    (of masks_meet (omega arith) refl refl) (of recording_lines (omega arith) refl refl) (of output_rule (omega arith) refl refl)
    (of second_gauge (omega arith) refl refl) (of gauge_bit_set (omega arith) refl refl)
  where
    of : (n : ℕ) → n ≤ gauge_bit_set → eqb n no_controller ≡ false → eqb n lent_short ≡ false → OfText n
    of n h p q = record { few = h; not_joining = eqb-false n no_controller p; not_lent = eqb-false n lent_short q }
