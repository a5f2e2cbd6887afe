-- The tables of an accepted recording text are accepted, and so are those of two texts that are accepted together.
use mathlib.Core.Path.{◌≡◌, refl, sym, ◌∙◌}
use mathlib.Core.List.{List, [], ◌∷◌}
use Prim.Native.Nat.{ℕ, zero, suc, ◌+◌, ◌^◌, ◌<◌}
use native.Mathlib.Omega.{arith}
use mathlib.Core.Bool.{◌||◌}
use lib.Dec.{eqb, ltb, leb}
use lib.ListN.{length, take}
use lib.Seq.{take_all}
use borrow.Author.Tests.{le-ltb, ltb-true, eqb-true, eqb-false}
use Rattle.definitions.specs.Limits.{max_gauges, recording_form, recording_limits, recording_lines, no_controller, gauge_bit_set}
use Rattle.definitions.specs.Bounded.{pick}
use Rattle.definitions.specs.Recordings.{atoms_of, marks_of, state_refusal, recording_heading_refusal, mask_refusal, masks_refusal, states_refusal, recording_lines_refusal, recording_refusal, recording_of, controller_refusal}
use Rattle.definitions.specs.Lines.{Scan}
use Rattle.definitions.specs.RuleText.{scan_rule}
use Rattle.definitions.specs.Gauges.{Gauges, any_outside, any_set}
use Rattle.definitions.specs.RecordingText.{recording_heading, mask_form, Measured, at_form, finished_state, at_refusal, recording_heading_line, mask_line, at_line, scan_masks, scan_gauges, scan_states, RecordingScan, recording_stop, recording_states, gauged_after_masks, opening_masks, scan_opening, scan_recording, joint_number}
use Rattle.definitions.specs.Program.{scanned}
use Rattle.theorems.proofs.Choice.{by_test, refuse_no, accept_yes, none_or_else}
use Rattle.theorems.proofs.Inversions.{must_pass, passes}
use Rattle.theorems.proofs.NextLines.{on_next_lem, next_back, next_some}
use Rattle.recording_reader.proofs.ScanLaws.{masks_counted, states_counted}

-- ---- an accepted line is read as an entry that is accepted
abbrev MasksFine : List ℕ → Scan → Type 0
MasksFine earlier s = s.number ≡ 0 → masks_refusal earlier s.words ≡ 0

masks_fine : (lines : ℕ) (earlier t : List ℕ) → MasksFine earlier (scan_masks lines earlier t)
unfolding scan_masks masks_refusal
masks_fine zero earlier t = λ n. refl
masks_fine (suc lines) earlier t =
    on_next_lem (MasksFine earlier) (mask_line earlier t) _ _
    (λ k e n. absurd (next_some recording_lines recording_form mask_form (mask_refusal earlier) t (omega arith) (omega arith) k e n))
    (λ m rest e n. none_or_else (mask_refusal earlier m) _
    (next_back recording_lines recording_form mask_form (mask_refusal earlier) t m rest e).fine (masks_fine lines (m ∷ earlier) rest n))

module _ (C : ℕ) (masks : List ℕ) (g : Gauges) where
  abbrev StatesFine : ℕ → ℕ → Scan → Type 0
  StatesFine k prior s = s.number ≡ 0 → states_refusal C masks k prior s.words ≡ 0

  -- an accepted line has a finished state that is accepted
  finished_fine : (k prior : ℕ) (m : Measured) → at_refusal C masks g k prior m ≡ 0 → state_refusal C masks k prior (finished_state g m) ≡ 0
  unfolding at_refusal
  finished_fine k prior m e =
      let p = refuse_no (leb (2 ^ C) (marks_of m.state) || any_outside m.values) recording_limits _ (omega arith) e in
      (refuse_no (any_set g.atoms (atoms_of m.state)) gauge_bit_set _ (omega arith) p.1).1

  states_fine : (lines k prior : ℕ) (t : List ℕ) → StatesFine k prior (scan_states C masks g lines k prior t)
  unfolding scan_states states_refusal
  states_fine zero k prior t = λ n. refl
  states_fine (suc lines) k prior t =
      on_next_lem (StatesFine k prior) (at_line C masks g k prior t) _ _
      (λ j e n. absurd (next_some recording_lines recording_form (at_form C (length g.atoms)) (at_refusal C masks g k prior) t (omega arith) (omega arith) j e n))
      (λ m rest e n. none_or_else (state_refusal C masks k prior (finished_state g m)) _
      (finished_fine k prior m (next_back recording_lines recording_form (at_form C (length g.atoms)) (at_refusal C masks g k prior) t m rest e).fine)
      (states_fine lines (k + 1) (finished_state g m) rest n))

-- ---- the whole text: an accepted recording, with as many masks and states as its heading says
record Read (s : RecordingScan) : Type 0 where
  fine : recording_refusal (scanned s) ≡ 0
  masks : length s.masks ≡ s.controllers
  states : length s.states ≡ s.count

abbrev Accepts : RecordingScan → Type 0
Accepts s = s.number ≡ 0 → Read s

tables_fine : (C N : ℕ) (masks states : List ℕ) → recording_heading_refusal C N ≡ 0 → masks_refusal [] masks ≡ 0 → states_refusal C masks 0 0 states ≡ 0 →
    length masks ≡ C → length states ≡ N → recording_refusal (recording_of C N masks states) ≡ 0
unfolding recording_refusal recording_lines_refusal pick
tables_fine C N masks states h m s c n =
    let a : take C masks ≡ masks = take_all C masks (omega arith) in
    let b : take N states ≡ states = take_all N states (omega arith) in
    rw (a, b, le-ltb (length masks) C (omega arith), le-ltb (length states) N (omega arith))
    (none_or_else (recording_heading_refusal C N) _ h (none_or_else (masks_refusal [] masks) _ m (none_or_else (states_refusal C masks 0 0 states) 0 s refl)))

by_number : (P : RecordingScan → Type 0) (n : ℕ) (a b : RecordingScan) → (n ≡ 0 → P a) → ((n ≡ 0 → ⊥) → P b) → P (pick (eqb n 0) a b)
unfolding pick
by_number P n a b f g = by_test (eqb n 0) (λ z. rw z (f (eqb-true n 0 z))) (λ z. rw z (g (eqb-false n 0 z)))

-- gauges and states after accepted masks
gauged_read : (C N : ℕ) (masks t : List ℕ) → recording_heading_refusal C N ≡ 0 → masks_refusal [] masks ≡ 0 → length masks ≡ C → Accepts (gauged_after_masks C N masks t)
unfolding gauged_after_masks
gauged_read C N masks t h f c =
    let g = scan_gauges max_gauges [] t in
    let s : Scan = scan_states C masks g.gauges N 0 0 g.rest in
    by_number Accepts g.number (recording_states C N masks s) (recording_stop g.number g.rest)
    (λ e n.
    let d : length s.words ≡ N = (states_counted C masks g.gauges N 0 0 g.rest).all n in
    record { fine = tables_fine C N masks s.words h f (states_fine C masks g.gauges N 0 0 g.rest n) c d; masks = c; states = d })
    (λ z n. absurd (z n))

masks_read : (C N : ℕ) (t : List ℕ) → recording_heading_refusal C N ≡ 0 → Accepts (opening_masks gauged_after_masks C N (scan_masks C [] t))
masks_read C N t h =
    let m : Scan = scan_masks C [] t in
    by_number Accepts m.number (gauged_after_masks C N m.words m.rest) (recording_stop m.number m.rest)
    (λ e. gauged_read C N m.words m.rest h (masks_fine C [] t e) ((masks_counted C [] t).all e))
    (λ z n. absurd (z n))

all_read : (t : List ℕ) → Accepts (scan_recording t)
unfolding scan_recording scan_opening
all_read t =
    on_next_lem Accepts (recording_heading_line t) _ _
    (λ k e n. absurd (next_some recording_lines recording_form recording_heading (λ h. recording_heading_refusal h.first h.second) t (omega arith) (omega arith) k e n))
    (λ h rest e. masks_read h.first h.second rest
    (next_back recording_lines recording_form recording_heading (λ x. recording_heading_refusal x.first x.second) t h rest e).fine)

module _ (t : List ℕ) (n : (scan_recording t).number ≡ 0) where
  pub recording_fine : recording_refusal (scanned (scan_recording t)) ≡ 0
  recording_fine = (all_read t n).fine

  pub masks_count_lem : length (scan_recording t).masks ≡ (scan_recording t).controllers
  masks_count_lem = (all_read t n).masks

  pub states_count_lem : length (scan_recording t).states ≡ (scan_recording t).count
  states_count_lem = (all_read t n).states

-- ---- both texts are accepted
pub record TextsAccepted (rule recording : List ℕ) : Type 0 where
  pub rule_read : (scan_rule rule).number ≡ 0
  pub recording_read : (scan_recording recording).number ≡ 0
  pub controller : (scan_rule rule).controller < (scan_recording recording).controllers

pub texts_accepted : (rule recording : List ℕ) → joint_number rule recording ≡ 0 → TextsAccepted rule recording
unfolding joint_number controller_refusal
texts_accepted rule recording e =
    let r : (scan_rule rule).number ≡ 0 = must_pass (λ n. n) (scan_rule rule).number _ (scan_rule rule).number refl e in
    let f = sym (passes (scan_rule rule).number _ (scan_rule rule).number r) ∙ e in
    let c : (scan_recording recording).number ≡ 0 = must_pass (λ n. n) (scan_recording recording).number _ (scan_recording recording).number refl f in
    let g = sym (passes (scan_recording recording).number _ (scan_recording recording).number c) ∙ f in
    record {
      rule_read = r;
      recording_read = c;
      controller = ltb-true _ _ (accept_yes (ltb (scan_rule rule).controller (scan_recording recording).controllers) no_controller (omega arith) g);
    }
