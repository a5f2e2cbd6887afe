-- Laws of the definitions of the reader of a recording text: one step, how many words it reads, and that an accepted text is read to its end.
use mathlib.Core.Path.{◌≡◌, refl, ap}
use mathlib.Core.List.{List, [], ◌∷◌}
use Prim.Native.Nat.{ℕ, zero, suc, ◌+◌}
use native.Mathlib.Omega.{arith}
use lib.Bits.{bit_or}
use lib.Dec.{eqb}
use lib.ListN.{length, take}
use borrow.Author.Tests.{eqb-true, eqb-false}
use Rattle.definitions.specs.Limits.{max_gauges, accepted, recording_form, recording_lines}
use Rattle.definitions.specs.Bounded.{pick}
use Rattle.definitions.specs.Recordings.{mask_refusal, recording_heading_refusal}
use Rattle.definitions.specs.Lines.{is_empty, refused, read, on_next, Scan, stop, more}
use Rattle.definitions.specs.Gauges.{Gauges}
use Rattle.definitions.specs.RecordingText.{recording_heading, mask_form, Measured, at_form, finished_state, at_refusal, recording_heading_line, mask_line, at_line, scan_masks, scan_gauges, scan_states, RecordingScan, gauged_after_masks, opening_masks, scan_opening, scan_recording}
use Rattle.theorems.proofs.Choice.{by_test, accept_yes}
use Rattle.theorems.proofs.NextLines.{next_some, on_next_lem, same_next, same_check}
use Rattle.recordings.specs.Unions.{union_of, union_refusal}
use Rattle.recordings.proofs.MaskLaws.{mask_union}
use Rattle.recordings.proofs.CheckLaws.{state_own}
use Rattle.lines.proofs.LoopLaws.{Counted, counted_more, counted_stop, counted_end}
use Rattle.recording_reader.specs.NextLines.{seen_line}

-- ---- the mask lines, with the union of the earlier masks
unfoldable pub seen_masks : (lines seen : ℕ) → List ℕ → Scan
seen_masks zero seen t = stop accepted t
seen_masks (suc lines) seen t = on_next (seen_line seen t) (λ number. stop number t) (λ m rest. more m (seen_masks lines (bit_or seen m) rest))

pub seen_masks_lem : (lines : ℕ) (earlier t : List ℕ) → scan_masks lines earlier t ≡ seen_masks lines (union_of earlier) t
unfolding scan_masks seen_masks union_of
seen_masks_lem zero earlier t = refl
seen_masks_lem (suc lines) earlier t =
    same_next (mask_line earlier t) (seen_line (union_of earlier) t) _ _ _
    (same_check recording_lines recording_form mask_form (mask_refusal earlier) (union_refusal (union_of earlier)) t (mask_union earlier))
    (λ m rest. ap (more m) (seen_masks_lem lines (m ∷ earlier) rest))

module _ (lines seen : ℕ) (t : List ℕ) where
  pub mask_step : (m : ℕ) (rest : List ℕ) → seen_line seen t ≡ read m rest → seen_masks (suc lines) seen t ≡ more m (seen_masks lines (bit_or seen m) rest)
  unfolding seen_masks on_next
  mask_step m rest e = rw e

  pub mask_stop : (k : ℕ) → seen_line seen t ≡ refused k → seen_masks (suc lines) seen t ≡ stop k t
  unfolding seen_masks on_next
  mask_stop k e = rw e

pub masks_end : (seen : ℕ) (t : List ℕ) → seen_masks 0 seen t ≡ stop 0 t
unfolding seen_masks
masks_end seen t = refl

-- ---- the state lines
module _ (C : ℕ) (masks : List ℕ) (g : Gauges) (lines k prior : ℕ) (t : List ℕ) where
  pub state_step : (m : Measured) (s : ℕ) (rest : List ℕ) → at_line C masks g k prior t ≡ read m rest → finished_state g m ≡ s
      → scan_states C masks g (suc lines) k prior t ≡ more s (scan_states C masks g lines (k + 1) s rest)
  unfolding scan_states on_next
  state_step m s rest e f = rw (e, f)

  pub state_stop : (r : ℕ) → at_line C masks g k prior t ≡ refused r → scan_states C masks g (suc lines) k prior t ≡ stop r t
  unfolding scan_states on_next
  state_stop r e = rw e

pub states_end : (C : ℕ) (masks : List ℕ) (g : Gauges) (k prior n : ℕ) (t : List ℕ) → n ≡ pick (is_empty t) accepted recording_lines → scan_states C masks g 0 k prior t ≡ stop n t
unfolding scan_states
states_end C masks g k prior n t e = rw e

-- only the masks of the controllers are read
at_own : (C : ℕ) (masks : List ℕ) (g : Gauges) (k prior : ℕ) (m : Measured) → at_refusal C masks g k prior m ≡ at_refusal C (take C masks) g k prior m
unfolding at_refusal
at_own C masks g k prior m = rw (state_own C masks k prior (finished_state g m))

pub scan_own : (C : ℕ) (masks : List ℕ) (g : Gauges) (lines k prior : ℕ) (t : List ℕ) → scan_states C masks g lines k prior t ≡ scan_states C (take C masks) g lines k prior t
unfolding scan_states
scan_own C masks g zero k prior t = refl
scan_own C masks g (suc lines) k prior t =
    same_next (at_line C masks g k prior t) (at_line C (take C masks) g k prior t) _ _ _
    (same_check recording_lines recording_form (at_form C (length g.atoms)) (at_refusal C masks g k prior) (at_refusal C (take C masks) g k prior) t (at_own C masks g k prior))
    (λ m rest. ap (more (finished_state g m)) (scan_own C masks g lines (k + 1) (finished_state g m) rest))

-- ---- how many words: a refusal of a line is not 0
mask_some : (earlier t : List ℕ) (k : ℕ) → mask_line earlier t ≡ refused k → k ≡ 0 → ⊥
mask_some earlier t = next_some recording_lines recording_form mask_form (mask_refusal earlier) t (omega arith) (omega arith)

at_some : (C : ℕ) (masks : List ℕ) (g : Gauges) (k prior : ℕ) (t : List ℕ) (n : ℕ) → at_line C masks g k prior t ≡ refused n → n ≡ 0 → ⊥
at_some C masks g k prior t = next_some recording_lines recording_form (at_form C (length g.atoms)) (at_refusal C masks g k prior) t (omega arith) (omega arith)

pub heading_some : (t : List ℕ) (k : ℕ) → recording_heading_line t ≡ refused k → k ≡ 0 → ⊥
heading_some t = next_some recording_lines recording_form recording_heading (λ h. recording_heading_refusal h.first h.second) t (omega arith) (omega arith)

pub masks_counted : (lines : ℕ) (earlier t : List ℕ) → Counted lines (scan_masks lines earlier t)
unfolding scan_masks
masks_counted zero earlier t = counted_end 0 t
masks_counted (suc lines) earlier t =
    on_next_lem (Counted (suc lines)) (mask_line earlier t) _ _
    (λ k e. counted_stop (suc lines) k t (mask_some earlier t k e))
    (λ m rest e. counted_more lines m _ (masks_counted lines (m ∷ earlier) rest))

pub states_counted : (C : ℕ) (masks : List ℕ) (g : Gauges) (lines k prior : ℕ) (t : List ℕ) → Counted lines (scan_states C masks g lines k prior t)
unfolding scan_states
states_counted C masks g zero k prior t = counted_end _ t
states_counted C masks g (suc lines) k prior t =
    on_next_lem (Counted (suc lines)) (at_line C masks g k prior t) _ _
    (λ n e. counted_stop (suc lines) n t (at_some C masks g k prior t n e))
    (λ m rest e. counted_more lines (finished_state g m) _ (states_counted C masks g lines (k + 1) (finished_state g m) rest))

-- ---- an accepted text is read to its end
abbrev Ends : ℕ → List ℕ → Type 0
Ends number rest = number ≡ 0 → length rest ≡ 0

states_ended : (C : ℕ) (masks : List ℕ) (g : Gauges) (lines k prior : ℕ) (t : List ℕ)
    → Ends (scan_states C masks g lines k prior t).number (scan_states C masks g lines k prior t).rest
unfolding scan_states
states_ended C masks g zero k prior t = λ e. eqb-true (length t) 0 (accept_yes (is_empty t) recording_lines (omega arith) e)
states_ended C masks g (suc lines) k prior t =
    on_next_lem (λ (s : Scan). Ends s.number s.rest) (at_line C masks g k prior t) _ _
    (λ n e q. absurd (at_some C masks g k prior t n e q))
    (λ m rest e. states_ended C masks g lines (k + 1) (finished_state g m) rest)

gauged_ended : (C N : ℕ) (masks t : List ℕ) → Ends (gauged_after_masks C N masks t).number (gauged_after_masks C N masks t).rest
unfolding gauged_after_masks pick
gauged_ended C N masks t =
    let s = scan_gauges max_gauges [] t in
    by_test (eqb s.number 0) (λ z. rw z (states_ended C masks s.gauges N 0 0 s.rest)) (λ z. rw z (λ e. absurd (eqb-false s.number 0 z e)))

masks_ended : (C N : ℕ) (m : Scan) → Ends (opening_masks gauged_after_masks C N m).number (opening_masks gauged_after_masks C N m).rest
unfolding pick
masks_ended C N m =
    by_test (eqb m.number 0) (λ z. rw z (gauged_ended C N m.words m.rest)) (λ z. rw z (λ e. absurd (eqb-false m.number 0 z e)))

pub recording_end : (t : List ℕ) → (scan_recording t).number ≡ 0 → length (scan_recording t).rest ≡ 0
unfolding scan_recording scan_opening
recording_end t =
    on_next_lem (λ (s : RecordingScan). Ends s.number s.rest) (recording_heading_line t) _ _
    (λ k e q. absurd (heading_some t k e q))
    (λ h rest e. masks_ended h.first h.second (scan_masks h.first [] rest))
