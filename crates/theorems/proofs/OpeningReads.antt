-- The heading and `owns` lines by themselves: what follows them is read of what they left, and which numbers a text with such an opening may be refused with.
use mathlib.Core.Path.{◌≡◌}
use Prim.Native.Nat.{ℕ, zero, suc, ◌+◌, ◌<◌}
use native.Mathlib.Omega.{arith}
use mathlib.Core.List.{List, []}
use lib.Dec.{eqb}
use borrow.Author.Tests.{ne_eqb}
use Rattle.definitions.specs.Limits.{accepted, recording_form, recording_limits, masks_meet, recording_lines, output_rule, lent_short, atom_count}
use Rattle.definitions.specs.Bounded.{pick}
use Rattle.definitions.specs.Recordings.{state_refusal, recording_heading_refusal}
use Rattle.definitions.specs.Lines.{on_next, next_line, Scan}
use Rattle.definitions.specs.RecordingText.{recording_heading, state_form, recording_heading_line, scan_masks, RecordingScan, recording_stop, opening_masks, scan_opening, scan_plain}
use Rattle.definitions.specs.Archive.{signal_form, next_signal, SignalScan, scan_signals, states_of_signals, after_opening, scan_archive}
use Rattle.theorems.proofs.Choice.{by_test}
use Rattle.theorems.proofs.NextLines.{by_next, on_next_lem, next_number, next_some}
use Rattle.theorems.proofs.RefusalBounds.{pick_of, or_else_of, state_number, states_number}
use Rattle.theorems.proofs.TextNumbers.{opening_number}
use Rattle.theorems.proofs.WithoutGauges.{states_before, after_before, plain_text_before}

-- the opening, and then nothing
abbrev pub opened : (C N : ℕ) (masks rest : List ℕ) → RecordingScan
opened C N masks rest = record { number = accepted; controllers = C; count = N; masks = masks; states = []; rest = rest }

-- what follows an opening that was read
unfoldable pub then_read : (next : (C N : ℕ) (masks t : List ℕ) → RecordingScan) (s : RecordingScan) → RecordingScan
then_read next s = pick (eqb s.number accepted) (next s.controllers s.count s.masks s.rest) (recording_stop s.number s.rest)

then_masks : (next : (C N : ℕ) (masks t : List ℕ) → RecordingScan) (C N : ℕ) (m : Scan) → opening_masks next C N m ≡ then_read next (opening_masks opened C N m)
unfolding then_read pick
then_masks next C N m = by_test (eqb m.number accepted) (λ z. rw z) (λ z. rw (z, z))

then_stop : (next : (C N : ℕ) (masks t : List ℕ) → RecordingScan) (k : ℕ) (t : List ℕ) → (k ≡ 0 → ⊥) → recording_stop k t ≡ then_read next (recording_stop k t)
unfolding then_read pick
then_stop next k t z = rw (ne_eqb k 0 z)

-- a text with an opening is its opening, and then what follows
pub opening_then : (next : (C N : ℕ) (masks t : List ℕ) → RecordingScan) (t : List ℕ) → scan_opening next t ≡ then_read next (scan_opening opened t)
unfolding scan_opening on_next
opening_then next t =
    by_next (recording_heading_line t)
    (λ k e. rw e (then_stop next k t (next_some recording_lines recording_form recording_heading (λ h. recording_heading_refusal h.first h.second) t (omega arith) (omega arith) k e)))
    (λ h rest e. rw e (then_masks next h.first h.second (scan_masks h.first [] rest)))

-- ---- the numbers: what holds of 0, 5, 6, 7, 8 and 10 holds of each
module _ (P : ℕ → Type 0) (none : P accepted) (form : P recording_form) (limits : P recording_limits) (meet : P masks_meet) (lines : P recording_lines) (output : P output_rule) where
  states_lines_number : (C : ℕ) (masks : List ℕ) (n k prior : ℕ) (t : List ℕ) → P (states_before C masks n k prior t).number
  unfolding states_before
  states_lines_number C masks zero k prior t = pick_of P _ accepted recording_lines none lines
  states_lines_number C masks (suc n) k prior t =
      on_next_lem (λ (s : Scan). P s.number) (next_line recording_lines recording_form (state_form C) (state_refusal C masks k prior) t) _ _
      (next_number recording_lines recording_form (state_form C) (state_refusal C masks k prior) t P lines form (λ s z. state_number P none limits output C masks k prior s))
      (λ s rest e. states_lines_number C masks n (k + 1) s rest)

  signals_number : (C N n j : ℕ) (t : List ℕ) → P (scan_signals C N n j t).number
  unfolding scan_signals
  signals_number C N zero j t = pick_of P _ accepted recording_lines none lines
  signals_number C N (suc n) j t =
      on_next_lem (λ (s : SignalScan). P s.number) (next_signal C N j t) _ _
      (next_number recording_lines recording_form (signal_form C N j) (λ l. accepted) t P lines form (λ l z. none))
      (λ l rest e. signals_number C N n (j + 1) rest)

  pub plain_number : (t : List ℕ) → P (scan_plain t).number
  unfolding after_before
  plain_number t = rw (plain_text_before t) (opening_number P none form limits meet lines after_before (λ C N masks u. states_lines_number C masks N 0 0 u) t)

  pub archive_number : (t : List ℕ) → P (scan_archive t).number
  unfolding scan_archive after_opening
  archive_number t =
      opening_number P none form limits meet lines after_opening (λ C N masks u.
      or_else_of P _ _ (signals_number C N (C + atom_count) 0 u)
      (states_number P none limits output C masks 0 0 (states_of_signals C N (scan_signals C N (C + atom_count) 0 u).signals))) t

-- 13 is for lent space alone
pub plain_low : (t : List ℕ) → (scan_plain t).number < lent_short
plain_low = plain_number (λ n. n < lent_short) (omega arith) (omega arith) (omega arith) (omega arith) (omega arith) (omega arith)

pub archive_low : (t : List ℕ) → (scan_archive t).number < lent_short
archive_low = archive_number (λ n. n < lent_short) (omega arith) (omega arith) (omega arith) (omega arith) (omega arith) (omega arith)
