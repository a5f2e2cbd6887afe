-- Laws of the two loops over lines: one for each return and for a turn.
use mathlib.Core.Path.{◌≡◌, refl, sym}
use mathlib.Core.Bool.{true}
use mathlib.Core.List.{List, [], ◌∷◌}
use Prim.Native.Nat.{ℕ, suc, ◌+◌, ◌-◌, ◌<◌, ◌≤◌}
use native.Mathlib.Omega.{arith}
use lib.Bits.{bit_or}
use lib.Dec.{eqb}
use lib.ListN.{length, take, drop, set, length-drop}
use borrow.Author.Tests.{eqb-true}
use Rattle.std.specs.Prelude.{Result, Ok, Err}
use Rattle.definitions.specs.Limits.{accepted, recording_form, recording_lines, max_controllers}
use Rattle.definitions.specs.Lines.{rest_of, more}
use Rattle.definitions.specs.Gauges.{Gauges}
use Rattle.definitions.specs.RecordingText.{mask_form, at_form, at_refusal, finished_state, at_line, scan_masks, scan_states}
use Rattle.theorems.proofs.Choice.{pick_true, pick_false}
use Rattle.rules.specs.Refusals.{number_of}
use Rattle.rules.specs.declared.refusal.Refusal.{Refusal}
use Rattle.rules.specs.declared.refusal.Refusal.TheVariants.{RecordingLines}
use Rattle.recordings.specs.Unions.{union_of, union_refusal}
use Rattle.recordings.specs.declared.heading.RecordingHeading.{RecordingHeading}
use Rattle.lines.specs.Reading.{FirstLine, LinesScanned}
use Rattle.lines.specs.Told.{told, next_told}
use Rattle.lines.specs.declared.Line.{Line}
use Rattle.lines.specs.declared.Stop.{Stop}
use Rattle.lines.proofs.PartLaws.{part_to_end, empty_yes, empty_no}
use Rattle.lines.proofs.LoopLaws.{Lines, lines_none, lines_done, lines_stop, lines_next, after_line, line_inside}
use Rattle.lines.proofs.StopLaws.{StopTold, at_stop}
use Rattle.lines.proofs.ToldLaws.{told_refused, told_back}
use Rattle.gauges.specs.Held.{gauges_of}
use Rattle.gauges.specs.declared.gauge.Gauge.{Gauge}
use Rattle.at_lines.specs.Lines.{state_line, state_told}
use Rattle.at_lines.specs.Measured.{at_told}
use Rattle.at_lines.proofs.MeasuredLaws.{without_values}
use Rattle.recording_reader.specs.NextLines.{seen_line}
use Rattle.recording_reader.specs.Scanning.{RestRoom}
use Rattle.recording_reader.proofs.ScanLaws.{seen_masks, seen_masks_lem, mask_step, mask_stop, masks_end, state_step, state_stop, states_end}

-- ---- `scan_masks`
pub record MasksLeft (C start : ℕ) (text o o' : List ℕ) (at seen c : ℕ) : Type 0 where
  pub within : c ≤ C
  pub lines : Lines (scan_masks C [] (drop start text)) text o o' at c (seen_masks (C - c) seen (drop at text))

-- `scan_masks`, before the first turn: all of `scan_masks` is left
pub masks_start : (C start : ℕ) (text o : List ℕ) → start ≤ length text → MasksLeft C start text o o start 0 0
unfolding union_of
masks_start C start text o h =
    let z : C - 0 ≡ C = omega arith in
    let e : scan_masks C [] (drop start text) ≡ seen_masks (C - 0) 0 (drop start text) = rw z (seen_masks_lem C [] (drop start text)) in
    record { within = omega arith; lines = lines_none _ _ text o start h e }

module _ (C start : ℕ) (text o o' : List ℕ) (at seen c : ℕ) (inv : MasksLeft C start text o o' at seen c) (few : C ≤ max_controllers) (room : max_controllers ≤ length o) where
  -- `scan_masks`, all masks are read: `scan_masks` is accepted
  pub masks_done : C ≤ c → LinesScanned (scan_masks C [] (drop start text)) text o (Ok at) o'
  masks_done h =
      let z : C - c ≡ 0 = omega arith in
      lines_done _ text o o' at c _ inv.lines (rw z (masks_end seen (drop at text))) (omega (arith, inv.within))

  module _ (h : c < C) (l : Line) (is : FirstLine (take (length text - at) (drop at text)) l) where
    one_less_lem : C - c ≡ suc (C - (c + 1))
    one_less_lem = omega arith

    ends : FirstLine (drop at text) l
    ends = rw (part_to_end text at) at is

    -- `scan_masks`, a refused line: `scan_masks` stops at that line with its refusal
    pub masks_stopped : (s : Stop) → StopTold (next_told (λ m. m) (seen_line seen (take (length text - at) (drop at text)))) at s
        → LinesScanned (scan_masks C [] (drop start text)) text o (Err s) o'
    masks_stopped s r =
        let n = told_refused (λ m. m) (seen_line seen (drop at text)) s.refusal (rw (part_to_end text at) at r.refused) in
        at_stop (λ (z : Stop). LinesScanned (scan_masks C [] (drop start text)) text o (Err z) o') s at r.place
        (lines_stop _ text o o' at c _ inv.lines s.refusal (rw one_less_lem (mask_stop (C - (c + 1)) seen (drop at text) (number_of s.refusal) n)) (omega (arith, inv.within)))

    mask_inside : at + l.next ≤ length text
    mask_inside = line_inside text at l ends inv.lines.inside

    -- `scan_masks`, a turn: `scan_masks` has one mask more, and the union has it too
    pub masks_next : (m : ℕ) → Ok m ≡ next_told (λ m. m) (seen_line seen (take (length text - at) (drop at text)))
        → MasksLeft C start text o (set o' c m) (at + l.next) (bit_or seen m) (c + 1)
    masks_next m r =
        let n = told_back (λ m. m) recording_lines recording_form mask_form (union_refusal seen) (drop at text) m (rw (part_to_end text at) at r) in
        let turn : seen_masks (C - c) seen (drop at text) ≡ more m (seen_masks (C - (c + 1)) (bit_or seen m) (drop (at + l.next) text))
        = rw (one_less_lem, ← after_line text at l ends, ← n.gives) (mask_step (C - (c + 1)) seen (drop at text) n.value (rest_of (drop at text)) n.is) in
        record { within = omega arith; lines = lines_next _ text o o' at c _ inv.lines m (at + l.next) _ turn (omega arith) mask_inside }

-- ---- `scan_states`
pub record StatesLeft (h : RecordingHeading) (masks : List ℕ) (g : Gauges) (start : ℕ) (text o o' : List ℕ) (at prior k : ℕ) : Type 0 where
  pub within : k ≤ h.count
  pub lines : Lines (scan_states h.controllers masks g h.count 0 0 (drop start text)) text o o' at k (scan_states h.controllers masks g (h.count - k) k prior (drop at text))

-- `scan_states`, before the first turn: all of `scan_states` is left
pub states_start : (h : RecordingHeading) (masks : List ℕ) (g : Gauges) (start : ℕ) (text o : List ℕ) → RestRoom h start text o → StatesLeft h masks g start text o o start 0 0
states_start h masks g start text o room =
    let z : h.count - 0 ≡ h.count = omega arith in
    record { within = omega arith; lines = rw z (lines_none _ _ text o start room.inside refl) }

module _ (h : RecordingHeading) (masks : List ℕ) (g : Gauges) (start : ℕ) (text o o' : List ℕ) (at prior k : ℕ) (inv : StatesLeft h masks g start text o o' at prior k) (room : RestRoom h start text o) where
  -- `scan_states`, all states are read and no byte is left: `scan_states` is accepted
  pub states_done : h.count ≤ k → length text ≤ at → LinesScanned (scan_states h.controllers masks g h.count 0 0 (drop start text)) text o (Ok at) o'
  states_done d l =
      let z : h.count - k ≡ 0 = omega arith in
      let e = pick_true {A = ℕ} _ accepted recording_lines (empty_yes (drop at text) (omega (arith, length-drop at text))) in
      lines_done _ text o o' at k _ inv.lines (rw z (states_end h.controllers masks g k prior accepted (drop at text) (sym e))) (omega (arith, inv.within, room.short, room.room))

  -- `scan_states`, all states are read and bytes are left: `scan_states` is refused
  pub states_over : h.count ≤ k → at < length text → LinesScanned (scan_states h.controllers masks g h.count 0 0 (drop start text)) text o (Err (record { refusal = RecordingLines; at = at })) o'
  states_over d l =
      let z : h.count - k ≡ 0 = omega arith in
      let e = pick_false {A = ℕ} _ accepted recording_lines (empty_no (drop at text) (λ q. omega (arith, length-drop at text))) in
      lines_stop _ text o o' at k _ inv.lines RecordingLines (rw z (states_end h.controllers masks g k prior recording_lines (drop at text) (sym e))) (omega (arith, inv.within, room.short, room.room))

  module _ (d : k < h.count) (l : Line) (is : FirstLine (take (length text - at) (drop at text)) l) where
    one_fewer : h.count - k ≡ suc (h.count - (k + 1))
    one_fewer = omega arith

    line_ends : FirstLine (drop at text) l
    line_ends = rw (part_to_end text at) at is

    -- `scan_states`, a refused line: `scan_states` stops at that line with its refusal
    pub states_stopped : (s : Stop) → StopTold (next_told (finished_state g) (at_line h.controllers masks g k prior (take (length text - at) (drop at text)))) at s
        → LinesScanned (scan_states h.controllers masks g h.count 0 0 (drop start text)) text o (Err s) o'
    states_stopped s r =
        let n = told_refused (finished_state g) (at_line h.controllers masks g k prior (drop at text)) s.refusal (rw (part_to_end text at) at r.refused) in
        at_stop (λ (z : Stop). LinesScanned (scan_states h.controllers masks g h.count 0 0 (drop start text)) text o (Err z) o') s at r.place
        (lines_stop _ text o o' at k _ inv.lines s.refusal
        (rw one_fewer (state_stop h.controllers masks g (h.count - (k + 1)) k prior (drop at text) (number_of s.refusal) n)) (omega (arith, inv.within, room.short, room.room)))

    next_inside : at + l.next ≤ length text
    next_inside = line_inside text at l line_ends inv.lines.inside

    -- `scan_states`, a turn: `scan_states` has one state more, and it is the prior one
    pub states_next : (s : ℕ) → Ok s ≡ next_told (finished_state g) (at_line h.controllers masks g k prior (take (length text - at) (drop at text)))
        → StatesLeft h masks g start text o (set o' k s) (at + l.next) s (k + 1)
    states_next s r =
        let n = told_back (finished_state g) recording_lines recording_form (at_form h.controllers (length g.atoms)) (at_refusal h.controllers masks g k prior) (drop at text) s (rw (part_to_end text at) at r) in
        let turn : scan_states h.controllers masks g (h.count - k) k prior (drop at text) ≡ more s (scan_states h.controllers masks g (h.count - (k + 1)) (k + 1) s (drop (at + l.next) text))
        = rw (one_fewer, ← after_line text at l line_ends) (state_step h.controllers masks g (h.count - (k + 1)) k prior (drop at text) n.value s (rest_of (drop at text)) n.is n.gives) in
        record { within = omega arith; lines = lines_next _ text o o' at k _ inv.lines s (at + l.next) _ turn (omega (arith, room.short, room.room)) next_inside }

-- `next_at`, without gauges: the line is read as one without values
pub next_without : (C : ℕ) (masks : List ℕ) (k prior : ℕ) (t : List ℕ) (gauges : List Gauge) → true ≡ eqb (length gauges) 0 → (r : Result ℕ Refusal) → told r ≡ state_told (state_line C masks k prior t)
    → told r ≡ at_told (gauges_of gauges) (at_line C masks (gauges_of gauges) k prior t)
next_without C masks k prior t [] z r e = without_values C masks k prior t (told r) e
next_without C masks k prior t (g ∷ gauges) z r e = absurd (omega (arith, eqb-true _ 0 (sym z)))
