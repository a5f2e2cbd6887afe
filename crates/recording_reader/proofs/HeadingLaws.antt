-- Laws of the first line of a recording text: one for each return, and what a caller has of its answer.
use mathlib.Core.Path.{◌≡◌, sym}
use mathlib.Core.Bool.{true, ◌&&◌}
use mathlib.Core.List.{List}
use Prim.Native.Nat.{ℕ, ◌≤◌}
use native.Mathlib.Omega.{arith}
use lib.Dec.{leb}
use lib.ListN.{take}
use borrow.Author.Tests.{leb-true}
use Rattle.std.specs.Prelude.{Option, Some, Ok, Err}
use Rattle.std.specs.Option.{ok_or}
use Rattle.definitions.specs.Bounded.{within}
use Rattle.definitions.specs.Limits.{accepted, max_controllers, max_states, recording_form, recording_lines, recording_limits}
use Rattle.definitions.specs.Recordings.{recording_heading_refusal}
use Rattle.definitions.specs.Lines.{line_length, line_of, is_closed, rest_of, heading, heading_form, read}
use Rattle.definitions.specs.RecordingText.{recording_word, recording_heading, recording_heading_line}
use Rattle.theorems.proofs.Choice.{both_true, accept_yes}
use Rattle.rules.specs.Refusals.{number_of}
use Rattle.rules.specs.declared.refusal.Refusal.{Refusal}
use Rattle.rules.specs.declared.refusal.Refusal.TheVariants.{RecordingForm}
use Rattle.rules.proofs.RefusalLaws.{number_some}
use Rattle.recordings.specs.declared.heading.RecordingHeading.{RecordingHeading}
use Rattle.fields.specs.Fields.{cap}
use Rattle.fields.specs.Forms.{capped_pair}
use Rattle.fields.proofs.FieldLaws.{cap_within_limits, cap_exact}
use Rattle.fields.proofs.HeadingLaws.{CapCheck, first_malformed, first_denied, first_read}
use Rattle.lines.specs.Reading.{end_refusal}
use Rattle.lines.specs.Told.{next_told}
use Rattle.lines.proofs.NextLaws.{line_part, line_part_laws, end_fine}
use Rattle.lines.proofs.ToldLaws.{refused_told, read_told, told_unread, told_back, some_given, none_given}
use Rattle.recording_reader.specs.NextLines.{heading_of}

cap_heading : (C N : ℕ) → recording_heading_refusal (cap C) (cap N) ≡ recording_heading_refusal C N
unfolding recording_heading_refusal
cap_heading C N = rw (cap_within_limits 1 max_controllers C (omega arith) (omega arith), cap_within_limits 1 max_states N (omega arith) (omega arith))

-- an accepted heading is within its limits
heading_within : (C N : ℕ) → recording_heading_refusal C N ≡ 0 → (C ≤ max_controllers) × (N ≤ max_states)
unfolding recording_heading_refusal
heading_within C N e =
    let limits = both_true (within 1 max_controllers C) (within 1 max_states N) (accept_yes (within 1 max_controllers C && within 1 max_states N) recording_limits (omega arith) e) in (
      leb-true C max_controllers (both_true (leb 1 C) (leb C max_controllers) limits.0).1,
      leb-true N max_states (both_true (leb 1 N) (leb N max_states) limits.1).1,
    )

caps : CapCheck recording_heading_refusal
caps = record {
  same = cap_heading;
  first = λ C N e. cap_exact C (omega (arith, (heading_within (cap C) (cap N) e).0));
  second = λ C N e. cap_exact N (omega (arith, (heading_within (cap C) (cap N) e).1));
}

-- ---- `next_heading`
module _ (t : List ℕ) where
  -- `next_heading`, no line, or one that is not closed: `recording_heading_line` has that refusal
  pub heading_unread : (e : Refusal) → number_of e ≡ end_refusal recording_lines recording_form t → Err (number_of e) ≡ next_told heading_of (recording_heading_line t)
  heading_unread = told_unread heading_of recording_lines recording_form recording_heading (λ h. recording_heading_refusal h.first h.second) t

  module _ (there : accepted ≡ end_refusal recording_lines recording_form t) (len : ℕ) (is : len ≡ line_length t) (o : Option (ℕ × ℕ)) (os : o ≡ capped_pair (heading_form recording_word (take len t))) where
    closed : is_closed t ≡ true
    closed = end_fine recording_lines recording_form t (omega arith) (omega arith) there

    line : o ≡ capped_pair (heading_form recording_word (line_of t))
    line = rw (line_part t len is) at os

    -- `next_heading`, another form: `recording_heading_line` is refused by its form
    pub heading_malformed : (e : Refusal) → Err e ≡ ok_or o RecordingForm → Err (number_of e) ≡ next_told heading_of (recording_heading_line t)
    heading_malformed e h =
        let q = none_given o RecordingForm e h in
        rw q.1
        (refused_told heading_of (recording_heading_line t) recording_form
        (first_malformed recording_lines recording_form recording_word recording_heading_refusal caps t closed (rw q.0 at line)))

    module _ (C N : ℕ) (h : Ok (C, N) ≡ ok_or o RecordingForm) where
      some : Some (C, N) ≡ capped_pair (heading_form recording_word (line_of t))
      some = rw (some_given o RecordingForm (C, N) h) at line

      -- `next_heading`, a C or N that is refused: `recording_heading_line` has that refusal
      pub heading_refused : (e : Refusal) → number_of e ≡ recording_heading_refusal C N → Err (number_of e) ≡ next_told heading_of (recording_heading_line t)
      heading_refused e r =
          refused_told heading_of (recording_heading_line t) (number_of e)
          (first_denied recording_lines recording_form recording_word recording_heading_refusal caps t closed C N some (number_of e) (sym r) (number_some e))

      -- `next_heading`, accepted: `recording_heading_line` is C and N
      pub heading_read : accepted ≡ recording_heading_refusal C N → Ok (heading_of (heading C N)) ≡ next_told heading_of (recording_heading_line t)
      heading_read r =
          read_told heading_of (recording_heading_line t) (heading C N) (rest_of t)
          (first_read recording_lines recording_form recording_word recording_heading_refusal caps t closed C N some (sym r))

pub ruleset heading_laws = (line_part_laws, heading_unread, heading_malformed, heading_refused, heading_read)

-- ---- what a caller has of an answer
-- the first line is accepted, with C and N
pub record Headed (t : List ℕ) (h : RecordingHeading) : Type 0 where
  pub is : recording_heading_line t ≡ read (heading h.controllers h.count) (rest_of t)
  pub few : h.controllers ≤ max_controllers
  pub short : h.count ≤ max_states

pub headed : (t : List ℕ) (h : RecordingHeading) → Ok h ≡ next_told heading_of (recording_heading_line t) → Headed t h
headed t h e =
    let a = told_back heading_of recording_lines recording_form recording_heading (λ g. recording_heading_refusal g.first g.second) t h e in
    let w = heading_within a.value.first a.value.second a.fine in
    record { is = rw (← a.gives) a.is; few = rw (← a.gives) w.0; short = rw (← a.gives) w.1 }
