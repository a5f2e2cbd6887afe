-- An event (`event_of`, `take_event`, `refuse_line`, `follow`): a law for each return, and room for what is printed.
use mathlib.Core.Path.{◌≡◌, refl, sym, ap, ◌∙◌}
use Prim.Native.Nat.{ℕ, ◌-◌, ◌<◌, ◌≤◌, min}
use native.Mathlib.Omega.{arith}
use mathlib.Core.Bool.{Bool, true, false}
use mathlib.Core.List.{List, []}
use lib.Dec.{eqb}
use lib.ListN.{length, take, drop, get_or, length-take}
use lib.Seq.{length-take-le, take-take, take_all}
use native.Mathlib.Decide.{dec_lt}
use borrow.Author.Rules.{rules}
use borrow.Author.Tests.{ne_eqb}
use Rattle.std.specs.Prelude.{Option, Some, None}
use Rattle.definitions.specs.Limits.{max_line_bytes, accepted, recording_form}
use Rattle.definitions.specs.Bounded.{pick}
use Rattle.definitions.specs.Recordings.{state_of}
use Rattle.definitions.specs.Lines.{line_length, line_of, is_closed, same, on_parsed, heading, hexadecimal, two_fields, worded}
use Rattle.definitions.specs.RecordingText.{at_word, word_digits, mark_digits}
use Rattle.definitions.specs.Program.{refused_text}
use Rattle.definitions.specs.Sessions.{Space, lent_space, arrive_number, withdraw_number, arrived, withdrawn, leaves}
use Rattle.definitions.specs.Watching.{withdraw_word, call_of, event_text, status_text, runs, refuses_event, calls, line_step}
use Rattle.fields.specs.Forms.{exact_pair}
use Rattle.fields.proofs.FieldLaws.{taken_none}
use Rattle.fields.proofs.FormLaws.{exact_pair_read}
use Rattle.lines.proofs.NextLaws.{line_part, length_le, line_part_laws, short_closed, whole_open}
use Rattle.lines.proofs.PartLaws.{part_to_end}
use Rattle.lines.specs.Reading.{FirstLine}
use Rattle.lines.specs.declared.Line.{Line}
use Rattle.printing.specs.Printing.{Printed}
use Rattle.report.proofs.ReportLaws.{refused_length}
use Rattle.rules.specs.Refusals.{number_of}
use Rattle.rules.specs.declared.refusal.Refusal.{Refusal}
use Rattle.rules.proofs.RefusalLaws.{number_some}
use Rattle.at_lines.proofs.StateLaws.{digits_few, state_not, state_formed}
use Rattle.sessions.specs.Calls.{ArriveIs, WithdrawIs}
use Rattle.watch_program.specs.Events.{meant, event_number, event_leaves, Taken, RefusedRoom, EventIs}
use Rattle.watch_program.specs.declared.event.Event.{Event}
use Rattle.watch_program.specs.declared.event.Event.TheVariants.{Arrival, Withdrawal}

-- ---- `event_of`
module _ (C : ℕ) (line : List ℕ) (len : ℕ) (is : len ≡ line_length line) where
  -- `event_of`, the line is not closed: `call_of` is malformed
  pub event_open : len ≡ length line → meant None ≡ call_of C line
  unfolding meant call_of pick
  event_open e = rw (whole_open line (omega arith))

  module _ (n : len ≡ length line → ⊥) where
    closed : is_closed line ≡ true
    closed = short_closed line (omega (arith, length_le line))

    module _ (w : Bool) (ws : w ≡ same (take len line) withdraw_word) where
      word_is : same (line_of line) withdraw_word ≡ w
      word_is = sym (rw (line_part line len is) at ws)

      -- `event_of`, the word `withdraw`: `call_of` is a withdrawal
      pub event_withdrawal : w ≡ true → meant (Some Withdrawal) ≡ call_of C line
      unfolding meant call_of pick
      event_withdrawal t = rw (closed, word_is, t)

      module _ (f : w ≡ false) (width : ℕ) (ds : width ≡ mark_digits C) (o : Option (ℕ × ℕ))
          (os : o ≡ exact_pair (worded at_word (two_fields (hexadecimal width) (hexadecimal word_digits) heading) (take len line))) where
        form_is : o ≡ exact_pair (worded at_word (two_fields (hexadecimal (mark_digits C)) (hexadecimal word_digits) heading) (line_of line))
        form_is = rw (line_part line len is, ds) at os

        -- `event_of`, another form: `call_of` is malformed
        pub event_malformed : o ≡ None → meant None ≡ call_of C line
        unfolding meant call_of pick on_parsed
        event_malformed x = rw (closed, word_is, f, state_not C (line_of line) (taken_none _ _ (rw x at form_is)))

        -- `event_of`, run marks and a word: `call_of` is an arrival of that state
        pub event_arrival : (a b : ℕ) → o ≡ Some (a, b) → (s : ℕ) → s ≡ state_of a b → meant (Some (Arrival s)) ≡ call_of C line
        unfolding meant call_of pick on_parsed
        event_arrival a b x s e = rw (closed, word_is, f, state_formed C (line_of line) a b (exact_pair_read _ a b (rw x at form_is)), e)

pub ruleset event_laws = (line_part_laws, digits_few, event_open, event_withdrawal, event_malformed, event_arrival)

-- ---- `take_event`
module _ (heading masks nodes states : List ℕ) where
  abbrev h : Space
  h = lent_space heading masks nodes states

  module _ (number : ℕ) (heading' states' : List ℕ) where
    -- `take_event`, an arrival: its number, and what it leaves, which the nodes don't change
    pub taken_arrival : (e : Option Event) (v : Event) (s : ℕ) → e ≡ Some v → v ≡ Arrival s → ArriveIs s heading masks states number heading' states' →
        Taken e h number (lent_space heading' masks nodes states')
    unfolding event_number event_leaves leaves arrive_number arrived pick
    taken_arrival e v s x y a = rw (x, y) (record {
      answered = a.answered;
      left = ap (λ (k : Space). lent_space k.heading masks nodes k.states) a.left ∙ by_number (eqb (arrive_number s (lent_space heading masks [] states)) accepted);
    })
      where
        by_number : (z : Bool) → lent_space (pick z (arrived s (lent_space heading masks [] states)) (lent_space heading masks [] states)).heading masks nodes (pick z (arrived s (lent_space heading masks [] states)) (lent_space heading masks [] states)).states
            ≡ pick z (arrived s h) h
        by_number true = refl
        by_number false = refl

    -- `take_event`, a withdrawal: likewise the masks
    pub taken_withdrawal : (e : Option Event) (v : Event) → e ≡ Some v → v ≡ Withdrawal → WithdrawIs heading states number heading' states' →
        Taken e h number (lent_space heading' masks nodes states')
    unfolding event_number event_leaves leaves withdraw_number withdrawn pick
    taken_withdrawal e v x y a = rw (x, y) (record {
      answered = a.answered;
      left = ap (λ (k : Space). lent_space k.heading masks nodes k.states) a.left ∙ by_number (eqb (withdraw_number (lent_space heading [] [] states)) accepted);
    })
      where
        by_number : (z : Bool) → lent_space (pick z (withdrawn (lent_space heading [] [] states)) (lent_space heading [] [] states)).heading masks nodes (pick z (withdrawn (lent_space heading [] [] states)) (lent_space heading [] [] states)).states
            ≡ pick z (withdrawn h) h
        by_number true = refl
        by_number false = refl

-- `take_event`, no event: 5, and nothing is changed
pub taken_malformed : (h : Space) (e : Option Event) → e ≡ None → Taken e h recording_form h
unfolding event_number event_leaves
taken_malformed h e x = rw x (record { answered = refl; left = refl })

pub ruleset taken_laws = (rules, taken_arrival, taken_withdrawal, taken_malformed)

-- ---- `refuse_line`
-- what is printed of a refused line
shown_part : (line : List ℕ) (len shown : ℕ) → len ≡ line_length line → shown ≡ min len max_line_bytes → take shown line ≡ event_text line
shown_part line len shown is e = go (dec_lt len 1025)
  where
    go : Dec (len < 1025) → take shown line ≡ take max_line_bytes (line_of line)
    go (yes few) =
        let k : shown ≡ len = omega arith in
        rw (k, is) (sym (take_all max_line_bytes (take (line_length line) line) (rw length-take (omega arith))))
    go (no many) =
        let k : shown ≡ max_line_bytes = omega arith in
        rw k (sym (take-take max_line_bytes (line_length line) line (omega arith)))

pub shown_counts : (line : List ℕ) (n shown : ℕ) → shown ≡ min n max_line_bytes → n ≤ length line → shown ≡ length (take shown line)
shown_counts line n shown e h = sym (length-take-le shown line (omega arith))

pub refused_room : (at : ℕ) (text output line : List ℕ) (n shown : ℕ) (e : Refusal) → RefusedRoom at text output → shown ≡ min n max_line_bytes → n ≤ length line →
    length (refused_text (number_of e) (take shown line)) ≤ length output
refused_room at text output line n shown e room s h = omega (arith, refused_length e (take shown line) (omega (arith, shown_counts line n shown s h)), room.room)

-- `refuse_line`: what is printed is `event_text` of the line that begins there
pub refused_shown : (at : ℕ) (text output : List ℕ) (l : Line) → FirstLine (take (length text - at) (drop at text)) l → (shown : ℕ) → shown ≡ min l.len max_line_bytes →
    (number r : ℕ) (output' : List ℕ) → Printed (refused_text number (take shown (take (length text - at) (drop at text)))) output 0 r output' →
    Printed (refused_text number (event_text (drop at text))) output 0 r output'
refused_shown at text output l first shown ss number r output' p =
    let line = take (length text - at) (drop at text) in
    let q : Printed (refused_text number (event_text line)) output 0 r output' = rw (shown_part line l.len shown first.length_is ss) at p in
    rw (part_to_end text at) at q

pub ruleset refuse_laws = (rules, shown_counts, refused_room, refused_shown)

-- ---- `follow`
-- an event that is a call or none: taken, or refused with its number
step_by : (line : List ℕ) (h : Space) (e : Option Event) → meant e ≡ call_of (get_or h.heading 0 0) line →
    line_step line h ≡ pick (eqb (event_number e h) accepted) (runs (event_leaves e h)) (refuses_event (event_number e h) line h)
unfolding line_step pick on_parsed calls meant event_number event_leaves
step_by line h (Some (Arrival s)) e = rw (← e)
step_by line h (Some Withdrawal) e = rw (← e)
step_by line h None e = rw (← e)

-- refused, it leaves what it found
refused_leaves : (e : Option Event) (h : Space) → (event_number e h ≡ 0 → ⊥) → event_leaves e h ≡ h
unfolding event_number event_leaves leaves pick
refused_leaves (Some (Arrival s)) h z = rw (ne_eqb (arrive_number s h) 0 z)
refused_leaves (Some Withdrawal) h z = rw (ne_eqb (withdraw_number h) 0 z)
refused_leaves None h z = refl

module _ (line : List ℕ) (h h' : Space) (e : Option Event) (called : meant e ≡ call_of (get_or h.heading 0 0) line) (text : List ℕ) (r : ℕ) (text' : List ℕ) where
  -- `follow`, refused: `line_step` prints the line, and what is held stays
  pub event_refused : (k : Refusal) → Taken e h (number_of k) h' → Printed (refused_text (number_of k) (event_text line)) text 0 r text' → EventIs line h text r h' text'
  unfolding pick
  event_refused k t p =
      let some : event_number e h ≡ 0 → ⊥ = λ q. number_some k (t.answered ∙ q) in
      let is : line_step line h ≡ refuses_event (number_of k) line h = step_by line h e called ∙ rw (ne_eqb (event_number e h) 0 some, t.answered) in
      record { watch = rw (is, t.left ∙ refused_leaves e h some); printed = rw is p }

  -- `follow`, taken: `line_step` goes on with what the call leaves, and prints its line
  pub event_taken : Taken e h accepted h' → Printed (status_text h') text 0 r text' → EventIs line h text r h' text'
  unfolding pick
  event_taken t p =
      let goes : line_step line h ≡ runs h' = step_by line h e called ∙ (rw (← t.answered) (ap runs (sym t.left))) in
      record { watch = rw goes; printed = rw goes p }

pub ruleset follow_laws = (rules, event_refused, event_taken)
