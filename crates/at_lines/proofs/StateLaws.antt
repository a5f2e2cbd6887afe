-- Laws of the line of a state: one for each return, and what a caller has of its answer.
use mathlib.Core.Path.{◌≡◌, refl, ap, sym, ◌∙◌}
use mathlib.Core.List.{List}
use Prim.Native.Nat.{ℕ}
use native.Mathlib.Omega.{arith}
use lib.Dec.{ltb}
use lib.ListN.{take}
use Rattle.definitions.specs.Limits.{accepted, two_digit_controllers, recording_form, recording_lines}
use Rattle.definitions.specs.Bounded.{pick}
use Rattle.definitions.specs.Recordings.{state_of, state_refusal}
use Rattle.definitions.specs.Lines.{line_length, line_of, formed, malformed, on_parsed, heading, worded, hexadecimal, two_fields}
use Rattle.definitions.specs.RecordingText.{at_word, word_digits, mark_digits, state_form}
use Rattle.theorems.proofs.Choice.{by_test, pick_true, pick_false}
use Rattle.std.specs.Prelude.{Option, Ok, Err}
use Rattle.std.specs.Option.{ok_or}
use Rattle.rules.specs.Refusals.{number_of}
use Rattle.rules.specs.declared.refusal.Refusal.{Refusal}
use Rattle.rules.specs.declared.refusal.Refusal.TheVariants.{RecordingForm}
use Rattle.fields.specs.Forms.{Widths, exact_pair}
use Rattle.fields.proofs.FieldLaws.{taken_none}
use Rattle.fields.proofs.FormLaws.{worded_made, exact_pair_read}
use Rattle.lines.specs.Reading.{end_refusal}
use Rattle.lines.proofs.NextLaws.{line_part, line_part_laws}
use Rattle.lines.proofs.ToldLaws.{told_unread, told_malformed, told_denied, told_read, some_given, none_given}
use Rattle.at_lines.specs.Lines.{state_told, state_line}

-- ---- the form
-- `mark_digits`: three digits or two are `mark_digits`
pub digits_is : (C r : ℕ) → r ≡ pick (ltb two_digit_controllers C) 3 2 → r ≡ mark_digits C
unfolding mark_digits
digits_is C r e = e

pub digits_few : (C r : ℕ) → r ≡ mark_digits C → Widths r word_digits
unfolding mark_digits
digits_few C r e =
    by_test (ltb two_digit_controllers C)
    (λ z. let is : r ≡ 3 = e ∙ pick_true {A = ℕ} (ltb two_digit_controllers C) 3 2 z in record { one = omega arith; two = omega arith })
    (λ z. let is : r ≡ 2 = e ∙ pick_false {A = ℕ} (ltb two_digit_controllers C) 3 2 z in record { one = omega arith; two = omega arith })

pub state_not : (C : ℕ) (s : List ℕ) → worded at_word (two_fields (hexadecimal (mark_digits C)) (hexadecimal word_digits) heading) s ≡ malformed → state_form C s ≡ malformed
unfolding state_form on_parsed
state_not C s e = worded_made state_of (hexadecimal (mark_digits C)) (hexadecimal word_digits) at_word s ∙ rw e

pub state_formed : (C : ℕ) (s : List ℕ) (a b : ℕ) → worded at_word (two_fields (hexadecimal (mark_digits C)) (hexadecimal word_digits) heading) s ≡ formed (heading a b) → state_form C s ≡ formed (state_of a b)
unfolding state_form on_parsed
state_formed C s a b e = worded_made state_of (hexadecimal (mark_digits C)) (hexadecimal word_digits) at_word s ∙ rw e

-- ---- `next_state`
module _ (C : ℕ) (masks : List ℕ) (k prior : ℕ) (t : List ℕ) where
  -- `next_state`, no line, or one that is not closed: `state_line` has that refusal
  pub state_unread : (e : Refusal) → number_of e ≡ end_refusal recording_lines recording_form t → Err (number_of e) ≡ state_told (state_line C masks k prior t)
  state_unread = told_unread (λ s. s) recording_lines recording_form (state_form C) (state_refusal C masks k prior) t

  module _ (there : accepted ≡ end_refusal recording_lines recording_form t) (len : ℕ) (is : len ≡ line_length t) (width : ℕ) (ws : width ≡ mark_digits C) (o : Option (ℕ × ℕ))
      (os : o ≡ exact_pair (worded at_word (two_fields (hexadecimal width) (hexadecimal word_digits) heading) (take len t))) where
    line : o ≡ exact_pair (worded at_word (two_fields (hexadecimal (mark_digits C)) (hexadecimal word_digits) heading) (line_of t))
    line = rw (line_part t len is, ws) at os

    -- `next_state`, another form: `state_line` is refused by its form
    pub state_malformed : (e : Refusal) → Err e ≡ ok_or o RecordingForm → Err (number_of e) ≡ state_told (state_line C masks k prior t)
    state_malformed e h =
        let q = none_given o RecordingForm e h in
        rw q.1 (told_malformed (λ s. s) recording_lines recording_form (state_form C) (state_refusal C masks k prior) t (omega arith) (omega arith) there
        (state_not C (line_of t) (taken_none _ _ (rw q.0 at line))))

    module _ (a b : ℕ) (h : Ok (a, b) ≡ ok_or o RecordingForm) (s : ℕ) (ss : s ≡ state_of a b) where
      form : state_form C (line_of t) ≡ formed s
      form = state_formed C (line_of t) a b (exact_pair_read _ a b (rw (some_given o RecordingForm (a, b) h) at line)) ∙ ap formed (sym ss)

      -- `next_state`, a state that is refused: `state_line` has the refusal of `state_refusal`
      pub state_refused : (e : Refusal) → number_of e ≡ state_refusal C masks k prior s → Err (number_of e) ≡ state_told (state_line C masks k prior t)
      state_refused e r =
          told_denied (λ s. s) recording_lines recording_form (state_form C) (state_refusal C masks k prior) t (omega arith) (omega arith) there s form e r

      -- `next_state`, accepted: `state_line` is the state of its marks and its word
      pub state_read : accepted ≡ state_refusal C masks k prior s → Ok s ≡ state_told (state_line C masks k prior t)
      state_read r =
          told_read (λ s. s) recording_lines recording_form (state_form C) (state_refusal C masks k prior) t (omega arith) (omega arith) there s form r s refl

pub ruleset state_laws = (line_part_laws, digits_few, state_unread, state_malformed, state_refused, state_read)
