-- Laws of an `owns` line: one for each return.
use mathlib.Core.Path.{◌≡◌, refl}
use mathlib.Core.List.{List}
use Prim.Native.Nat.{ℕ}
use native.Mathlib.Omega.{arith}
use lib.ListN.{take}
use Rattle.std.specs.Prelude.{Option, Ok, Err}
use Rattle.std.specs.Option.{ok_or}
use Rattle.definitions.specs.Limits.{accepted, recording_form, recording_lines}
use Rattle.definitions.specs.Lines.{line_length, line_of, formed, worded, hexadecimal}
use Rattle.definitions.specs.RecordingText.{owns_word, word_digits, mask_form}
use Rattle.rules.specs.Refusals.{number_of}
use Rattle.rules.specs.declared.refusal.Refusal.{Refusal}
use Rattle.rules.specs.declared.refusal.Refusal.TheVariants.{RecordingForm}
use Rattle.recordings.specs.Unions.{union_refusal}
use Rattle.fields.specs.Fields.{exact}
use Rattle.fields.proofs.FieldLaws.{taken_none, exact_number}
use Rattle.lines.specs.Reading.{end_refusal}
use Rattle.lines.specs.Told.{next_told}
use Rattle.lines.proofs.NextLaws.{line_part, line_part_laws}
use Rattle.lines.proofs.ToldLaws.{told_unread, told_malformed, told_denied, told_read, some_given, none_given}
use Rattle.recording_reader.specs.NextLines.{seen_line}

-- ---- `next_mask`
module _ (seen : ℕ) (t : List ℕ) where
  -- `next_mask`, no line, or one that is not closed: `seen_line` has that refusal
  pub mask_unread : (e : Refusal) → number_of e ≡ end_refusal recording_lines recording_form t → Err (number_of e) ≡ next_told (λ m. m) (seen_line seen t)
  mask_unread = told_unread (λ m. m) recording_lines recording_form mask_form (union_refusal seen) t

  module _ (there : accepted ≡ end_refusal recording_lines recording_form t) (len : ℕ) (is : len ≡ line_length t) (o : Option ℕ)
      (os : o ≡ exact (worded owns_word (hexadecimal word_digits) (take len t))) where
    line : o ≡ exact (mask_form (line_of t))
    unfolding mask_form
    line = rw (line_part t len is) at os

    -- `next_mask`, another form: `seen_line` is refused by its form
    pub mask_malformed : (e : Refusal) → Err e ≡ ok_or o RecordingForm → Err (number_of e) ≡ next_told (λ m. m) (seen_line seen t)
    mask_malformed e h =
        let q = none_given o RecordingForm e h in
        rw q.1
        (told_malformed (λ m. m) recording_lines recording_form mask_form (union_refusal seen) t (omega arith) (omega arith) there
        (taken_none _ (mask_form (line_of t)) (rw q.0 at line)))

    module _ (m : ℕ) (h : Ok m ≡ ok_or o RecordingForm) where
      form : mask_form (line_of t) ≡ formed m
      form = exact_number (mask_form (line_of t)) m (rw (some_given o RecordingForm m h) at line)

      -- `next_mask`, a mask that overlaps those seen: `seen_line` has the refusal of `union_refusal`
      pub mask_refused : (e : Refusal) → number_of e ≡ union_refusal seen m → Err (number_of e) ≡ next_told (λ m. m) (seen_line seen t)
      mask_refused = told_denied (λ m. m) recording_lines recording_form mask_form (union_refusal seen) t (omega arith) (omega arith) there m form

      -- `next_mask`, accepted: `seen_line` is the mask
      pub mask_read : accepted ≡ union_refusal seen m → Ok m ≡ next_told (λ m. m) (seen_line seen t)
      mask_read r = told_read (λ m. m) recording_lines recording_form mask_form (union_refusal seen) t (omega arith) (omega arith) there m form r m refl

pub ruleset mask_laws = (line_part_laws, mask_unread, mask_malformed, mask_refused, mask_read)
