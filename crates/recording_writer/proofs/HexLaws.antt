-- Laws of writing hexadecimal digits.
use mathlib.Core.Path.{◌≡◌, refl, ap, ◌∙◌}
use Prim.Native.Nat.{ℕ, suc, ◌+◌, ◌-◌, ◌/◌, ◌%◌, ◌^◌, ◌<◌, ◌≤◌}
use native.Mathlib.Omega.{arith}
use mathlib.Core.List.{List, [], ◌∷◌, ◌++◌}
use lib.ListN.{length, set, length-append}
use mir.Syntax.{w64}
use mir.Val.{Fits}
use borrow.Author.Rules.{rules}
use Rattle.definitions.specs.RecordingWriting.{hex_byte, hex_text}
use Rattle.printing.specs.Printing.{Printed}
use Rattle.printing.proofs.PrintLaws.{laid_snoc, printed_none}

-- ---- `put_hexadecimal`
no_digit_lem : (v : ℕ) → hex_text 0 v ≡ []
unfolding hex_text
no_digit_lem v = refl

last_digit : (n v : ℕ) → hex_text (suc n) v ≡ hex_text n (v / 16) ++ (hex_byte (v % 16) ∷ [])
unfolding hex_text
last_digit n v = refl

-- `put_hexadecimal`, no digit: `hex_text` is empty
pub hex_none : (width v : ℕ) (o : List ℕ) (at : ℕ) → width ≡ 0 → Printed (hex_text width v) o at at o
hex_none width v o at e = rw (e, no_digit_lem v) (printed_none o at)

module _ (width v : ℕ) (o : List ℕ) (at : ℕ) (room : at + length (hex_text width v) ≤ length o) (some : width ≡ 0 → ⊥) where
  one_more_lem : hex_text width v ≡ hex_text (width - 1) (v / 16) ++ (hex_byte (v % 16) ∷ [])
  one_more_lem = let e : width ≡ suc (width - 1) = omega arith in ap (λ (n : ℕ). hex_text n v) e ∙ last_digit (width - 1) v

  size : length (hex_text width v) ≡ length (hex_text (width - 1) (v / 16)) + 1
  size = ap length one_more_lem ∙ length-append (hex_text (width - 1) (v / 16)) (hex_byte (v % 16) ∷ [])

  pub hex_inner_room : at + length (hex_text (width - 1) (v / 16)) ≤ length o
  hex_inner_room = omega (arith, size)

  pub hex_falls : (t : ℕ) → width ≡ t → width - 1 < t
  hex_falls t e = omega arith

  module _ (r : ℕ) (o' : List ℕ) (ih : Printed (hex_text (width - 1) (v / 16)) o at r o') (kept : length o' ≡ length o) where
    pub hex_last_room : r < length o'
    hex_last_room = omega (arith, size, ih.next)

    -- `put_hexadecimal`, a digit: `hex_text` is those of the sixteenth and the last digit
    pub hex_step : (d : ℕ) → d ≡ hex_byte (v % 16) → Printed (hex_text width v) o at (r + 1) (set o' r d)
    hex_step d e = record {
      next = omega (arith, size, ih.next);
      lies = rw (one_more_lem, ← e, ih.next, ih.lies) (laid_snoc at d (hex_text (width - 1) (v / 16)) o (omega (arith, size)));
    }

    pub hex_next_fits : length o < 2 ^ 64 → Fits w64 (r + 1)
    hex_next_fits h = record { fits = omega (arith, hex_last_room) }

pub ruleset hex_laws = (rules, hex_none, hex_inner_room, hex_falls, hex_last_room, hex_step, hex_next_fits)
