-- Laws of hexadecimal fields.
use mathlib.Core.Path.{◌≡◌}
use Prim.Native.Nat.{ℕ, ◌+◌, ◌*◌, ◌^◌, ◌<◌, ◌≤◌}
use native.Mathlib.Nat.{pow-suc, pow-le-pow_right}
use mathlib.Core.List.{List}
use lib.ListN.{length, drop, get_or, drop_of_length-le}
use lib.Seq.{drop-cons}
use native.Mathlib.Omega.{arith}
use native.Mathlib.Numerals.{add-one}
use borrow.Author.Rules.{rules}
use borrow.Author.Tests.{eq-eqb, ne_eqb, ltb-true}
use mir.Syntax.{w32}
use mir.Val.{Fits}
use Rattle.definitions.specs.Bounded.{pick}
use Rattle.definitions.specs.Lines.{hex_digit, hex_on, hexadecimal}
use Rattle.std.specs.Prelude.{Some, None}
use lib.Dec.{ltb}
use mathlib.Core.Bool.{true, false}
use mathlib.Core.Path.{sym}
use Rattle.std.proofs.lemmas.Option.{none-some, same_Some}
use Rattle.theorems.proofs.Choice.{by_test}
use Rattle.fields.specs.Fields.{widest, hex_value, taken, exact}

-- ---- the value of a digit
module _ (b : ℕ) where
  -- the byte whose value is d
  hex_is : (d : ℕ) → Some d ≡ hex_value b → (ltb (hex_digit b) 16 ≡ true) × (d ≡ hex_digit b)
  unfolding hex_value pick
  hex_is d e = by_test (ltb (hex_digit b) 16) (λ h. (h, same_Some _ _ (rw h at e))) (λ h. absurd (none-some d (sym (rw h at e))))

  hex_no : None ≡ hex_value b → ltb (hex_digit b) 16 ≡ false
  unfolding hex_value pick
  hex_no e = by_test (ltb (hex_digit b) 16) (λ h. absurd (none-some _ (rw h at e))) (λ h. h)

-- ---- `hexadecimal`
-- `hexadecimal`, another length: `hexadecimal` of the definitions is malformed
pub hex_length : (n : ℕ) (s : List ℕ) → (length s ≡ n → ⊥) → None ≡ exact (hexadecimal n s)
unfolding taken hexadecimal pick
hex_length n s h = rw (ne_eqb (length s) n h)

-- the first i bytes are the digits of v
pub record Weighed (n : ℕ) (s : List ℕ) (v i : ℕ) : Type 0 where
  pub within : i ≤ length s
  pub long : length s ≡ n
  pub small : v < 16 ^ i
  pub left : exact (hexadecimal n s) ≡ exact (hex_on v (drop i s))

-- `hexadecimal`, before byte 0: all of `hexadecimal` of the definitions is left
pub hex_start : (n : ℕ) (s : List ℕ) → length s ≡ n → Weighed n s 0 0
unfolding hexadecimal pick
hex_start n s h = record { within = omega arith; long = h; small = omega arith; left = rw (eq-eqb (length s) n h) }

module _ (n : ℕ) (s : List ℕ) (v i : ℕ) (inv : Weighed n s v i) where
  -- `hexadecimal`, no byte is left: v is `hexadecimal` of the definitions
  pub hex_done : length s ≤ i → Some v ≡ exact (hexadecimal n s)
  unfolding taken hex_on
  hex_done h = rw (inv.left, drop_of_length-le s h)

  module _ (h : i < length s) where
    -- `hexadecimal`, byte i is no digit: `hexadecimal` of the definitions is malformed
    pub hex_bad : None ≡ hex_value (get_or s i 0) → None ≡ exact (hexadecimal n s)
    unfolding taken hex_on pick
    hex_bad e = rw (inv.left, drop-cons s i 0 h, hex_no _ e)

    module _ (d : ℕ) (e : Some d ≡ hex_value (get_or s i 0)) where
      is : (ltb (hex_digit (get_or s i 0)) 16 ≡ true) × (d ≡ hex_digit (get_or s i 0))
      is = hex_is (get_or s i 0) d e

      bound : v * 16 + d < 16 ^ (i + 1)
      bound = rw (add-one, pow-suc) (omega (arith, inv.small, is.1, ltb-true _ _ is.0))

      -- `hexadecimal`, byte i is a digit: `hexadecimal` of the definitions is left from the next byte on
      pub hex_next : Weighed n s (v * 16 + d) (i + 1)
      unfolding hex_on pick
      hex_next = record { within = omega arith; long = inv.long; small = bound; left = rw (inv.left, add-one, drop-cons s i 0 h, is.0, is.1) }

      pub hex_sum_fits : n ≤ widest → Fits w32 (v * 16 + d)
      hex_sum_fits k = record { fits = omega (arith, bound, pow-le-pow_right {n = 16} (omega arith) {i = i + 1} {j = 8} (omega (arith, inv.long))) }

    pub hex_product_fits : n ≤ widest → Fits w32 (v * 16)
    hex_product_fits k = record { fits = omega (arith, pow-le-pow_right {n = 16} (omega arith) {i = i} {j = 7} (omega (arith, inv.long)), inv.small) }

pub ruleset hex_laws = (rules, hex_length, hex_start, hex_done, hex_bad, hex_next, hex_sum_fits, hex_product_fits)
