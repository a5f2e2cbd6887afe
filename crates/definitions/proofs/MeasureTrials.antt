-- Trials of the numbers of document 02's gauges: "signed, from -327.68 to 327.67, always with at least one digit, the point and two decimals".
use mathlib.Core.Path.{◌≡◌, refl}
use mathlib.Core.Bool.{true, false}
use lib.IntN.{pos, negsuc}
use Rattle.definitions.specs.Lines.{bytes, formed, malformed}
use Rattle.definitions.specs.Measures.{least, greatest, measure, in_limits, spelled}
use Rattle.definitions.proofs.Samples.{computed}

pub record FieldsRead : Type 0 where
  pub zero : measure (bytes "0.00") ≡ formed (pos 0)
  pub half : measure (bytes "0.50") ≡ formed (pos 50)
  pub minus_one : measure (bytes "-0.01") ≡ formed (negsuc 0)
  pub whole_ones : measure (bytes "12.05") ≡ formed (pos 1205)
  pub least : measure (bytes "-327.68") ≡ formed least
  pub greatest : measure (bytes "327.67") ≡ formed greatest
  -- "no leading zeros but one right before the point; `-0.00` is malformed"
  pub minus_zero : measure (bytes "-0.00") ≡ malformed
  pub leading_zero : measure (bytes "00.50") ≡ malformed
  pub minus_leading_zero : measure (bytes "-00.01") ≡ malformed
  pub no_digit : measure (bytes ".50") ≡ malformed
  pub minus_no_digit : measure (bytes "-.50") ≡ malformed
  pub plus : measure (bytes "+1.00") ≡ malformed
  pub one_decimal : measure (bytes "1.5") ≡ malformed
  pub three_decimals : measure (bytes "1.500") ≡ malformed
  pub no_decimals : measure (bytes "1.") ≡ malformed
  pub no_point : measure (bytes "150") ≡ malformed
  pub two_points : measure (bytes "1.5.0") ≡ malformed
  pub two_signs : measure (bytes "--1.00") ≡ malformed
  pub sign_alone : measure (bytes "-") ≡ malformed
  pub no_bytes : measure (bytes "") ≡ malformed
  -- of its form, outside its limits
  pub below : measure (bytes "-327.69") ≡ formed (negsuc 32768)
  pub above : measure (bytes "327.68") ≡ formed (pos 32768)
  pub twenty_digits : measure (bytes "12345678901234567890.00") ≡ formed (pos 1234567890123456789000)

fields_read : FieldsRead
unfolding computed
fields_read = record {
  zero = refl;
  half = refl;
  minus_one = refl;
  whole_ones = refl;
  least = refl;
  greatest = refl;
  minus_zero = refl;
  leading_zero = refl;
  minus_leading_zero = refl;
  no_digit = refl;
  minus_no_digit = refl;
  plus = refl;
  one_decimal = refl;
  three_decimals = refl;
  no_decimals = refl;
  no_point = refl;
  two_points = refl;
  two_signs = refl;
  sign_alone = refl;
  no_bytes = refl;
  below = refl;
  above = refl;
  twenty_digits = refl;
}

pub record FieldsSpelled : Type 0 where
  pub zero : spelled (pos 0) ≡ bytes "0.00"
  pub minus_one : spelled (negsuc 0) ≡ bytes "-0.01"
  pub tens : spelled (pos 1250) ≡ bytes "12.50"
  pub least : spelled least ≡ bytes "-327.68"
  pub greatest : spelled greatest ≡ bytes "327.67"

fields_spelled : FieldsSpelled
unfolding computed
fields_spelled = record { zero = refl; minus_one = refl; tens = refl; least = refl; greatest = refl }

pub record AtTheLimits : Type 0 where
  pub least : in_limits least ≡ true
  pub greatest : in_limits greatest ≡ true
  pub below : in_limits (negsuc 32768) ≡ false
  pub above : in_limits (pos 32768) ≡ false

at_the_limits : AtTheLimits
unfolding computed
at_the_limits = record { least = refl; greatest = refl; below = refl; above = refl }
