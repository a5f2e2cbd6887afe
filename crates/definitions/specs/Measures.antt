-- "Thresholds and values are signed, from -327.68 to 327.67" (document 02, gauges): the form of such a field, its value in hundredths, and its spelling.
use Rattle.std.specs.Prelude.{ℕ, suc, ◌+◌, ◌-◌, ◌*◌, ◌/◌, ◌%◌, Bool, ◌&&◌, List, [], ◌∷◌, ◌++◌, length, get_or, eqb, ℤ, pos, negsuc, neg_ℤ}
use Rattle.std.specs.Int.Signed.{le_z}
use Rattle.definitions.specs.Bounded.{pick, within}
use Rattle.definitions.specs.Lines.{has, up_to, after, Parsed, formed, malformed, on_parsed, decimal, digits}

-- "the point"
abbrev pub point : ℕ
point = 46

-- the sign of a number below 0
abbrev pub minus : ℕ
minus = 45

-- a digit
unfoldable pub is_digit : ℕ → Bool
is_digit x = within 48 57 x

-- "two decimals", as hundredths
unfoldable pub decimals : List ℕ → Parsed ℕ
decimals s =
    pick (eqb (length s) 2)
    (pick (is_digit (get_or s 0 0)) (pick (is_digit (get_or s 1 0)) (formed ((get_or s 0 0 - 48) * 10 + (get_or s 1 0 - 48))) malformed) malformed)
    malformed

-- what stands before the point
abbrev pub whole_part : List ℕ → List ℕ
whole_part s = up_to point s

-- what stands after it
abbrev pub decimal_part : List ℕ → List ℕ
decimal_part s = after point s

-- "at least one digit, the point and two decimals, no leading zeros but one right before the point", without a sign, in hundredths
unfoldable pub hundredths : List ℕ → Parsed ℕ
hundredths s =
    pick (has point s)
    (on_parsed (decimal (whole_part s)) malformed (λ w. on_parsed (decimals (decimal_part s)) malformed (λ d. formed (w * 100 + d))))
    malformed

-- what follows a minus: "`-0.00` is malformed"
unfoldable pub below_zero : ℕ → Parsed ℤ
below_zero n = pick (eqb n 0) malformed (formed (neg_ℤ (pos n)))

-- a signed number, in hundredths
unfoldable pub measure : List ℕ → Parsed ℤ
measure [] = malformed
measure (x ∷ t) =
    pick (eqb x minus) (on_parsed (hundredths t) malformed below_zero) (on_parsed (hundredths (x ∷ t)) malformed (λ n. formed (pos n)))

-- "from -327.68 .."
abbrev pub least : ℤ
least = negsuc 32767

-- ".. to 327.67"
abbrev pub greatest : ℤ
greatest = pos 32767

-- a number within these limits
unfoldable pub in_limits : ℤ → Bool
in_limits z = le_z least z && le_z z greatest

-- the spelling of a number of hundredths
unfoldable pub hundredths_text : ℕ → List ℕ
hundredths_text n = digits (n / 100) ++ (point ∷ (48 + n / 10 % 10) ∷ (48 + n % 10) ∷ [])

-- the spelling of a signed number of hundredths
unfoldable pub spelled : ℤ → List ℕ
spelled (pos n) = hundredths_text n
spelled (negsuc n) = minus ∷ hundredths_text (suc n)
