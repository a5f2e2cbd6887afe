-- What the code answers of a field.
use Rattle.std.specs.Prelude.{ℕ, ◌-◌, ltb, Option, Some, None}
use Rattle.definitions.specs.Bounded.{pick, within}
use Rattle.definitions.specs.Lines.{Parsed, formed, malformed, hex_digit}

-- above every limit of a decimal field
abbrev pub largest : ℕ
largest = 65535

-- the most digits of a hexadecimal field
abbrev pub widest : ℕ
widest = 8

-- the number, or the largest where it is above that
unfoldable pub cap : ℕ → ℕ
cap n = pick (ltb largest n) largest n

-- the value of a decimal digit
unfoldable pub digit_value : ℕ → Option ℕ
digit_value b = pick (within 48 57 b) (Some (b - 48)) None

-- the value of a hexadecimal digit
unfoldable pub hex_value : ℕ → Option ℕ
hex_value b = pick (ltb (hex_digit b) 16) (Some (hex_digit b)) None

-- what f makes of what is read, where it is of its form
unfoldable pub taken : {A B : Type 0} → (A → B) → Parsed A → Option B
taken f (formed a) = Some (f a)
taken f malformed = None

-- a field that is read exactly
abbrev pub exact : Parsed ℕ → Option ℕ
exact = taken (λ v. v)

-- a field that is read up to the largest number
abbrev pub capped : Parsed ℕ → Option ℕ
capped = taken cap
