-- Signed integers as the machine holds them: bits, read by `to_z` and written by `of_z`.
use mathlib.Core.Path.{◌≡◌}
use Prim.Native.Nat.{ℕ, zero, suc, ◌≤◌}
use lib.IntN.{ℤ, pos, neg_ℤ, ◌-ℤ◌, +ℤ_idl}
use native.Mathlib.Omega.{arith}
use mir.Syntax.{w32}
use mir.Val.{SFits, to_z, of_z}
use mir.Facts.{to_z-of_z}
use mir.ValLaws.{to_z_pos}
use borrow.Author.Rules.{rules}
use Rattle.fields.specs.Fields.{largest}

-- a small number read as signed
small_bits : (n : ℕ) → n ≤ largest → to_z w32 n ≡ pos n
small_bits n h = to_z_pos w32 n (omega arith)

-- 0 - n is the negated n
minus_is : (n : ℕ) → n ≤ largest → to_z w32 0 -ℤ to_z w32 n ≡ neg_ℤ (pos n)
minus_is n h = rw (small_bits n h) (+ℤ_idl (neg_ℤ (pos n)))

pub plain_small : (n : ℕ) → n ≤ largest → SFits w32 (pos n)
plain_small n h = record { sfits = omega arith }

pub negated_small : (n : ℕ) → n ≤ largest → SFits w32 (neg_ℤ (pos n))
negated_small zero h = record { sfits = omega arith }
negated_small (suc n) h = record { sfits = omega arith }

-- `negated`: what is negated fits
pub minus_fits : (n : ℕ) → n ≤ largest → SFits w32 (to_z w32 0 -ℤ to_z w32 n)
minus_fits n h = rw (minus_is n h) (negated_small n h)

-- `negated`: 0 less the number is `neg_ℤ` of it
pub minus_result : (n : ℕ) → n ≤ largest → to_z w32 (of_z w32 (to_z w32 0 -ℤ to_z w32 n)) ≡ neg_ℤ (pos n)
minus_result n h = rw (minus_is n h) (to_z-of_z (negated_small n h))

-- `plain`: the number is `pos` of it
pub plain_result : (n : ℕ) → n ≤ largest → to_z w32 n ≡ pos n
plain_result n h = small_bits n h

-- a signed number as a local holds it, and as a call is passed it
abbrev pub held : ℤ → ℤ
held z = to_z w32 (of_z w32 z)

pub held_is : (z : ℤ) → SFits w32 z → held z ≡ z
held_is z h = to_z-of_z h

pub ruleset sign_laws = (rules, minus_fits, minus_result, plain_result)
