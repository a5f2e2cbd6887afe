-- The bits of a union of words, and of a power of two.
use mathlib.Core.Path.{◌≡◌, refl}
use Prim.Native.Nat.{ℕ, suc, ◌+◌, ◌-◌, ◌*◌, ◌/◌, ◌%◌, ◌^◌, ◌<◌, max}
use native.Mathlib.Nat.{div_self, div-eq_of_lt, mul-div_cancel_left, pow-suc}
use native.Mathlib.Decide.{dec_lt}
use mathlib.Core.Bool.{true, false, ◌||◌}
use lib.Pow.{pow_pos, pow-lt, pow-add}
use lib.Bits.{bit_or, or_step, or_shr}
use lib.Dec.{eqb}
use native.Mathlib.Omega.{arith}
use Rattle.definitions.specs.Bounded.{bit_of}

odd_sum : (a m : ℕ) → m < 2 → (a * 2 + m) % 2 ≡ m
odd_sum a m h = omega arith

odd_or : (x y : ℕ) → eqb (bit_or x y % 2) 1 ≡ (eqb (x % 2) 1 || eqb (y % 2) 1)
odd_or x y = go (dec_lt (x % 2) 1) (dec_lt (y % 2) 1)
  where
    by : (m n : ℕ) → x % 2 ≡ m → y % 2 ≡ n → max m n < 2 → eqb (max m n) 1 ≡ (eqb m 1 || eqb n 1) → eqb (bit_or x y % 2) 1 ≡ (eqb (x % 2) 1 || eqb (y % 2) 1)
    by m n p q h e = rw (or_step x y, p, q, odd_sum (bit_or (x / 2) (y / 2)) (max m n) h) e

    go : Dec (x % 2 < 1) → Dec (y % 2 < 1) → eqb (bit_or x y % 2) 1 ≡ (eqb (x % 2) 1 || eqb (y % 2) 1)
    go (yes h) (yes k) = by 0 0 (omega arith) (omega arith) (omega arith) refl
    go (yes h) (no k) = by 0 1 (omega arith) (omega arith) (omega arith) refl
    go (no h) (yes k) = by 1 0 (omega arith) (omega arith) (omega arith) refl
    go (no h) (no k) = by 1 1 (omega arith) (omega arith) (omega arith) refl

pub bit_or_lem : (k a b : ℕ) → bit_of (bit_or a b) k ≡ (bit_of a k || bit_of b k)
unfolding bit_of
bit_or_lem k a b = rw (or_shr a b k) (odd_or (a / 2 ^ k) (b / 2 ^ k))

pub power_own : (a : ℕ) → bit_of (2 ^ a) a ≡ true
unfolding bit_of
power_own a = rw (div_self {n = 2 ^ a} (pow_pos a))

power_above : (a b : ℕ) → a < b → bit_of (2 ^ a) b ≡ false
unfolding bit_of
power_above a b h = rw (div-eq_of_lt {n = 2 ^ a} {m = 2 ^ b} (pow-lt {i = a} {j = b} h))

even_bit : (x : ℕ) → eqb (x * 2 % 2) 1 ≡ false
even_bit x = let e : x * 2 % 2 ≡ 0 = omega arith in rw e

power_below : (b d : ℕ) → bit_of (2 ^ (b + suc d)) b ≡ false
unfolding bit_of
power_below b d = rw (pow-add 2 b (suc d), mul-div_cancel_left (2 ^ suc d) {n = 2 ^ b} (pow_pos b), pow-suc 2 d) (even_bit (2 ^ d))

pub power_other : (a b : ℕ) → (a ≡ b → ⊥) → bit_of (2 ^ a) b ≡ false
power_other a b n = go (dec_lt a b)
  where
    go : Dec (a < b) → bit_of (2 ^ a) b ≡ false
    go (yes h) = power_above a b h
    go (no h) = let q : a ≡ b → ⊥ = n in let e : a ≡ b + suc (a - suc b) = omega arith in rw e (power_below b (a - suc b))
