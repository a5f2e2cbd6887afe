-- Numbers and their bits.
use mathlib.Core.Path.{◌≡◌, refl}
use Prim.Native.Nat.{ℕ, zero, suc, ◌+◌, ◌*◌, ◌/◌, ◌%◌, ◌^◌, ◌<◌}
use native.Mathlib.Nat.{pow-suc, pow-succ', div-one, div-div-eq-div-mul}
use native.Mathlib.Omega.{arith}
use mathlib.Core.Bool.{Bool, true, false}
use mathlib.Core.List.{List, [], ◌∷◌}
use lib.ListN.{length}
use lib.Dec.{eqb}
use borrow.Author.Tests.{eqb-true, eqb-false}
use Rattle.definitions.specs.Bounded.{bit, bit_of, tabulate_from, tabulate}
use Rattle.theorems.proofs.Choice.{by_test}
use Rattle.definitions.specs.Archive.{number_of_bits}

bit_later : (v k : ℕ) → bit_of v (suc k) ≡ bit_of (v / 2) k
unfolding bit_of
bit_later v k = rw (pow-succ' 2 k, ← div-div-eq-div-mul v 2 (2 ^ k))

bit_first : (v : ℕ) → bit (bit_of v 0) ≡ v % 2
unfolding bit_of
bit_first v = by_test (eqb (v / 2 ^ 0 % 2) 1)
    (λ e. rw e (omega (arith, eqb-true (v / 1 % 2) 1 e, div-one v)))
    (λ e. let n = eqb-false (v / 1 % 2) 1 e in let o = div-one v in rw e (omega arith))

bits_later : (n k v : ℕ) → tabulate_from n (suc k) (bit_of v) ≡ tabulate_from n k (bit_of (v / 2))
bits_later zero k v = refl
bits_later (suc n) k v = rw (bit_later v k, bits_later n (suc k) v)

pub number_of_bits_lem : (n v : ℕ) → v < 2 ^ n → number_of_bits (tabulate n (bit_of v)) ≡ v
unfolding number_of_bits
number_of_bits_lem zero v h = omega arith
number_of_bits_lem (suc n) v h =
    let b : v / 2 < 2 ^ n = omega (arith, pow-suc 2 n) in
    rw (bits_later n 0 v, number_of_bits_lem n (v / 2) b, bit_first v) (omega arith)

pub number_below : (l : List Bool) → number_of_bits l < 2 ^ length l
unfolding number_of_bits
number_below [] = omega arith
number_below (true ∷ l) = omega (arith, number_below l, pow-suc 2 (length l))
number_below (false ∷ l) = omega (arith, number_below l, pow-suc 2 (length l))

half : (n : ℕ) (b : Bool) → (n * 2 + bit b) / 2 ≡ n
half n true = omega arith
half n false = omega arith

parity : (n : ℕ) (b : Bool) → bit_of (n * 2 + bit b) 0 ≡ b
unfolding bit_of
parity n true = let e : (n * 2 + 1) / 1 % 2 ≡ 1 = omega (arith, div-one (n * 2 + 1)) in rw e
parity n false = let e : (n * 2 + 0) / 1 % 2 ≡ 0 = omega (arith, div-one (n * 2 + 0)) in rw e

pub bits_of_number : (l : List Bool) → tabulate (length l) (bit_of (number_of_bits l)) ≡ l
unfolding number_of_bits
bits_of_number [] = refl
bits_of_number (b ∷ l) = rw (parity (number_of_bits l) b, bits_later (length l) 0 (number_of_bits l * 2 + bit b), half (number_of_bits l) b, bits_of_number l)
