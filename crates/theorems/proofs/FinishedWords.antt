-- "A gauge's bit is 0 in the word and becomes 1 exactly when the value is at least the threshold"; every other bit stays.
use mathlib.Core.Path.{◌≡◌, refl, sym, ◌∙◌}
use Prim.Native.Nat.{ℕ, zero, suc, ◌+◌, ◌^◌, ◌<◌, ◌≤◌}
use mathlib.Core.Bool.{Bool, true, false, ◌||◌}
use mathlib.Core.List.{List, [], ◌∷◌}
use lib.ListN.{length, get_or}
use lib.Pow.{pow-lt}
use lib.Bits.{or_lt}
use lib.IntN.{ℤ, pos}
use lib.Signed.{le_z}
use native.Mathlib.Omega.{arith}
use Rattle.definitions.specs.Bounded.{pick, bit_of}
use Rattle.theorems.proofs.Choice.{by_test}
use Rattle.theorems.proofs.BitLaws.{bit_or_lem, power_own, power_other}
use Rattle.theorems.proofs.RefusalBounds.{pick_low}
use Rattle.definitions.specs.Gauges.{with_atom, finished_bit, finished_from, finished}

-- ---- one gauge
or_true : (z : Bool) → (z || true) ≡ true
or_true true = refl
or_true false = refl

or_false : (z : Bool) → (z || false) ≡ z
or_false true = refl
or_false false = refl

module _ (w a : ℕ) (t v : ℤ) where
  bit_own : bit_of w a ≡ false → bit_of (finished_bit w a t v) a ≡ le_z t v
  unfolding finished_bit with_atom pick
  bit_own h = by_test (le_z t v) (λ e. rw (e, bit_or_lem a w (2 ^ a), power_own a) (or_true (bit_of w a))) (λ e. rw e h)

  bit_other : (b : ℕ) → (a ≡ b → ⊥) → bit_of (finished_bit w a t v) b ≡ bit_of w b
  unfolding finished_bit with_atom pick
  bit_other b n = by_test (le_z t v) (λ e. rw (e, bit_or_lem b w (2 ^ a), power_other a b n) (or_false (bit_of w b))) (λ e. rw e)

-- ---- all gauges
module _ (atoms : List ℕ) (thresholds : List ℤ) where
  others_stay : (vs : List ℤ) (k w b : ℕ) → ((j : ℕ) → k ≤ j → j < k + length vs → get_or atoms j 0 ≡ b → ⊥)
      → bit_of (finished_from k atoms thresholds vs w) b ≡ bit_of w b
  unfolding finished_from
  others_stay [] k w b n = refl
  others_stay (v ∷ vs) k w b n =
      others_stay vs (k + 1) (finished_bit w (get_or atoms k 0) (get_or thresholds k (pos 0)) v) b (λ j l h. n j (omega arith) (omega arith))
      ∙ bit_other w (get_or atoms k 0) (get_or thresholds k (pos 0)) v b (n k (omega arith) (omega arith))

  -- "with distinct atoms"
  unfoldable pub Distinct : ℕ → Type 0
  Distinct n = (i j : ℕ) → i < j → j < n → get_or atoms i 0 ≡ get_or atoms j 0 → ⊥

  own_bits : (vs : List ℤ) (k w i : ℕ) → Distinct (k + length vs) → i < length vs → bit_of w (get_or atoms (k + i) 0) ≡ false
      → bit_of (finished_from k atoms thresholds vs w) (get_or atoms (k + i) 0) ≡ le_z (get_or thresholds (k + i) (pos 0)) (get_or vs i (pos 0))
  unfolding finished_from Distinct
  own_bits [] k w i d l h = absurd (omega arith)
  own_bits (v ∷ vs) k w zero d l h =
      let e : k + 0 ≡ k = omega arith in
      let o = others_stay vs (k + 1) (finished_bit w (get_or atoms k 0) (get_or thresholds k (pos 0)) v) (get_or atoms k 0)
      (λ j a b q. d k j (omega arith) (omega arith) (sym q)) in
      rw e (o ∙ bit_own w (get_or atoms k 0) (get_or thresholds k (pos 0)) v (rw e at h))
  own_bits (v ∷ vs) k w (suc i) d l h =
      let e : k + suc i ≡ k + 1 + i = omega arith in
      let c : k + suc (length vs) ≡ k + 1 + length vs = omega arith in
      let s = bit_other w (get_or atoms k 0) (get_or thresholds k (pos 0)) v (get_or atoms (k + suc i) 0) (λ q. d k (k + suc i) (omega arith) (omega arith) q) in
      let g : bit_of (finished_bit w (get_or atoms k 0) (get_or thresholds k (pos 0)) v) (get_or atoms (k + 1 + i) 0) ≡ false = rw e at (s ∙ h) in
      rw e (own_bits vs (k + 1) (finished_bit w (get_or atoms k 0) (get_or thresholds k (pos 0)) v) i (λ x y a b q. d x y a (omega arith) q) (omega arith) g)

  -- the finished word, bit by bit
  pub record FinishedWord (values : List ℤ) (w : ℕ) : Type 0 where
    pub own : (i : ℕ) → i < length values → bit_of w (get_or atoms i 0) ≡ false
        → bit_of (finished atoms thresholds values w) (get_or atoms i 0) ≡ le_z (get_or thresholds i (pos 0)) (get_or values i (pos 0))
    pub others : (b : ℕ) → ((j : ℕ) → j < length values → get_or atoms j 0 ≡ b → ⊥) → bit_of (finished atoms thresholds values w) b ≡ bit_of w b

  pub finished_word : (values : List ℤ) (w : ℕ) → Distinct (length values) → FinishedWord values w
  unfolding finished Distinct
  finished_word values w d = record {
    own = λ i l h.
        let e : 0 + i ≡ i = omega arith in
        let c : 0 + length values ≡ length values = omega arith in
        rw e at (own_bits values 0 w i (λ x y a b q. d x y a (omega arith) q) l (rw (← e) at h));
    others = λ b n. others_stay values 0 w b (λ j l h. n j (omega arith));
  }

-- ---- the finished word has 32 bits
bit_small : (w a : ℕ) (t v : ℤ) → w < 2 ^ 32 → a < 32 → finished_bit w a t v < 2 ^ 32
unfolding finished_bit with_atom
bit_small w a t v h l = pick_low (le_z t v) _ _ (2 ^ 32) (or_lt 32 w (2 ^ a) h (pow-lt {i = a} {j = 32} l)) h

from_small : (atoms : List ℕ) (thresholds vs : List ℤ) (k w : ℕ) → ((j : ℕ) → get_or atoms j 0 < 32) → w < 2 ^ 32 → finished_from k atoms thresholds vs w < 2 ^ 32
unfolding finished_from
from_small atoms thresholds [] k w b h = h
from_small atoms thresholds (v ∷ vs) k w b h =
    from_small atoms thresholds vs (k + 1) _ b (bit_small w (get_or atoms k 0) (get_or thresholds k (pos 0)) v h (b k))

pub finished_small : (atoms : List ℕ) (thresholds vs : List ℤ) (w : ℕ) → ((j : ℕ) → get_or atoms j 0 < 32) → w < 2 ^ 32 → finished atoms thresholds vs w < 2 ^ 32
unfolding finished
finished_small atoms thresholds vs w b h = from_small atoms thresholds vs 0 w b h
