-- A mask meets an earlier mask where it meets the union of them.
use Rattle.std.proofs.Common.{rules, ℕ, ◌+◌, ◌≤◌, ◌<◌, ◌≡◌, refl, sym, ap, ◌∙◌, Bool, not, ◌||◌, List, [], ◌∷◌, length, drop, get_or, drop_of_length-le, drop-cons, add-one, arith, eq-eqb, ne_eqb, eqb}
use Rattle.std.specs.Int.Bits.{bit_and, bit_or, or_add_and, and_le_l, and_le_r}
use Rattle.std.proofs.lemmas.Nat.Bits.{same_from_bits, bit_at_and, bit_at_or}
use native.Mathlib.Decide.{ℕ_discrete}
use Rattle.definitions.specs.Limits.{accepted}
use Rattle.definitions.specs.Bounded.{or_else}
use Rattle.definitions.specs.Recordings.{meets, mask_refusal, masks_refusal}
use Rattle.rules.specs.Refusals.{number_of}
use Rattle.rules.specs.declared.refusal.Refusal.{Refusal}
use Rattle.rules.proofs.RefusalLaws.{first_refusal, next_refusal}
use Rattle.recordings.specs.Unions.{union_of, union_refusal, unions_refusal}

-- the common atoms of a union are the union of the common atoms
pub and_or : (a b m : ℕ) → bit_and (bit_or a b) m ≡ bit_or (bit_and a m) (bit_and b m)
and_or a b m = same_from_bits _ _ (λ i. rw (bit_at_and (bit_or a b) m i, bit_at_or a b i, bit_at_or (bit_and a m) (bit_and b m) i, bit_at_and a m i, bit_at_and b m i) (omega arith))

-- a union is empty where both parts are
pub some_atom : (x y : ℕ) → (not (eqb y 0) || not (eqb x 0)) ≡ not (eqb (bit_or x y) 0)
some_atom x y = go (ℕ_discrete x 0) (ℕ_discrete y 0)
  where
    go : Dec (x ≡ 0) → Dec (y ≡ 0) → (not (eqb y 0) || not (eqb x 0)) ≡ not (eqb (bit_or x y) 0)
    go (yes p) (yes q) = rw (p, q)
    go (yes p) (no q) = rw (ne_eqb y 0 q, ne_eqb (bit_or x y) 0 (λ e. omega (arith, or_add_and x y, and_le_l x y, and_le_r x y)))
    go (no p) (yes q) = rw (eq-eqb y 0 q, ne_eqb x 0 p, ne_eqb (bit_or x y) 0 (λ e. omega (arith, or_add_and x y, and_le_l x y, and_le_r x y)))
    go (no p) (no q) = rw (ne_eqb y 0 q, ne_eqb (bit_or x y) 0 (λ e. omega (arith, or_add_and x y, and_le_l x y, and_le_r x y)))

pub meets_union : (earlier : List ℕ) (m : ℕ) → meets earlier m ≡ not (eqb (bit_and (union_of earlier) m) 0)
unfolding union_of
meets_union [] m = refl
meets_union (e ∷ es) m =
    ap (λ (z : Bool). not (eqb (bit_and e m) 0) || z) (meets_union es m)
    ∙ (some_atom (bit_and (union_of es) m) (bit_and e m) ∙ ap (λ (w : ℕ). not (eqb w 0)) (sym (and_or (union_of es) e m)))

-- so a reader of masks, line by line or from a table, keeps one word
pub mask_union : (earlier : List ℕ) (m : ℕ) → mask_refusal earlier m ≡ union_refusal (union_of earlier) m
unfolding mask_refusal union_refusal
mask_union earlier m = rw (meets_union earlier m)

pub masks_union : (earlier ms : List ℕ) → masks_refusal earlier ms ≡ unions_refusal (union_of earlier) ms
unfolding masks_refusal unions_refusal union_of
masks_union earlier [] = refl
masks_union earlier (m ∷ ms) = rw (mask_union earlier m, masks_union (m ∷ earlier) ms)

-- ---- each mask in its turn
-- what is left to check at mask c of these, with the atoms seen so far
pub record MasksLeft (ms : List ℕ) (seen c : ℕ) : Type 0 where
  pub left : masks_refusal [] ms ≡ unions_refusal seen (drop c ms)

-- `check_masks`, before mask 0: all of `masks_refusal` is left
pub masks_start : (ms : List ℕ) → MasksLeft ms 0 0
unfolding union_of
masks_start ms = record { left = masks_union [] ms }

module _ (ms : List ℕ) (seen c : ℕ) (inv : MasksLeft ms seen c) where
  -- `check_masks`, no mask is left: `masks_refusal` is 0
  pub masks_end : length ms ≤ c → accepted ≡ masks_refusal [] ms
  unfolding unions_refusal
  masks_end h = sym (inv.left ∙ rw (drop_of_length-le ms h))

  module _ (h : c < length ms) where
    here : unions_refusal seen (drop c ms) ≡ or_else (union_refusal seen (get_or ms c 0)) (unions_refusal (bit_or seen (get_or ms c 0)) (drop (c + 1) ms))
    unfolding unions_refusal
    here = rw (drop-cons ms c 0 h, add-one c)

    -- `check_masks`, mask c meets an earlier one: its number is `masks_refusal`
    pub masks_refused : (e : Refusal) → number_of e ≡ union_refusal seen (get_or ms c 0) → number_of e ≡ masks_refusal [] ms
    masks_refused e r = first_refusal e _ _ r ∙ sym (inv.left ∙ here)

    -- `check_masks`, mask c meets none: `masks_refusal` is left from the next mask on
    pub masks_next : accepted ≡ union_refusal seen (get_or ms c 0) → MasksLeft ms (bit_or seen (get_or ms c 0)) (c + 1)
    masks_next a = record { left = inv.left ∙ here ∙ sym (next_refusal _ _ _ a refl) }

pub ruleset mask_laws = (rules, masks_start, masks_end, masks_refused, masks_next)
