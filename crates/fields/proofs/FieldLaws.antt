-- Laws of decimal fields: the largest number stands for itself and all above it.
use mathlib.Core.Path.{◌≡◌, refl, sym, ◌∙◌}
use Prim.Native.Nat.{ℕ, suc, ◌+◌, ◌-◌, ◌*◌, ◌<◌, ◌≤◌, min}
use mathlib.Core.List.{List, [], ◌∷◌}
use mathlib.Core.Bool.{Bool, true, false, ◌&&◌}
use lib.ListN.{length, drop, get_or, drop_of_length-le}
use lib.Seq.{drop-cons}
use native.Mathlib.Omega.{arith}
use native.Mathlib.Numerals.{add-one}
use lib.Dec.{eqb, ltb, leb}
use Rattle.std.proofs.lemmas.Option.{none-some, same_Some}
use mathlib.Core.Logic.{◌⊎◌, inl, inr}
use mir.Syntax.{w32}
use mir.Val.{Fits}
use borrow.Author.Rules.{rules}
use borrow.Author.Tests.{eq-eqb, ne_eqb, lt-ltb, le-ltb, le-leb, lt-leb, ltb-true, ltb-false, leb-true, eqb-true}
use Rattle.definitions.specs.Bounded.{pick, within}
use Rattle.definitions.specs.Lines.{Parsed, formed, malformed, decimal_on, decimal}
use Rattle.theorems.proofs.Choice.{by_test, both_true}
use Rattle.std.specs.Prelude.{Some, None}
use Rattle.fields.specs.Fields.{largest, cap, digit_value, taken, capped, exact}

-- ---- the largest number
pub cap_over : (n : ℕ) → largest < n → largest ≡ cap n
unfolding cap pick
cap_over n h = rw (lt-ltb largest n h)

pub cap_within : (n : ℕ) → n ≤ largest → n ≡ cap n
unfolding cap pick
cap_within n h = rw (le-ltb largest n h)

pub cap_le : (n : ℕ) → cap n ≤ largest
cap_le n = by_test (ltb largest n) (λ e. rw (← cap_over n (ltb-true largest n e)) (omega arith)) (λ e. rw (← cap_within n (ltb-false largest n e)) (ltb-false largest n e))

-- below the largest number a field is exact
pub cap_exact : (n : ℕ) → cap n < largest → cap n ≡ n
cap_exact n h = by_test (ltb largest n) (λ e. absurd (omega (arith, cap_over n (ltb-true largest n e)))) (λ e. sym (cap_within n (ltb-false largest n e)))

-- a limit up to the largest number tests the same
pub cap_below : (n limit : ℕ) → limit ≤ largest → ltb (cap n) limit ≡ ltb n limit
cap_below n limit h = by_test (ltb largest n) over (λ e. rw (← cap_within n (ltb-false largest n e)))
  where
    over : ltb largest n ≡ true → ltb (cap n) limit ≡ ltb n limit
    over e =
        let l = ltb-true largest n e in
        rw (← cap_over n l, le-ltb largest limit h, le-ltb n limit (omega arith))

pub cap_within_limits : (low high n : ℕ) → low ≤ largest → high < largest → within low high (cap n) ≡ within low high n
cap_within_limits low high n l h = by_test (ltb largest n) over (λ e. rw (← cap_within n (ltb-false largest n e)))
  where
    over : ltb largest n ≡ true → within low high (cap n) ≡ within low high n
    over e =
        let g = ltb-true largest n e in
        rw (← cap_over n g, le-leb low largest l, le-leb low n (omega arith), lt-leb largest high h, lt-leb n high (omega arith))

-- the digits that follow tell a number from the largest no more
cap_step : (v d : ℕ) → cap (cap v * 10 + d) ≡ cap (v * 10 + d)
cap_step v d = by_test (ltb largest v) over (λ e. rw (← cap_within v (ltb-false largest v e)))
  where
    over : ltb largest v ≡ true → cap (cap v * 10 + d) ≡ cap (v * 10 + d)
    over e =
        let g = ltb-true largest v e in
        rw (← cap_over v g) (sym (cap_over (largest * 10 + d) (omega arith)) ∙ cap_over (v * 10 + d) (omega arith))

cap_cap : (v : ℕ) → cap (cap v) ≡ cap v
cap_cap v = sym (cap_within (cap v) (cap_le v))

pub capped_on : (v : ℕ) (t : List ℕ) → capped (decimal_on (cap v) t) ≡ capped (decimal_on v t)
unfolding taken decimal_on pick
capped_on v [] = rw (cap_cap v)
capped_on v (x ∷ t) = by_test (within 48 57 x) (λ e. rw e (sym (capped_on (cap v * 10 + (x - 48)) t) ∙ rw (cap_step v (x - 48)) (capped_on (v * 10 + (x - 48)) t))) (λ e. rw e)

-- the lesser of a number and the largest
pub cap_min : (n : ℕ) → min n largest ≡ cap n
cap_min n = by_test (ltb largest n) (λ e. rw (← cap_over n (ltb-true largest n e)) (omega (arith, ltb-true largest n e))) (λ e. rw (← cap_within n (ltb-false largest n e)) (omega (arith, ltb-false largest n e)))

-- two tests of which the second fails, or holds
pub and_no : (z : Bool) → (z && false) ≡ false
and_no true = refl
and_no false = refl

pub and_yes : (z : Bool) → (z && true) ≡ z
and_yes true = refl
and_yes false = refl

-- ---- the value of a digit
module _ (b : ℕ) where
  -- the byte whose value is d
  pub digit_is : (d : ℕ) → Some d ≡ digit_value b → (within 48 57 b ≡ true) × (d ≡ b - 48)
  unfolding digit_value pick
  digit_is d e = by_test (within 48 57 b) (λ h. (h, same_Some _ _ (rw h at e))) (λ h. absurd (none-some d (sym (rw h at e))))

  pub digit_small : (d : ℕ) → Some d ≡ digit_value b → d ≤ 9
  digit_small d e =
      let is = digit_is d e in
      omega (arith, is.1, leb-true b 57 (both_true (leb 48 b) (leb b 57) is.0).1)

  pub digit_no : None ≡ digit_value b → within 48 57 b ≡ false
  unfolding digit_value pick
  digit_no e = by_test (within 48 57 b) (λ h. absurd (none-some _ (rw h at e))) (λ h. h)

-- ---- `decimal`
-- `decimal`, no byte: `decimal` of the definitions is malformed
pub dec_empty : (s : List ℕ) → eqb (length s) 0 ≡ true → None ≡ capped (decimal s)
unfolding taken decimal
dec_empty [] h = refl
dec_empty (x ∷ t) h = absurd (omega (arith, eqb-true (suc (length t)) 0 h))

-- `decimal`, a leading digit 0: `decimal` of the definitions is malformed
pub dec_lead : (s : List ℕ) → eqb (length s) 0 ≡ false → get_or s 0 0 ≡ 48 → (length s ≡ 1 → ⊥) → None ≡ capped (decimal s)
unfolding taken decimal pick
dec_lead [] h e n = cc
dec_lead (x ∷ []) h e n = absurd (n refl)
dec_lead (x ∷ y ∷ t) h e n = rw (eq-eqb x 48 e, ne_eqb (suc (length t)) 0 (λ q. omega arith))

-- the first i bytes are the digits of v, or of more than the largest number
pub record Counted (s : List ℕ) (v i : ℕ) : Type 0 where
  pub within : i ≤ length s
  pub small : v ≤ largest
  pub left : capped (decimal s) ≡ capped (decimal_on v (drop i s))

-- `decimal`, a first byte other than the digit 0, or alone: all of `decimal` of the definitions is left
pub dec_start : (s : List ℕ) → eqb (length s) 0 ≡ false → ((get_or s 0 0 ≡ 48) × (length s ≡ 1)) ⊎ (get_or s 0 0 ≡ 48 → ⊥) → Counted s 0 0
unfolding decimal pick
dec_start [] h e = cc
dec_start (x ∷ []) h (inl e) = record { within = omega arith; small = omega arith; left = rw (and_no (eqb x 48)) }
dec_start (x ∷ y ∷ t) h (inl e) = absurd (omega (arith, e.1))
dec_start (x ∷ t) h (inr n) = record { within = omega arith; small = omega arith; left = rw (ne_eqb x 48 n) }

module _ (s : List ℕ) (v i : ℕ) (inv : Counted s v i) where
  -- `decimal`, no byte is left: v is `decimal` of the definitions, up to the largest (`capped`)
  pub dec_done : length s ≤ i → Some v ≡ capped (decimal s)
  unfolding taken decimal_on
  dec_done h = rw (inv.left, drop_of_length-le s h, ← cap_within v inv.small)

  module _ (h : i < length s) where
    -- `decimal`, byte i is no digit: `decimal` of the definitions is malformed
    pub dec_bad : None ≡ digit_value (get_or s i 0) → None ≡ capped (decimal s)
    unfolding taken decimal_on pick
    dec_bad e = rw (inv.left, drop-cons s i 0 h, digit_no _ e)

    module _ (d : ℕ) (e : Some d ≡ digit_value (get_or s i 0)) where
      pub dec_fits : Fits w32 (v * 10 + d)
      dec_fits = record { fits = omega (arith, inv.small, digit_small _ d e) }

      -- `decimal`, byte i is a digit: `decimal` of the definitions is left from the next byte on
      pub dec_next : (r : ℕ) → r ≡ min (v * 10 + d) largest → Counted s r (i + 1)
      unfolding decimal_on pick
      dec_next r m =
          let is = digit_is (get_or s i 0) d e in
          let c : r ≡ cap (v * 10 + (get_or s i 0 - 48)) = m ∙ (cap_min (v * 10 + d) ∙ rw is.1) in
          record {
            within = omega arith;
            small = omega (arith, m);
            left = rw (c, inv.left, add-one, drop-cons s i 0 h, is.0) (sym (capped_on (v * 10 + (get_or s i 0 - 48)) (drop (suc i) s)));
          }

pub ruleset decimal_laws = (rules, dec_empty, dec_lead, dec_start, dec_done, dec_bad, dec_fits, dec_next)

-- ---- what a caller has of an answer
pub taken_none : {A B : Type 0} (f : A → B) (p : Parsed A) → None ≡ taken f p → p ≡ malformed
unfolding taken
taken_none f (formed a) e = absurd (none-some (f a) e)
taken_none f malformed e = refl

pub exact_number : (p : Parsed ℕ) (v : ℕ) → Some v ≡ exact p → p ≡ formed v
unfolding taken
exact_number (formed w) v e = cc
exact_number malformed v e = cc

-- the number of a decimal field that is answered as v
pub record Read (p : Parsed ℕ) (v : ℕ) : Type 0 where
  pub number : ℕ
  pub is : p ≡ formed number
  pub answered : v ≡ cap number

pub capped_read : (p : Parsed ℕ) (v : ℕ) → Some v ≡ capped p → Read p v
unfolding taken
capped_read (formed w) v e = record { number = w; is = refl; answered = cc }
capped_read malformed v e = absurd (none-some v (sym e))
