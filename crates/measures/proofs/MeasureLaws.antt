-- Laws of the reader of signed numbers: one for each return.
use mathlib.Core.Path.{◌≡◌, refl, sym, ◌∙◌}
use Prim.Native.Nat.{ℕ, zero, suc, ◌+◌, ◌*◌, ◌<◌, ◌≤◌, min}
use mir.Syntax.{w32}
use mir.Val.{Fits, SFits}
use mathlib.Core.Bool.{Bool, true, false}
use mathlib.Core.List.{List, [], ◌∷◌}
use lib.ListN.{length, take, drop, get_or}
use lib.IntN.{ℤ, pos, neg_ℤ}
use lib.Dec.{ltb, eqb}
use native.Mathlib.Omega.{arith}
use borrow.Author.Rules.{rules}
use borrow.Author.Tests.{eq-eqb, ne_eqb, ltb-true, ltb-false, lt-leb}
use Rattle.std.specs.Prelude.{Some, None, Result, Ok, Err}
use Rattle.std.specs.Cmp.Lexicographic.{pointwise}
use Rattle.definitions.specs.Bounded.{pick}
use Rattle.definitions.specs.Lines.{before, Parsed, formed, malformed, on_parsed, decimal}
use Rattle.theorems.proofs.Choice.{by_test, both_true}
use Rattle.theorems.proofs.MeasureLaws.{decimals_back}
use Rattle.lines.specs.Parts.{split}
use Rattle.lines.proofs.PartLaws.{split_no, split_yes}
use Rattle.fields.specs.Fields.{largest, cap, digit_value, taken, capped, exact}
use Rattle.fields.proofs.FieldLaws.{and_yes, cap_over, cap_within, cap_le, cap_exact, cap_min, digit_is, digit_no, digit_small, taken_none, exact_number, Read, capped_read}
use Rattle.definitions.specs.Measures.{point, minus, is_digit, decimals, hundredths, below_zero, measure, in_limits}
use Rattle.measures.proofs.SignLaws.{held, held_is, plain_small, negated_small}
use Rattle.measures.specs.Answers.{limited_to, limited}
use Rattle.measures.specs.declared.Flaw.{Flaw}
use Rattle.measures.specs.declared.Flaw.TheVariants.{Outside, Malformed}

-- ---- `decimals`
module _ (s : List ℕ) where
  -- `decimals`, not two bytes: `decimals` of the definitions is malformed
  other_length : (length s ≡ 2 → ⊥) → None ≡ exact (decimals s)
  unfolding taken decimals pick
  other_length h = rw (ne_eqb (length s) 2 h)

  pub decimals_short : length s < 2 → None ≡ exact (decimals s)
  decimals_short h = other_length (λ e. omega arith)

  pub decimals_long : 3 ≤ length s → None ≡ exact (decimals s)
  decimals_long h = other_length (λ e. omega arith)

  module _ (h : length s ≡ 2) where
    -- `decimals`, the first byte is no digit: `decimals` is malformed
    pub tens_bad : None ≡ digit_value (get_or s 0 0) → None ≡ exact (decimals s)
    unfolding taken decimals is_digit pick
    tens_bad e = rw (eq-eqb (length s) 2 h, digit_no (get_or s 0 0) e)

    module _ (d : ℕ) (e : Some d ≡ digit_value (get_or s 0 0)) where
      -- `decimals`, the second byte is no digit: `decimals` is malformed
      pub ones_bad : None ≡ digit_value (get_or s 1 0) → None ≡ exact (decimals s)
      unfolding taken decimals is_digit pick
      ones_bad n = rw (eq-eqb (length s) 2 h, (digit_is (get_or s 0 0) d e).0, digit_no (get_or s 1 0) n)

      -- `decimals`, two digits: their number is `decimals`
      pub both_digits : (f : ℕ) → Some f ≡ digit_value (get_or s 1 0) → Some (d * 10 + f) ≡ exact (decimals s)
      unfolding taken decimals is_digit pick
      both_digits f g =
          let a = digit_is (get_or s 0 0) d e in
          let b = digit_is (get_or s 1 0) f g in
          rw (eq-eqb (length s) 2 h, a.0, b.0, a.1, b.1)

decimals_small : (s : List ℕ) (d : ℕ) → decimals s ≡ formed d → d ≤ 99
decimals_small s d e = let b = decimals_back s d e in omega (arith, b.small)

pub two_digits_fit : (d f x y : ℕ) → Some d ≡ digit_value x → Some f ≡ digit_value y → Fits w32 (d * 10 + f)
two_digits_fit d f x y e g = record { fits = omega (arith, digit_small x d e, digit_small y f g) }

pub tens_fit : (d x : ℕ) → Some d ≡ digit_value x → Fits w32 (d * 10)
tens_fit d x e = record { fits = omega (arith, digit_small x d e) }

pub ruleset decimals_laws = (rules, decimals_short, decimals_long, tens_bad, ones_bad, both_digits, two_digits_fit, tens_fit)

-- ---- `hundredths`
-- hundredths of a whole number that was read up to the largest
cap_hundreds : (w d : ℕ) → cap (cap w * 100 + d) ≡ cap (w * 100 + d)
cap_hundreds w d = by_test (ltb largest w) over (λ e. rw (← cap_within w (ltb-false largest w e)))
  where
    over : ltb largest w ≡ true → cap (cap w * 100 + d) ≡ cap (w * 100 + d)
    over e =
        let g = ltb-true largest w e in
        rw (← cap_over w g) (sym (cap_over (largest * 100 + d) (omega arith)) ∙ cap_over (w * 100 + d) (omega arith))

capped_value : (m d w r : ℕ) → w ≡ cap m → r ≡ min (w * 100 + d) largest → r ≡ cap (m * 100 + d)
capped_value m d w r a q = q ∙ (cap_min (w * 100 + d) ∙ rw a (cap_hundreds m d))

module _ (s : List ℕ) where
  -- `hundredths`, no point: `hundredths` of the definitions is malformed
  pub hundredths_missed : None ≡ split point s → None ≡ capped (hundredths s)
  unfolding taken hundredths pick
  hundredths_missed e = rw (split_no point s e)

  module _ (x y : List ℕ) (parts : Some (x, y) ≡ split point s) where
    by_parts : hundredths s ≡ on_parsed (decimal x) malformed (λ w. on_parsed (decimals y) malformed (λ d. formed (w * 100 + d)))
    unfolding hundredths pick
    by_parts = let p = split_yes point s x y parts in rw (p.there, p.front, p.back)

    -- `hundredths`, what stands before the point is malformed: `hundredths` is too
    pub hundredths_whole : None ≡ capped (decimal x) → None ≡ capped (hundredths s)
    unfolding taken on_parsed
    hundredths_whole e = rw (by_parts, taken_none cap (decimal x) e)

    module _ (w : ℕ) (one : Some w ≡ capped (decimal x)) where
      whole : Read (decimal x) w
      whole = capped_read (decimal x) w one

      whole_small : w ≤ largest
      whole_small = rw whole.answered (cap_le whole.number)

      pub whole_fits : Fits w32 (w * 100)
      whole_fits = record { fits = omega (arith, whole_small) }

      -- `hundredths`, no two decimals: `hundredths` is malformed
      pub hundredths_part : None ≡ exact (decimals y) → None ≡ capped (hundredths s)
      unfolding taken on_parsed
      hundredths_part e = rw (by_parts, whole.is, taken_none (λ v. v) (decimals y) e)

      module _ (d : ℕ) (two : Some d ≡ exact (decimals y)) where
        pub parts_fit : Fits w32 (w * 100 + d)
        parts_fit = record { fits = omega (arith, whole_small, decimals_small y d (exact_number (decimals y) d two)) }

        -- `hundredths`, both parts are read: they are `hundredths`, up to the largest (`capped`)
        pub hundredths_read : (r : ℕ) → r ≡ min (w * 100 + d) largest → Some r ≡ capped (hundredths s)
        unfolding taken on_parsed
        hundredths_read r q = rw (by_parts, whole.is, exact_number (decimals y) d two, capped_value whole.number d w r whole.answered q)

pub ruleset hundredths_laws = (rules, hundredths_missed, hundredths_whole, whole_fits, hundredths_part, parts_fit, hundredths_read)

-- ---- `read`
-- a number above the largest of a field is outside the limits, with either sign
outside_plain : (n : ℕ) → 32767 < n → limited_to (pos n) ≡ Err Outside
unfolding limited_to in_limits pick
outside_plain n h = rw (lt-leb n 32767 h)

outside_minus : (n : ℕ) → 32768 < n → limited_to (neg_ℤ (pos n)) ≡ Err Outside
unfolding limited_to in_limits pick
outside_minus zero h = absurd (omega arith)
outside_minus (suc n) h = rw (lt-leb n 32767 (omega arith))

cap_plain : (n : ℕ) → limited_to (pos (cap n)) ≡ limited_to (pos n)
cap_plain n =
    by_test (ltb largest n)
    (λ e. let g = ltb-true largest n e in rw (← cap_over n g) (outside_plain largest (omega arith) ∙ sym (outside_plain n (omega arith))))
    (λ e. rw (← cap_within n (ltb-false largest n e)))

cap_minus : (n : ℕ) → limited_to (neg_ℤ (pos (cap n))) ≡ limited_to (neg_ℤ (pos n))
cap_minus n =
    by_test (ltb largest n)
    (λ e. let g = ltb-true largest n e in rw (← cap_over n g) (outside_minus largest (omega arith) ∙ sym (outside_minus n (omega arith))))
    (λ e. rw (← cap_within n (ltb-false largest n e)))

cap_nonzero : (m n : ℕ) → n ≡ cap m → (n ≡ 0 → ⊥) → m ≡ 0 → ⊥
unfolding cap pick
cap_nonzero m n a o z = o (rw z at a)

minus_limited : (m n : ℕ) (z y : ℤ) → y ≡ z → z ≡ neg_ℤ (pos n) → n ≡ cap m → limited_to y ≡ limited_to (neg_ℤ (pos m))
minus_limited m n z y a b e = rw (a, b, e) (cap_minus m)

plain_limited : (m n : ℕ) (z y : ℤ) → y ≡ z → z ≡ pos n → n ≡ cap m → limited_to y ≡ limited_to (pos m)
plain_limited m n z y a b e = rw (a, b, e) (cap_plain m)

-- what was read fits a signed number
pub number_small : (p : Parsed ℕ) (n : ℕ) → Some n ≡ capped p → n ≤ largest
number_small p n e = let q = capped_read p n e in rw q.answered (cap_le q.number)

-- the text begins with a minus
abbrev opens : List ℕ → Bool
opens s = pointwise eqb (take 1 s) (minus ∷ [])

minus_first : (s t : List ℕ) → opens s ≡ true → t ≡ drop 1 s → measure s ≡ on_parsed (hundredths t) malformed below_zero
unfolding measure pick
minus_first [] t m ts = cc
minus_first (x ∷ u) t m ts = let e : t ≡ u = ts in rw ((both_true (eqb x minus) true m).0, e)

module _ (s t : List ℕ) (m : opens s ≡ true) (ts : t ≡ drop 1 s) where
  -- `read`, a minus and no number: `measure` is malformed
  pub read_minus_form : None ≡ capped (hundredths t) → Err Malformed ≡ limited (measure s)
  unfolding limited on_parsed
  read_minus_form e = rw (minus_first s t m ts, taken_none cap (hundredths t) e)

  module _ (n : ℕ) (e : Some n ≡ capped (hundredths t)) where
    -- `read`, a minus and zero: `measure` is malformed, by `below_zero`
    pub read_minus_zero : n ≡ 0 → Err Malformed ≡ limited (measure s)
    unfolding limited on_parsed below_zero pick
    read_minus_zero z =
        let a = capped_read (hundredths t) n e in
        let c = cap_exact a.number (omega (arith, a.answered)) in
        rw (minus_first s t m ts, a.is, eq-eqb a.number 0 (omega (arith, a.answered, c)))

    -- `read`, a minus and a number: `measure` is that number negated
    pub read_minus : (n ≡ 0 → ⊥) → (z : ℤ) → z ≡ neg_ℤ (pos n) → (r : Result ℤ Flaw) → r ≡ limited_to (held z) → r ≡ limited (measure s)
    unfolding limited on_parsed below_zero pick
    read_minus o z q r g =
        let fits : SFits w32 z = rw q (negated_small n (number_small (hundredths t) n e)) in
        let a = capped_read (hundredths t) n e in
        let b = cap_nonzero a.number n a.answered o in
        let v : r ≡ limited_to (neg_ℤ (pos a.number)) = g ∙ minus_limited a.number n z (held z) (held_is z fits) q a.answered in
        rw (minus_first s t m ts, a.is, ne_eqb a.number 0 b) v

plain_first : (s : List ℕ) → opens s ≡ false → measure s ≡ on_parsed (hundredths s) malformed (λ n. formed (pos n))
unfolding measure hundredths before on_parsed pick
plain_first [] m = refl
plain_first (x ∷ u) m = let n : eqb x minus ≡ false = sym (and_yes (eqb x minus)) ∙ m in rw n

module _ (s : List ℕ) (m : opens s ≡ false) where
  -- `read`, no minus and no number: `measure` is malformed
  pub read_plain_form : None ≡ capped (hundredths s) → Err Malformed ≡ limited (measure s)
  unfolding limited on_parsed
  read_plain_form e = rw (plain_first s m, taken_none cap (hundredths s) e)

  -- `read`, a number without a minus: `measure` is it
  pub read_plain : (n : ℕ) → Some n ≡ capped (hundredths s) → (z : ℤ) → z ≡ pos n → (r : Result ℤ Flaw) → r ≡ limited_to (held z) → r ≡ limited (measure s)
  unfolding limited on_parsed
  read_plain n e z q r g =
      let fits : SFits w32 z = rw q (plain_small n (number_small (hundredths s) n e)) in
      let a = capped_read (hundredths s) n e in
      let v : r ≡ limited_to (pos a.number) = g ∙ plain_limited a.number n z (held z) (held_is z fits) q a.answered in
      rw (plain_first s m, a.is) v

pub ruleset read_laws = (rules, number_small, read_minus_form, read_minus_zero, read_minus, read_plain_form, read_plain)

-- ---- what a caller has of an answer
-- a number as it was read
pub limited_value : (p : Parsed ℤ) (z : ℤ) → Ok z ≡ limited p → (p ≡ formed z) × (in_limits z ≡ true)
unfolding limited limited_to pick
limited_value (formed v) z e = by_test (in_limits v) (λ h. let is : Ok z ≡ Ok v = rw h at e in let d : z ≡ v = cc in (rw d, rw d h)) (λ h. let is : Ok z ≡ Err Outside = rw h at e in cc)
limited_value malformed z e = cc

-- outside its limits
pub record Beyond (p : Parsed ℤ) : Type 0 where
  pub value : ℤ
  pub is : p ≡ formed value
  pub out : in_limits value ≡ false

pub limited_outside : (p : Parsed ℤ) → Err Outside ≡ limited p → Beyond p
unfolding limited limited_to pick
limited_outside (formed v) e = by_test (in_limits v) (λ h. let is : Err Outside ≡ Ok v = rw h at e in cc) (λ h. record { value = v; is = refl; out = h })
limited_outside malformed e = cc

pub limited_malformed : (p : Parsed ℤ) → Err Malformed ≡ limited p → p ≡ malformed
unfolding limited limited_to pick
limited_malformed (formed v) e = by_test (in_limits v) (λ h. let is : Err Malformed ≡ Ok v = rw h at e in cc) (λ h. let is : Err Malformed ≡ Err Outside = rw h at e in cc)
limited_malformed malformed e = refl
