-- Numbers printed and read again, and read and printed again.
use mathlib.Core.Path.{◌≡◌, refl, ap, sym, ◌∙◌}
use Prim.Native.Nat.{ℕ, zero, suc, ◌+◌, ◌-◌, ◌*◌, ◌/◌, ◌%◌, ◌<◌, ◌≤◌}
use native.Mathlib.Nat.{div-lt_self}
use mathlib.Core.List.{List, [], ◌∷◌, ◌++◌, append_assoc, append-nil}
use mathlib.Core.Bool.{true, false, not, ◌&&◌}
use lib.ListN.{length, get_or, length-append, get_or-append}
use native.Mathlib.Omega.{arith}
use lib.Dec.{eqb, ltb, leb}
use borrow.Author.Tests.{lt-ltb, le-ltb, ltb-true, ltb-false, le-leb, leb-true, eq-eqb, ne_eqb, eqb-true, eqb-false}
use Rattle.definitions.specs.Bounded.{pick, within}
use Rattle.definitions.specs.Lines.{formed, malformed, is_empty, decimal_on, decimal, digits_by, digits}
use Rattle.theorems.proofs.Choice.{by_test, both_true, pick_true, pick_false, pick_must, pick_other}
use Rattle.theorems.proofs.Inversions.{never_formed, formed_same}
use Rattle.theorems.proofs.SplitLaws.{Without, without_one, without_append}

pub tenth_below : (n f : ℕ) → 10 ≤ n → n ≤ suc f → n / 10 ≤ f
tenth_below n f h l = omega (arith, div-lt_self {n = n} {k = 10} (omega arith) (omega arith))

-- more room than digits changes nothing
digits_by_lem : (f g n : ℕ) → n ≤ f → n ≤ g → digits_by f n ≡ digits_by g n
unfolding digits_by pick
digits_by_lem zero zero n p q = refl
digits_by_lem zero (suc g) n p q = rw (lt-ltb n 10 (omega arith))
digits_by_lem (suc f) zero n p q = rw (lt-ltb n 10 (omega arith))
digits_by_lem (suc f) (suc g) n p q =
    by_test (ltb n 10)
    (λ e. rw e)
    (λ e. let l = ltb-false n 10 e in rw (e, digits_by_lem f g (n / 10) (tenth_below n f l p) (tenth_below n g l q)))

pub digits_small : (n : ℕ) → n < 10 → digits n ≡ (48 + n) ∷ []
unfolding digits digits_by pick
digits_small zero h = refl
digits_small (suc m) h = rw (lt-ltb (suc m) 10 h)

pub digits_step : (n : ℕ) → 10 ≤ n → digits n ≡ digits (n / 10) ++ ((48 + n % 10) ∷ [])
unfolding digits digits_by pick
digits_step zero h = absurd (omega arith)
digits_step (suc m) h =
    rw (le-ltb (suc m) 10 h, digits_by_lem m (suc m / 10) (suc m / 10) (tenth_below (suc m) m h (omega arith)) (omega arith))

-- a law of printed numbers, from its law for one digit and for one digit more
by_digits : (P : List ℕ → ℕ → Type 0) → ((n : ℕ) → n < 10 → P ((48 + n) ∷ []) n)
    → ((n : ℕ) → 10 ≤ n → P (digits (n / 10)) (n / 10) → P (digits (n / 10) ++ ((48 + n % 10) ∷ [])) n)
    → (f n : ℕ) → n ≤ f → P (digits n) n
by_digits P one next zero n p = rw (digits_small n (omega arith)) (one n (omega arith))
by_digits P one next (suc f) n p =
    by_test (ltb n 10)
    (λ e. rw (digits_small n (ltb-true n 10 e)) (one n (ltb-true n 10 e)))
    (λ e. let l = ltb-false n 10 e in rw (digits_step n l) (next n l (by_digits P one next f (n / 10) (tenth_below n f l p))))

-- a byte below the digits is in no number
pub digits_without : (b n : ℕ) → b < 48 → Without b (digits n)
digits_without b n h =
    by_digits (λ l m. Without b l)
    (λ m s. without_one b (48 + m) (omega arith))
    (λ m l ih. without_append b (digits (m / 10)) ((48 + m % 10) ∷ []) ih (without_one b (48 + m % 10) (omega arith)))
    n n (omega arith)

pub two_digits : (n : ℕ) → n < 100 → length (digits n) ≤ 2
two_digits n h =
    by_test (ltb n 10)
    (λ e. rw (digits_small n (ltb-true n 10 e)) (omega arith))
    (λ e. rw (digits_step n (ltb-false n 10 e), digits_small (n / 10) (omega arith)) (omega arith))

-- a digit of a decimal field
module _ (v x : ℕ) (t : List ℕ) where
  on_digit : 48 ≤ x → x ≤ 57 → decimal_on v (x ∷ t) ≡ decimal_on (v * 10 + (x - 48)) t
  unfolding decimal_on
  on_digit l h = pick_true (within 48 57 x) (decimal_on (v * 10 + (x - 48)) t) malformed (rw (le-leb 48 x l, le-leb x 57 h))

  digit_must : (n : ℕ) → decimal_on v (x ∷ t) ≡ formed n → ((48 ≤ x) × (x ≤ 57)) × (decimal_on (v * 10 + (x - 48)) t ≡ formed n)
  unfolding decimal_on
  digit_must n e =
      let p = pick_must (formed n) (within 48 57 x) (decimal_on (v * 10 + (x - 48)) t) malformed e (never_formed n) in
      let q = both_true (leb 48 x) (leb x 57) p.0 in
      ((leb-true 48 x q.0, leb-true x 57 q.1), p.1)

on_none : (v : ℕ) → decimal_on v [] ≡ formed v
unfolding decimal_on
on_none v = refl

-- a digit that follows
on_last : (l : List ℕ) (v u d : ℕ) → d < 10 → decimal_on v l ≡ formed u → decimal_on v (l ++ ((48 + d) ∷ [])) ≡ formed (u * 10 + d)
on_last [] v u d h e =
    let q : v ≡ u = formed_same v u (sym (on_none v) ∙ e) in
    let r : v * 10 + (48 + d - 48) ≡ u * 10 + d = omega arith in
    on_digit v (48 + d) [] (omega arith) (omega arith) ∙ rw r (on_none (u * 10 + d))
on_last (x ∷ t) v u d h e =
    let p = digit_must v x t u e in
    on_digit v x (t ++ ((48 + d) ∷ [])) p.0.0 p.0.1 ∙ on_last t (v * 10 + (x - 48)) u d h p.1

digits_on : (n : ℕ) → decimal_on 0 (digits n) ≡ formed n
digits_on n =
    by_digits (λ l m. decimal_on 0 l ≡ formed m)
    (λ m s. let e : 0 * 10 + m ≡ m = omega arith in on_last [] 0 0 m s (on_none 0) ∙ ap formed e)
    (λ m l ih. let e : m / 10 * 10 + m % 10 ≡ m = omega arith in on_last (digits (m / 10)) 0 (m / 10) (m % 10) (omega arith) ih ∙ rw e)
    n n (omega arith)

-- the first digit of a number above 0 is not 0
first_digit : (n : ℕ) → 0 < n → (0 < length (digits n)) × (get_or (digits n) 0 0 ≡ 48 → ⊥)
first_digit n =
    by_digits (λ l m. 0 < m → (0 < length l) × (get_or l 0 0 ≡ 48 → ⊥))
    (λ m s h. (omega arith, λ q. omega arith))
    (λ m l ih h.
    let f = ih (omega arith) in
    (rw length-append (omega arith), rw (get_or-append (digits (m / 10)) ((48 + m % 10) ∷ []) 0 0 f.0) f.1))
    n n (omega arith)

decimal_digits : (s : List ℕ) → 0 < length s → (get_or s 0 0 ≡ 48 → ⊥) → decimal s ≡ decimal_on 0 s
unfolding decimal
decimal_digits [] h n = absurd (omega arith)
decimal_digits (x ∷ t) h n = pick_false (eqb x 48 && not (is_empty t)) malformed (decimal_on 0 (x ∷ t)) (rw (ne_eqb x 48 n))

decimal_zero : decimal (48 ∷ []) ≡ decimal_on 0 (48 ∷ [])
unfolding decimal pick
decimal_zero = refl

-- a number that is printed reads as that number
pub printed_reads : (n : ℕ) → decimal (digits n) ≡ formed n
printed_reads zero = rw (digits_small 0 (omega arith)) (decimal_zero ∙ on_last [] 0 0 0 (omega arith) (on_none 0))
printed_reads (suc m) = let f = first_digit (suc m) (omega arith) in decimal_digits (digits (suc m)) f.0 f.1 ∙ digits_on (suc m)

digits_more : (u d : ℕ) → 0 < u → d < 10 → digits (u * 10 + d) ≡ digits u ++ ((48 + d) ∷ [])
digits_more u d h l =
    let q : (u * 10 + d) / 10 ≡ u = omega arith in
    let r : (u * 10 + d) % 10 ≡ d = omega arith in
    digits_step (u * 10 + d) (omega arith) ∙ rw (q, r)

-- what follows the digits of u, above 0, is printed after them
more_printed : (t : List ℕ) (u v : ℕ) → 0 < u → decimal_on u t ≡ formed v → digits v ≡ digits u ++ t
more_printed [] u v h e = rw (formed_same u v (sym (on_none u) ∙ e)) (sym (append-nil (digits v)))
more_printed (x ∷ t) u v h e =
    let p = digit_must u x t v e in
    let l : 48 ≤ x = p.0.0 in
    let k : x ≤ 57 = p.0.1 in
    let d : 48 + (x - 48) ≡ x = omega arith in
    more_printed t (u * 10 + (x - 48)) v (omega arith) p.1 ∙ rw (digits_more u (x - 48) h (omega arith), d) (append_assoc (digits u) (x ∷ []) t)

-- "no leading zeros": a zero stands alone
zero_alone : (x : ℕ) (t : List ℕ) → (eqb x 48 && not (is_empty t)) ≡ false → x ≡ 48 → t ≡ []
zero_alone x [] z q = refl
zero_alone x (y ∷ t) z q = let b : true ≡ false = rw (eq-eqb x 48 q, ne_eqb (suc (length t)) 0 (λ o. omega arith)) at z in cc

-- a decimal field is its number as printed
pub read_prints : (s : List ℕ) (v : ℕ) → decimal s ≡ formed v → digits v ≡ s
unfolding decimal
read_prints [] v e = absurd (never_formed v e)
read_prints (x ∷ t) v e =
    let z = pick_other (formed v) (eqb x 48 && not (is_empty t)) malformed (decimal_on 0 (x ∷ t)) e (never_formed v) in
    let p = digit_must 0 x t v z.1 in
    let l : 48 ≤ x = p.0.0 in
    let k : x ≤ 57 = p.0.1 in
    let d : 48 + (x - 48) ≡ x = omega arith in
    let w : 0 * 10 + (x - 48) ≡ x - 48 = omega arith in
    let f : decimal_on (x - 48) t ≡ formed v = rw w at p.1 in
    by_test (eqb x 48)
    (λ y.
    let q = eqb-true x 48 y in
    let n = zero_alone x t z.0 q in
    let o : x - 48 ≡ v = formed_same (x - 48) v (sym (on_none (x - 48)) ∙ (rw n at f)) in
    let r : v ≡ 0 = omega arith in
    rw (q, n, r) (digits_small 0 (omega arith)))
    (λ y. let n = eqb-false x 48 y in more_printed t (x - 48) v (omega arith) f ∙ rw (digits_small (x - 48) (omega arith), d))
