-- Laws of words of marks: a word's bits are its marks, and the word operations are the operators.
use Rattle.std.proofs.Common.{◌≡◌, ℕ, zero, suc, ◌+◌, ◌-◌, ◌*◌, ◌/◌, ◌%◌, ◌^◌, ◌<◌, ◌≤◌, min, max, Bool, true, false, not, ◌&&◌, ◌||◌, eqb, List, [], ◌∷◌, map, length, get_or, take, drop, replicate, sym, refl, ap, ◌∙◌, ap₂, ⊎_elim, lt_of_lt_of_le, lt_of_le_of_lt, mod-eq_of_lt, mul_comm, suc-add, one-mul, pow-suc, div-add-mod', zero-add, div-one, arith, pow_mono, shr-shr, w64, Fits, rules}
use mathlib.Core.Bool.{and-true}
use native.Mathlib.Nat.{div-div-eq-div-mul, zero-div}
use lib.Pow.{pow-lt}
use lib.Count.{ones, ones_in, ones_step}
use lib.Bits.{bit_and, bit_or, bit_xor, differ, and_step, or_step, xor_step, and_zero_r, and_shr, and_mod, xor_mod, and_le_l, and_mask}
use lib.ListN.{get_or-replicate, get_or-eq_default}
use Rattle.definitions.specs.Limits.{word_marks}
use Rattle.definitions.specs.Bounded.{bit, bit_of, tabulate_from}
use Rattle.definitions.specs.Readings.{marks_word}
use Rattle.mark_words.specs.declared.Reach.{Reach}
use Rattle.mark_words.specs.Marks.{mark_at, yes_marks}
use Rattle.mark_words.specs.Lists.{zip, last_only, until_row, since_row}
use Rattle.mark_words.specs.Words.{found_in, held_in, Window, gathered}
use Rattle.theorems.proofs.Tabulations.{tabulate_length}
use Rattle.theorems.proofs.BitLaws.{bit_or_lem}
use Rattle.mark_words.proofs.OperatorLaws.{lt_or_le, and_join, until_at_lem, until_length}

-- ---- a bit as a number

pub bit_few : (b : Bool) → bit b ≤ 1
bit_few true = omega arith
bit_few false = omega arith

pub bit_number : (w a : ℕ) → w / 2 ^ a % 2 ≡ bit (bit_of w a)
unfolding bit_of
bit_number w a =
    ⊎_elim
    (λ (h : w / 2 ^ a % 2 < 1). let e : w / 2 ^ a % 2 ≡ 0 = omega arith in rw e)
    (λ (h : 1 ≤ w / 2 ^ a % 2). let e : w / 2 ^ a % 2 ≡ 1 = omega arith in rw e)
    (lt_or_le (w / 2 ^ a % 2) 1)

-- ---- the marks of a word

pub half : (b : Bool) (l : List Bool) → marks_word (b ∷ l) / 2 ≡ marks_word l
half true l = omega arith
half false l = omega arith

pub low : (b : Bool) (l : List Bool) → marks_word (b ∷ l) % 2 ≡ bit b
low true l = omega arith
low false l = omega arith

pub word_digit : (l : List Bool) (k : ℕ) → marks_word l / 2 ^ k % 2 ≡ bit (mark_at l k)
word_digit [] k = rw zero-div
word_digit (true ∷ l) zero = omega arith
word_digit (false ∷ l) zero = omega arith
word_digit (b ∷ l) (suc k) = rw (pow-suc, mul_comm (2 ^ k) 2, ← div-div-eq-div-mul, half b l) (word_digit l k)

pub bit_one : (b : Bool) → eqb (bit b) 1 ≡ b
bit_one true = refl
bit_one false = refl

pub word_bit : (k : ℕ) (l : List Bool) → bit_of (marks_word l) k ≡ mark_at l k
unfolding bit_of
word_bit k l = rw (word_digit, bit_one)

pub word_lt : (l : List Bool) → marks_word l < 2 ^ length l
word_lt [] = omega arith
word_lt (true ∷ l) = rw pow-suc (omega (arith, word_lt l))
word_lt (false ∷ l) = rw pow-suc (omega (arith, word_lt l))

pub word_fits : (l : List Bool) → length l ≤ word_marks → marks_word l < 2 ^ 64
word_fits l h = lt_of_lt_of_le (word_lt l) (pow_mono {i = length l} {j = 64} h)

pub ones_word : (l : List Bool) → ones (marks_word l) ≡ yes_marks l
unfolding ones ones_in
ones_word [] = refl
ones_word (b ∷ l) = ones_step (marks_word (b ∷ l)) ∙ rw (low b l, half b l, ones_word l)

-- ---- a word operation on one mark more

pub half_of : (x : ℕ) (b : Bool) → (x * 2 + bit b) / 2 ≡ x
half_of x true = omega arith
half_of x false = omega arith

pub low_of : (x : ℕ) (b : Bool) → (x * 2 + bit b) % 2 ≡ bit b
low_of x true = omega arith
low_of x false = omega arith

and_bit : (a b : Bool) → min (bit a) (bit b) ≡ bit (a && b)
and_bit true true = refl
and_bit true false = refl
and_bit false true = refl
and_bit false false = refl

or_bit : (a b : Bool) → max (bit a) (bit b) ≡ bit (a || b)
or_bit true true = refl
or_bit true false = refl
or_bit false true = refl
or_bit false false = refl

abbrev pub differs : Bool → Bool → Bool
differs true b = not b
differs false b = b

xor_bit : (a b : Bool) → differ (bit a) (bit b) ≡ bit (differs a b)
xor_bit true true = refl
xor_bit true false = refl
xor_bit false true = refl
xor_bit false false = refl

pub and_cons : (x y : ℕ) (a b : Bool) → bit_and (x * 2 + bit a) (y * 2 + bit b) ≡ bit_and x y * 2 + bit (a && b)
and_cons x y a b = and_step (x * 2 + bit a) (y * 2 + bit b) ∙ rw (half_of x a, half_of y b, low_of x a, low_of y b, and_bit a b)

pub or_cons : (x y : ℕ) (a b : Bool) → bit_or (x * 2 + bit a) (y * 2 + bit b) ≡ bit_or x y * 2 + bit (a || b)
or_cons x y a b = or_step (x * 2 + bit a) (y * 2 + bit b) ∙ rw (half_of x a, half_of y b, low_of x a, low_of y b, or_bit a b)

pub xor_cons : (x y : ℕ) (a b : Bool) → bit_xor (x * 2 + bit a) (y * 2 + bit b) ≡ bit_xor x y * 2 + bit (differs a b)
xor_cons x y a b = xor_step (x * 2 + bit a) (y * 2 + bit b) ∙ rw (half_of x a, half_of y b, low_of x a, low_of y b, xor_bit a b)

-- ---- the bits of a number

odd_bit : (m : ℕ) → m < 2 → m ≡ bit (eqb m 1)
odd_bit zero h = refl
odd_bit (suc zero) h = refl
odd_bit (suc (suc m)) h = absurd (omega arith)

odd_split : (x : ℕ) → x ≡ x / 2 * 2 + bit (eqb (x % 2) 1)
odd_split x = sym (div-add-mod' x 2) ∙ ap (λ (m : ℕ). x / 2 * 2 + m) (odd_bit (x % 2) (omega arith))

odd_and : (x y : ℕ) → eqb (bit_and x y % 2) 1 ≡ (eqb (x % 2) 1 && eqb (y % 2) 1)
odd_and x y =
    let e : bit_and x y ≡ bit_and (x / 2) (y / 2) * 2 + bit (eqb (x % 2) 1 && eqb (y % 2) 1) =
    ap₂ bit_and (odd_split x) (odd_split y) ∙ and_cons (x / 2) (y / 2) (eqb (x % 2) 1) (eqb (y % 2) 1) in
    ap (λ (m : ℕ). eqb (m % 2) 1) e ∙ rw (low_of, bit_one)

pub bit_and_lem : (k a b : ℕ) → bit_of (bit_and a b) k ≡ (bit_of a k && bit_of b k)
unfolding bit_of
bit_and_lem k a b = rw (and_shr a b k) (odd_and (a / 2 ^ k) (b / 2 ^ k))

pub bit_shr : (k d a : ℕ) → bit_of (a / 2 ^ d) k ≡ bit_of a (d + k)
unfolding bit_of
bit_shr k d a = ap (λ (m : ℕ). eqb (m % 2) 1) (shr-shr a d k)

-- numbers with the same bits are the same
pub same_bits : (n a b : ℕ) → a < 2 ^ n → b < 2 ^ n → ((k : ℕ) → bit_of a k ≡ bit_of b k) → a ≡ b
unfolding bit_of
same_bits zero a b ha hb h = omega arith
same_bits (suc n) a b ha hb h =
    let ha' : a < 2 ^ n * 2 = rw pow-suc at ha in
    let hb' : b < 2 ^ n * 2 = rw pow-suc at hb in
    let e : a / 2 ≡ b / 2 =
    same_bits n (a / 2) (b / 2) (omega arith) (omega arith) (λ k. bit_shr k 1 a ∙ h (1 + k) ∙ sym (bit_shr k 1 b)) in
    let z : eqb (a % 2) 1 ≡ eqb (b % 2) 1 = rw (div-one a, div-one b) at (h 0) in
    odd_split a ∙ ap₂ (λ (x : ℕ) (y : Bool). x * 2 + bit y) e z ∙ sym (odd_split b)

-- ---- a window of a places, then one of b places

found_joined : (q p x y z : Bool) → (q || (p && (x || (y && z)))) ≡ ((q || (p && x)) || ((p && y) && z))
found_joined true p x y z = refl
found_joined false true x y z = refl
found_joined false false x y z = refl

pub found_add : (p q : ℕ → Bool) (a b k : ℕ) → found_in p q (a + b) k ≡ (found_in p q a k || (held_in p a k && found_in p q b (a + k)))
unfolding found_in held_in
found_add p q zero b k = rw (zero-add b, zero-add k)
found_add p q (suc a) b k =
    let e : a + suc k ≡ suc a + k = omega arith in
    rw (suc-add a b, ← e, found_add p q a b (suc k))
    (found_joined (q k) (p k) (found_in p q a (suc k)) (held_in p a (suc k)) (found_in p q b (a + suc k)))

pub held_add : (p : ℕ → Bool) (a b k : ℕ) → held_in p (a + b) k ≡ (held_in p a k && held_in p b (a + k))
unfolding held_in
held_add p zero b k = rw (zero-add b, zero-add k)
held_add p (suc a) b k =
    let e : a + suc k ≡ suc a + k = omega arith in
    rw (suc-add a b, ← e, held_add p a b (suc k)) (and_join (p k) (held_in p a (suc k)) (held_in p b (a + suc k)))

-- `doubled`: a window of d places becomes one of twice as many
pub window_more : (ps qs : List Bool) (d : ℕ) (w : Reach) → Window ps qs d w
    → Window ps qs (d + d) (record { found = bit_or w.found (bit_and w.held (w.found / 2 ^ d)); held = bit_and w.held (w.held / 2 ^ d) })
window_more ps qs d w h =
    record {
      finds = λ k. rw (bit_or_lem, bit_and_lem, bit_shr, h.finds k, h.holds k, h.finds (d + k)) (sym (found_add (mark_at ps) (mark_at qs) d d k));
      holds = λ k. rw (bit_and_lem, bit_shr, h.holds k, h.holds (d + k)) (sym (held_add (mark_at ps) d d k));
    }

found_one : (p q : Bool) → q ≡ (q || (p && false))
found_one p true = refl
found_one true false = refl
found_one false false = refl

pub window_one : (ps qs : List Bool) → Window ps qs 1 (record { found = marks_word qs; held = marks_word ps })
unfolding found_in held_in
window_one ps qs =
    record {
      finds = λ k. word_bit k qs ∙ found_one (mark_at ps k) (mark_at qs k);
      holds = λ k. word_bit k ps ∙ sym (and-true (mark_at ps k));
    }

-- ---- the window that reaches past the end

none_past : (l : List Bool) (k : ℕ) → length l ≤ k → mark_at l k ≡ false
none_past l k h = get_or-eq_default l false h

until_every : (ps qs : List Bool) (k : ℕ) → length ps ≡ length qs
    → mark_at (until_row false ps qs) k ≡ (mark_at qs k || (mark_at ps k && mark_at (until_row false ps qs) (suc k)))
until_every [] [] k h = refl
until_every [] (q ∷ qs) k h = absurd (omega arith)
until_every (p ∷ ps) [] k h = absurd (omega arith)
until_every (p ∷ ps) (q ∷ qs) zero h = until_at_lem false (p ∷ ps) (q ∷ qs) 0 h (omega arith)
until_every (p ∷ ps) (q ∷ qs) (suc k) h = until_every ps qs k (omega arith)

pub found_until : (ps qs : List Bool) (d k : ℕ) → length ps ≡ length qs → length ps ≤ k + d → found_in (mark_at ps) (mark_at qs) d k ≡ mark_at (until_row false ps qs) k
unfolding found_in
found_until ps qs zero k h le = sym (none_past (until_row false ps qs) k (rw (until_length false ps qs h) (omega arith)))
found_until ps qs (suc d) k h le = rw (found_until ps qs d (suc k) h (omega arith)) (sym (until_every ps qs k h))

-- `until_word`: a window that reaches past the last mark is `until_row`
pub window_until : (ps qs : List Bool) (w : Reach) → w.found < 2 ^ 64 → length ps ≡ length qs → length ps ≤ word_marks → Window ps qs 64 w → w.found ≡ marks_word (until_row false ps qs)
window_until ps qs w fits h le v =
    same_bits 64 w.found (marks_word (until_row false ps qs)) fits (word_fits (until_row false ps qs) (rw (until_length false ps qs h) le))
    (λ k. v.finds k ∙ found_until ps qs 64 k h (omega arith) ∙ sym (word_bit k (until_row false ps qs)))

-- ---- marks joined place by place

zip_nil : (f : Bool → Bool → Bool) (a : List Bool) → zip f a [] ≡ []
zip_nil f [] = refl
zip_nil f (x ∷ a) = refl

pub take_zip : (f : Bool → Bool → Bool) (n : ℕ) (a b : List Bool) → take n (zip f a b) ≡ zip f (take n a) (take n b)
take_zip f zero a b = refl
take_zip f (suc n) [] b = refl
take_zip f (suc n) (x ∷ a) [] = refl
take_zip f (suc n) (x ∷ a) (y ∷ b) = ap (λ (l : List Bool). f x y ∷ l) (take_zip f n a b)

pub drop_zip : (f : Bool → Bool → Bool) (n : ℕ) (a b : List Bool) → drop n (zip f a b) ≡ zip f (drop n a) (drop n b)
drop_zip f zero a b = refl
drop_zip f (suc n) [] b = refl
drop_zip f (suc n) (x ∷ a) [] = sym (zip_nil f (drop n a))
drop_zip f (suc n) (x ∷ a) (y ∷ b) = drop_zip f n a b

pub word_and : (a b : List Bool) → bit_and (marks_word a) (marks_word b) ≡ marks_word (zip ◌&&◌ a b)
word_and [] b = refl
word_and (x ∷ a) [] = and_zero_r (marks_word (x ∷ a))
word_and (x ∷ a) (y ∷ b) = and_cons (marks_word a) (marks_word b) x y ∙ rw (word_and a b)

pub word_or : (a b : List Bool) → length a ≡ length b → bit_or (marks_word a) (marks_word b) ≡ marks_word (zip ◌||◌ a b)
word_or [] [] h = refl
word_or [] (y ∷ b) h = absurd (omega arith)
word_or (x ∷ a) [] h = absurd (omega arith)
word_or (x ∷ a) (y ∷ b) h = or_cons (marks_word a) (marks_word b) x y ∙ rw (word_or a b (omega arith))

pub word_not : (l : List Bool) → bit_xor (marks_word (replicate (length l) true)) (marks_word l) ≡ marks_word (map not l)
word_not [] = refl
word_not (x ∷ l) = xor_cons (marks_word (replicate (length l) true)) (marks_word l) true x ∙ rw (word_not l)

-- ---- what is past a word does not count

pub and_cut : (x y : ℕ) → x < 2 ^ 64 → bit_and x y ≡ bit_and x (y % 2 ^ 64)
and_cut x y h =
    sym (mod-eq_of_lt (lt_of_le_of_lt (and_le_l x y) h)) ∙ and_mod x y 64 ∙ ap (λ (m : ℕ). bit_and m (y % 2 ^ 64)) (mod-eq_of_lt h)

-- ---- since: the carries of a sum

sum_step : (c p q : Bool) (x y : ℕ) → (x * 2 + bit q) + (y * 2 + bit (p || q)) + bit c ≡ (x + y + bit (q || (p && c))) * 2 + bit (differs (differs q (p || q)) c)
sum_step true true true x y = omega arith
sum_step true true false x y = omega arith
sum_step true false true x y = omega arith
sum_step true false false x y = omega arith
sum_step false true true x y = omega arith
sum_step false true false x y = omega arith
sum_step false false true x y = omega arith
sum_step false false false x y = omega arith

since_bit : (c p q : Bool) → (q || (p && differs p (differs (differs q (p || q)) c))) ≡ (q || (p && c))
since_bit c p true = refl
since_bit c false false = refl
since_bit true true false = refl
since_bit false true false = refl

since_sum : (c : Bool) (ps qs : List Bool) → length ps ≡ length qs
    → bit_or (marks_word qs) (bit_and (marks_word ps) (bit_xor (marks_word ps) (marks_word qs + marks_word (zip ◌||◌ ps qs) + bit c))) ≡ marks_word (since_row c ps qs)
since_sum c [] [] h = refl
since_sum c [] (q ∷ qs) h = absurd (omega arith)
since_sum c (p ∷ ps) [] h = absurd (omega arith)
since_sum c (p ∷ ps) (q ∷ qs) h =
    let c' : Bool = q || (p && c) in
    let s : Bool = differs (differs q (p || q)) c in
    let S : ℕ = marks_word qs + marks_word (zip ◌||◌ ps qs) + bit c' in
    ap (λ (m : ℕ). bit_or (marks_word (q ∷ qs)) (bit_and (marks_word (p ∷ ps)) (bit_xor (marks_word (p ∷ ps)) m))) (sum_step c p q (marks_word qs) (marks_word (zip ◌||◌ ps qs)))
    ∙ ap (λ (m : ℕ). bit_or (marks_word (q ∷ qs)) (bit_and (marks_word (p ∷ ps)) m)) (xor_cons (marks_word ps) S p s)
    ∙ ap (λ (m : ℕ). bit_or (marks_word (q ∷ qs)) m) (and_cons (marks_word ps) (bit_xor (marks_word ps) S) p (differs p s))
    ∙ or_cons (marks_word qs) (bit_and (marks_word ps) (bit_xor (marks_word ps) S)) q (p && differs p s)
    ∙ ap₂ (λ (x : ℕ) (b : Bool). x * 2 + bit b) (since_sum c' ps qs (omega arith)) (since_bit c p q)

-- `since_word`: q or (p and (p xor the sum)) is the word of `since_row`, with c before the first place
pub since_word_lem : (c : Bool) (ps qs : List Bool) (s t : ℕ) → length ps ≡ length qs → marks_word ps < 2 ^ 64
    → s ≡ (marks_word qs + bit_or (marks_word ps) (marks_word qs)) % 2 ^ 64 → t ≡ (s + bit c) % 2 ^ 64
    → bit_or (marks_word qs) (bit_and (marks_word ps) (bit_xor (marks_word ps) t)) ≡ marks_word (since_row c ps qs)
since_word_lem c ps qs s t h fits es et =
    let T : ℕ = marks_word qs + marks_word (zip ◌||◌ ps qs) + bit c in
    let es' : s ≡ (marks_word qs + marks_word (zip ◌||◌ ps qs)) % 2 ^ 64 = rw (word_or ps qs h) at es in
    let e : t % 2 ^ 64 ≡ T % 2 ^ 64 = omega arith in
    ap (λ (m : ℕ). bit_or (marks_word qs) m)
    (and_cut (marks_word ps) (bit_xor (marks_word ps) t) fits
    ∙ ap (λ (m : ℕ). bit_and (marks_word ps) m) (xor_mod (marks_word ps) t 64 ∙ ap (λ (m : ℕ). bit_xor (marks_word ps % 2 ^ 64) m) e ∙ sym (xor_mod (marks_word ps) T 64))
    ∙ sym (and_cut (marks_word ps) (bit_xor (marks_word ps) T) fits))
    ∙ since_sum c ps qs h

-- ---- n marks

pub word_full : (n : ℕ) → 2 ^ n ≡ marks_word (replicate n true) + 1
word_full zero = refl
word_full (suc n) = rw pow-suc (omega (arith, word_full n))

pub full_shl : (n : ℕ) → n < word_marks → 1 * 2 ^ n % 2 ^ 64 ≡ marks_word (replicate n true) + 1
full_shl n h = rw one-mul (mod-eq_of_lt (pow-lt {i = n} {j = 64} h) ∙ word_full n)

-- ---- no mark but the last

pub last_none : (n : ℕ) → marks_word (last_only false n) ≡ 0
last_none zero = refl
last_none (suc zero) = refl
last_none (suc (suc n)) = omega (arith, last_none (suc n))

pub last_one : (n : ℕ) → marks_word (last_only true (suc n)) ≡ 2 ^ n
last_one zero = refl
last_one (suc n) = rw pow-suc (omega (arith, last_one n))

pub word_last_no : (n : ℕ) (w : Bool) → w ≡ false → 0 ≡ marks_word (last_only w n)
word_last_no n w e = rw e (sym (last_none n))

pub word_last_yes : (n : ℕ) (w : Bool) → n ≤ word_marks → (n ≡ 0 → ⊥) → w ≡ true → 1 * 2 ^ (n - 1) % 2 ^ 64 ≡ marks_word (last_only w n)
word_last_yes n w h some e =
    let m : n ≡ suc (n - 1) = omega arith in
    rw (e, one-mul, mod-eq_of_lt (pow-lt {i = n - 1} {j = 64} (omega arith))) (sym (last_one (n - 1)) ∙ ap (λ (k : ℕ). marks_word (last_only true k)) (sym m))

pub ruleset last_laws = (rules, word_last_no, word_last_yes)

-- ---- the low bits of a number

-- a bit below d is not cut off
pub bit_low : (a d k : ℕ) → k < d → bit_of (a % 2 ^ d) k ≡ bit_of a k
bit_low a d k h =
    let m : 2 ^ d - 1 ≡ marks_word (replicate d true) = omega (arith, word_full d) in
    rw (← and_mask a d, m, bit_and_lem, word_bit, get_or-replicate d k true false h) (and-true (bit_of a k))

-- ---- a column, gathered from its end

pub gathered_none : (ws : List ℕ) (to a : ℕ) → 0 ≡ gathered ws to to a
unfolding gathered
gathered_none ws to a = let e : to - to ≡ 0 = omega arith in rw e

pub gathered_more : (ws : List ℕ) (k to a word : ℕ) → k < to → word ≡ gathered ws (suc k) to a → word * 2 + get_or ws k 0 / 2 ^ a % 2 ≡ gathered ws k to a
unfolding gathered bit_of
gathered_more ws k to a word h e =
    let n : to - k ≡ suc (to - suc k) = omega arith in
    rw n (ap₂ (λ (x y : ℕ). x * 2 + y) e (odd_bit (get_or ws k 0 / 2 ^ a % 2) (omega arith)))

pub gathered_fits : (ws : List ℕ) (k to a : ℕ) → to ≤ k + word_marks → gathered ws k to a < 2 ^ 64
unfolding gathered
gathered_fits ws k to a h =
    let f : ℕ → Bool = λ i. bit_of (get_or ws i 0) a in
    word_fits (tabulate_from (to - k) k f) (rw (tabulate_length (to - k) k f) (omega arith))

-- what a loop that gathers has done from state k on
pub record Gathering (ws : List ℕ) (from to a word k : ℕ) : Type 0 where
  pub low : from ≤ k
  pub high : k ≤ to
  pub part : word ≡ gathered ws k to a

pub gathering_none : (ws : List ℕ) (from to a : ℕ) → from ≤ to → Gathering ws from to a 0 to
gathering_none ws from to a h = record { low = h; high = omega arith; part = gathered_none ws to a }

pub gathering_more : (ws : List ℕ) (from to a word k : ℕ) → Gathering ws from to a word k → from < k
    → Gathering ws from to a (word * 2 + get_or ws (k - 1) 0 / 2 ^ a % 2) (k - 1)
gathering_more ws from to a word k v h =
    let e : k ≡ suc (k - 1) = omega arith in
    let p : word ≡ gathered ws (suc (k - 1)) to a = v.part ∙ ap (λ (m : ℕ). gathered ws m to a) e in
    record { low = omega arith; high = omega (arith, v.high); part = gathered_more ws (k - 1) to a word (omega (arith, v.high)) p }

pub gathering_fits : (ws : List ℕ) (from to a word k : ℕ) → Gathering ws from to a word k → from < k → to ≤ from + word_marks
    → Fits w64 (word * 2 + get_or ws (k - 1) 0 / 2 ^ a % 2)
gathering_fits ws from to a word k v h few =
    let m : Gathering ws from to a (word * 2 + get_or ws (k - 1) 0 / 2 ^ a % 2) (k - 1) = gathering_more ws from to a word k v h in
    record { fits = rw m.part (gathered_fits ws (k - 1) to a (omega arith)) }

pub gathering_room : (ws : List ℕ) (from to a word k : ℕ) → Gathering ws from to a word k → from < k → to ≤ from + word_marks → Fits w64 (word * 2)
gathering_room ws from to a word k v h few =
    let f : Fits w64 (word * 2 + get_or ws (k - 1) 0 / 2 ^ a % 2) = gathering_fits ws from to a word k v h few in
    record { fits = omega (arith, f.fits) }

pub ruleset gather_laws = (rules, gathering_none, gathering_more, gathering_fits, gathering_room)
