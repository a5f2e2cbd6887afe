-- "The reading of such a number is shown exact" (document 02, gauges): a field reads as a value exactly when it spells the value, at zero and at both ends too.
use mathlib.Core.Path.{◌≡◌, refl, sym, ◌∙◌}
use Prim.Native.Nat.{ℕ, zero, suc, ◌+◌, ◌-◌, ◌*◌, ◌/◌, ◌%◌, ◌<◌, ◌≤◌}
use mathlib.Core.List.{List, [], ◌∷◌}
use mathlib.Core.Bool.{true, false}
use lib.ListN.{length, get_or}
use lib.Dec.{eqb, ltb, leb}
use lib.IntN.{ℤ, pos, negsuc}
use native.Mathlib.Omega.{arith}
use borrow.Author.Tests.{le-leb, leb-true, ne_eqb, eqb-true}
use Rattle.definitions.specs.Limits.{accepted, recording_form, recording_limits}
use Rattle.definitions.specs.Bounded.{pick}
use Rattle.definitions.specs.Lines.{bytes, before, Parsed, formed, malformed, on_parsed, decimal, digits, digits_by}
use Rattle.theorems.proofs.Choice.{by_test, both_true, pick_must, accept_yes}
use Rattle.theorems.proofs.Inversions.{never_formed, formed_same, parsed_must, first_picked, second_picked}
use Rattle.theorems.proofs.SplitLaws.{Without, without_first, without_one, without_cons, without_append, split_front, split_rest, split_found, join}
use Rattle.theorems.proofs.DecimalLaws.{digits_without, printed_reads, read_prints}
use Rattle.definitions.specs.Measures.{point, minus, least, greatest, is_digit, decimals, whole_part, decimal_part, hundredths, below_zero, measure, in_limits, hundredths_text, spelled}

-- ---- two decimals
is_digit_lem : (d : ℕ) → d < 10 → is_digit (48 + d) ≡ true
unfolding is_digit
is_digit_lem d h = rw (le-leb 48 (48 + d) (omega arith), le-leb (48 + d) 57 (omega arith))

digit_is : (x : ℕ) → is_digit x ≡ true → (48 ≤ x) × (x ≤ 57)
unfolding is_digit
digit_is x e = let q = both_true (leb 48 x) (leb x 57) e in (leb-true 48 x q.0, leb-true x 57 q.1)

pub decimals_read : (a b : ℕ) → a < 10 → b < 10 → decimals ((48 + a) ∷ (48 + b) ∷ []) ≡ formed (a * 10 + b)
unfolding decimals pick
decimals_read a b h k =
    let e : (48 + a - 48) * 10 + (48 + b - 48) ≡ a * 10 + b = omega arith in
    rw (is_digit_lem a h, is_digit_lem b k, e)

-- two decimals are the digits of their number
pub record TwoDigits (s : List ℕ) (d : ℕ) : Type 0 where
  pub small : d < 100
  pub text : (48 + d / 10) ∷ (48 + d % 10) ∷ [] ≡ s

two_digits_of : (x y d : ℕ) → 48 ≤ x → x ≤ 57 → 48 ≤ y → y ≤ 57 → (x - 48) * 10 + (y - 48) ≡ d → TwoDigits (x ∷ y ∷ []) d
two_digits_of x y d a b c e h =
    let p : 48 + d / 10 ≡ x = omega arith in
    let q : 48 + d % 10 ≡ y = omega arith in
    record { small = omega arith; text = rw (p, q) }

decimals_of : (s : List ℕ) (d : ℕ) → length s ≡ 2 → is_digit (get_or s 0 0) ≡ true → is_digit (get_or s 1 0) ≡ true
    → (get_or s 0 0 - 48) * 10 + (get_or s 1 0 - 48) ≡ d → TwoDigits s d
decimals_of [] d h a b e = absurd (omega arith)
decimals_of (x ∷ []) d h a b e = absurd (omega arith)
decimals_of (x ∷ y ∷ []) d h a b e =
    let p = digit_is x a in
    let q = digit_is y b in
    two_digits_of x y d p.0 p.1 q.0 q.1 e
decimals_of (x ∷ y ∷ z ∷ t) d h a b e = absurd (omega arith)

pub decimals_back : (s : List ℕ) (d : ℕ) → decimals s ≡ formed d → TwoDigits s d
unfolding decimals
decimals_back s d e =
    let p = pick_must (formed d) (eqb (length s) 2) _ malformed e (never_formed d) in
    let q = pick_must (formed d) (is_digit (get_or s 0 0)) _ malformed p.1 (never_formed d) in
    let r = pick_must (formed d) (is_digit (get_or s 1 0)) _ malformed q.1 (never_formed d) in
    decimals_of s d (eqb-true (length s) 2 p.0) q.0 r.0 (formed_same _ d r.1)

-- ---- hundredths
pub hundredths_spelled : (n : ℕ) → hundredths (hundredths_text n) ≡ formed n
unfolding hundredths hundredths_text pick on_parsed
hundredths_spelled n =
    let w = digits_without point (n / 100) (omega arith) in
    let t = (48 + n / 10 % 10) ∷ (48 + n % 10) ∷ [] in
    let s = digits (n / 100) in
    let a : n / 10 % 10 < 10 = omega arith in
    let b : n % 10 < 10 = omega arith in
    let e : n / 100 * 100 + (n / 10 % 10 * 10 + n % 10) ≡ n = hundreds n in
    rw (split_found point t s w, split_front point t s w, split_rest point t s w, printed_reads (n / 100), decimals_read (n / 10 % 10) (n % 10) a b, e)
  where
    hundreds : (n : ℕ) → n / 100 * 100 + (n / 10 % 10 * 10 + n % 10) ≡ n
    hundreds n = omega arith

pub hundredths_back : (s : List ℕ) (n : ℕ) → hundredths s ≡ formed n → s ≡ hundredths_text n
unfolding hundredths hundredths_text
hundredths_back s n e =
    let p = pick_must (formed n) (ltb (before point s) (length s)) _ malformed e (never_formed n) in
    let f = parsed_must (formed n) (decimal (whole_part s)) malformed _ p.1 (never_formed n) in
    let g = parsed_must (formed n) (decimals (decimal_part s)) malformed _ f.gives (never_formed n) in
    let q = decimals_back (decimal_part s) g.value g.read in
    let k : f.value * 100 + g.value ≡ n = formed_same _ n g.gives in
    let small : g.value < 100 = q.small in
    let a : n / 100 ≡ f.value = omega arith in
    let b : n / 10 % 10 ≡ g.value / 10 = omega arith in
    let c : n % 10 ≡ g.value % 10 = omega arith in
    sym (rw (a, b, c, read_prints (whole_part s) f.value f.read, q.text) (join point s p.0))

-- ---- signed numbers
-- a byte below the point is in no number of hundredths
text_without : (b n : ℕ) → b < point → Without b (hundredths_text n)
unfolding hundredths_text
text_without b n h =
    let l = without_one b (48 + n % 10) (omega arith) in
    let d = without_cons b (48 + n / 10 % 10) ((48 + n % 10) ∷ []) (λ q. omega arith) l in
    let p = without_cons b point ((48 + n / 10 % 10) ∷ (48 + n % 10) ∷ []) (λ q. omega arith) d in
    without_append b (digits (n / 100)) (point ∷ (48 + n / 10 % 10) ∷ (48 + n % 10) ∷ []) (digits_without b (n / 100) (omega arith)) p

-- nor one below the minus in a signed number
spelled_without : (b : ℕ) (z : ℤ) → b < minus → Without b (spelled z)
unfolding spelled
spelled_without b (pos n) h = text_without b n (omega arith)
spelled_without b (negsuc n) h = without_cons b minus (hundredths_text (suc n)) (λ q. omega arith) (text_without b (suc n) (omega arith))

none_empty : (n : ℕ) → hundredths [] ≡ formed n → ⊥
unfolding hundredths pick before
none_empty n e = never_formed n e

measure_plain : (s : List ℕ) (n : ℕ) → Without minus s → hundredths s ≡ formed n → measure s ≡ formed (pos n)
unfolding measure pick on_parsed
measure_plain [] n w e = absurd (none_empty n e)
measure_plain (x ∷ t) n w e = rw ((without_first minus x t w).0, e)

measure_minus : (t : List ℕ) (n : ℕ) → hundredths t ≡ formed (suc n) → measure (minus ∷ t) ≡ formed (negsuc n)
unfolding measure below_zero pick on_parsed
measure_minus t n e = rw (e, ne_eqb (suc n) 0 (λ q. omega arith))

-- every value is read from its spelling
pub spelled_reads : (z : ℤ) → measure (spelled z) ≡ formed z
unfolding spelled
spelled_reads (pos n) = measure_plain (hundredths_text n) n (text_without minus n (omega arith)) (hundredths_spelled n)
spelled_reads (negsuc n) = measure_minus (hundredths_text (suc n)) n (hundredths_spelled (suc n))

below_zero_back : (n : ℕ) (z : ℤ) → below_zero n ≡ formed z → minus ∷ hundredths_text n ≡ spelled z
unfolding below_zero spelled pick
below_zero_back zero z e = absurd (never_formed z e)
below_zero_back (suc n) z e = let q : negsuc n ≡ z = formed_same (negsuc n) z (rw (ne_eqb (suc n) 0 (λ o. omega arith)) at e) in rw (← q)

plain_back : (n : ℕ) (z : ℤ) → formed (pos n) ≡ formed z → hundredths_text n ≡ spelled z
unfolding spelled
plain_back n z e = let q : pos n ≡ z = formed_same (pos n) z e in rw (← q)

-- and from no other field
pub reads_spelled : (s : List ℕ) (z : ℤ) → measure s ≡ formed z → s ≡ spelled z
unfolding measure
reads_spelled [] z e = absurd (never_formed z e)
reads_spelled (x ∷ t) z e =
    by_test (eqb x minus)
    (λ m.
    let f = parsed_must (formed z) (hundredths t) malformed below_zero (first_picked (formed z) (eqb x minus) _ _ m e) (never_formed z) in
    rw (eqb-true x minus m, hundredths_back t f.value f.read) (below_zero_back f.value z f.gives))
    (λ m.
    let f = parsed_must (formed z) (hundredths (x ∷ t)) malformed _ (second_picked (formed z) (eqb x minus) _ _ m e) (never_formed z) in
    hundredths_back (x ∷ t) f.value f.read ∙ plain_back f.value z f.gives)

-- so each value has one spelling
pub spelled_once : (y z : ℤ) → spelled y ≡ spelled z → y ≡ z
spelled_once y z e = formed_same y z (sym (spelled_reads y) ∙ (rw e (spelled_reads z)))

-- a field that is read has no byte below the minus
pub measure_without : (b : ℕ) (s : List ℕ) (z : ℤ) → b < minus → measure s ≡ formed z → Without b s
measure_without b s z h e = rw (reads_spelled s z e) (spelled_without b z h)

-- ---- at zero and at both ends
-- a field reads as a value, and no other field does
pub record Exact (s : List ℕ) (z : ℤ) : Type 0 where
  pub reads : measure s ≡ formed z
  pub alone : (t : List ℕ) → measure t ≡ formed z → t ≡ s

exact_at : (s : List ℕ) (z : ℤ) → spelled z ≡ s → Exact s z
exact_at s z e = record { reads = rw (← e) (spelled_reads z); alone = λ t r. reads_spelled t z r ∙ e }

spelled_zero : spelled (pos 0) ≡ bytes "0.00"
unfolding spelled hundredths_text digits digits_by
spelled_zero = refl

spelled_least : spelled least ≡ bytes "-327.68"
unfolding spelled hundredths_text digits digits_by pick
spelled_least = refl

spelled_greatest : spelled greatest ≡ bytes "327.67"
unfolding spelled hundredths_text digits digits_by pick
spelled_greatest = refl

-- "The reading of such a number is shown exact at zero and at both ends"
pub record ExactReadings : Type 0 where
  pub zero : Exact (bytes "0.00") (pos 0)
  pub least : Exact (bytes "-327.68") least
  pub greatest : Exact (bytes "327.67") greatest

pub exact_readings : ExactReadings
exact_readings = record {
  zero = exact_at (bytes "0.00") (pos 0) spelled_zero;
  least = exact_at (bytes "-327.68") least spelled_least;
  greatest = exact_at (bytes "327.67") greatest spelled_greatest;
}

-- a field of a gauge: 5 where it spells no value, 6 where its value is outside the limits
unfoldable pub field_refusal : List ℕ → ℕ
field_refusal s = on_parsed (measure s) recording_form (λ z. pick (in_limits z) accepted recording_limits)

-- ---- in its limits
-- a field is accepted as v exactly when it spells v and v is in its limits
pub record Accepts (s : List ℕ) (z : ℤ) : Type 0 where
  pub reads : measure s ≡ formed z
  pub accepts : field_refusal s ≡ 0

pub accepted_forth : (z : ℤ) → in_limits z ≡ true → Accepts (spelled z) z
unfolding field_refusal pick on_parsed
accepted_forth z h = record { reads = spelled_reads z; accepts = rw (spelled_reads z, h) }

pub accepted_back : (s : List ℕ) (z : ℤ) → Accepts s z → (s ≡ spelled z) × (in_limits z ≡ true)
unfolding field_refusal on_parsed
accepted_back s z a =
    let e = rw a.reads at a.accepts in
    (reads_spelled s z a.reads, accept_yes (in_limits z) 6 (omega arith) e)

by_form : (p : Parsed ℤ) → ((z : ℤ) → p ≡ formed z → ⊥) → on_parsed p 5 (λ z. pick (in_limits z) accepted recording_limits) ≡ 5
unfolding on_parsed
by_form (formed z) h = absurd (h z refl)
by_form malformed h = refl

-- a field that spells a value outside the limits is refused with 6, and any other field with 5
pub outside_refused : (z : ℤ) → in_limits z ≡ false → field_refusal (spelled z) ≡ 6
unfolding field_refusal pick on_parsed
outside_refused z h = rw (spelled_reads z, h)

pub malformed_refused : (s : List ℕ) → ((z : ℤ) → s ≡ spelled z → ⊥) → field_refusal s ≡ 5
unfolding field_refusal
malformed_refused s n = by_form (measure s) (λ z e. n z (reads_spelled s z e))
