-- Hexadecimal fields written and read again, and read and written again.
use mathlib.Core.Path.{◌≡◌, refl, ap, sym, ◌∙◌}
use Prim.Native.Nat.{ℕ, zero, suc, ◌+◌, ◌-◌, ◌*◌, ◌/◌, ◌%◌, ◌^◌, ◌<◌, ◌≤◌}
use native.Mathlib.Nat.{pow-suc}
use native.Mathlib.Omega.{arith}
use mathlib.Core.List.{List, [], ◌∷◌, ◌++◌, append_assoc, append-nil}
use lib.ListN.{length, length-append}
use lib.Dec.{eqb, ltb, leb}
use borrow.Author.Tests.{lt-ltb, le-ltb, ltb-true, ltb-false, le-leb, leb-true, lt-leb, eq-eqb, eqb-true}
use Rattle.definitions.specs.Bounded.{pick, within}
use Rattle.definitions.specs.Lines.{formed, malformed, hex_digit, hex_on, hexadecimal}
use Rattle.theorems.proofs.Choice.{by_test, both_true, pick_true, pick_must}
use Rattle.theorems.proofs.Inversions.{never_formed, formed_same}
use Rattle.theorems.proofs.SplitLaws.{Without, without_none, without_one, without_append}
use Rattle.definitions.specs.RecordingWriting.{hex_byte, hex_text}

-- a digit and its byte
byte_low : (d : ℕ) → d < 10 → hex_byte d ≡ 48 + d
unfolding hex_byte pick
byte_low d h = rw (lt-ltb d 10 h)

byte_high : (d : ℕ) → 10 ≤ d → hex_byte d ≡ 87 + d
unfolding hex_byte pick
byte_high d h = rw (le-ltb d 10 h)

digit_low : (x : ℕ) → 48 ≤ x → x ≤ 57 → hex_digit x ≡ x - 48
unfolding hex_digit pick
digit_low x h k = rw (le-leb 48 x h, le-leb x 57 k)

digit_high : (x : ℕ) → 97 ≤ x → x ≤ 102 → hex_digit x ≡ x - 87
unfolding hex_digit pick
digit_high x h k = rw (le-leb 48 x (omega arith), lt-leb x 57 (omega arith), le-leb 97 x h, le-leb x 102 k)

digit_of_byte : (d : ℕ) → d < 16 → hex_digit (hex_byte d) ≡ d
digit_of_byte d h =
    by_test (ltb d 10)
    (λ e. let l = ltb-true d 10 e in rw (byte_low d l, digit_low (48 + d) (omega arith) (omega arith)) (omega arith))
    (λ e. let l = ltb-false d 10 e in rw (byte_high d l, digit_high (87 + d) (omega arith) (omega arith)) (omega arith))

-- a byte with a digit below 16 is one of the two ranges
byte_of_digit : (x : ℕ) → hex_digit x < 16 → hex_byte (hex_digit x) ≡ x
unfolding hex_digit pick
byte_of_digit x h =
    by_test (within 48 57 x)
    (λ e.
    let p = both_true (leb 48 x) (leb x 57) e in
    let a = leb-true 48 x p.0 in
    let b = leb-true x 57 p.1 in
    rw (digit_low x a b, byte_low (x - 48) (omega arith)) (omega arith))
    (λ e. by_test (within 97 102 x)
    (λ f.
    let p = both_true (leb 97 x) (leb x 102) f in
    let a = leb-true 97 x p.0 in
    let b = leb-true x 102 p.1 in
    rw (digit_high x a b, byte_high (x - 87) (omega arith)) (omega arith))
    (λ f. absurd (omega (arith, rw (e, f) at h))))

on_none : (v : ℕ) → hex_on v [] ≡ formed v
unfolding hex_on
on_none v = refl

module _ (v x : ℕ) (t : List ℕ) where
  on_digit : hex_digit x < 16 → hex_on v (x ∷ t) ≡ hex_on (v * 16 + hex_digit x) t
  unfolding hex_on
  on_digit h = pick_true (ltb (hex_digit x) 16) (hex_on (v * 16 + hex_digit x) t) malformed (lt-ltb (hex_digit x) 16 h)

  digit_must : (n : ℕ) → hex_on v (x ∷ t) ≡ formed n → (hex_digit x < 16) × (hex_on (v * 16 + hex_digit x) t ≡ formed n)
  unfolding hex_on
  digit_must n e =
      let p = pick_must (formed n) (ltb (hex_digit x) 16) (hex_on (v * 16 + hex_digit x) t) malformed e (never_formed n) in
      (ltb-true (hex_digit x) 16 p.0, p.1)

-- a digit that follows
on_last : (l : List ℕ) (v u d : ℕ) → d < 16 → hex_on v l ≡ formed u → hex_on v (l ++ (hex_byte d ∷ [])) ≡ formed (u * 16 + d)
on_last [] v u d h e =
    let q : v ≡ u = formed_same v u (sym (on_none v) ∙ e) in
    let b = digit_of_byte d h in
    let r : v * 16 + hex_digit (hex_byte d) ≡ u * 16 + d = omega arith in
    on_digit v (hex_byte d) [] (omega arith) ∙ rw r (on_none (u * 16 + d))
on_last (x ∷ t) v u d h e =
    let p = digit_must v x t u e in
    on_digit v x (t ++ (hex_byte d ∷ [])) p.0 ∙ on_last t (v * 16 + hex_digit x) u d h p.1

text_on : (n v : ℕ) → v < 16 ^ n → hex_on 0 (hex_text n v) ≡ formed v
unfolding hex_text
text_on zero v h = let z : 0 ≡ v = omega arith in on_none 0 ∙ ap formed z
text_on (suc n) v h =
    let b : v / 16 < 16 ^ n = omega (arith, pow-suc 16 n) in
    let e : v / 16 * 16 + v % 16 ≡ v = omega arith in
    on_last (hex_text n (v / 16)) 0 (v / 16) (v % 16) (omega arith) (text_on n (v / 16) b) ∙ ap formed e

pub text_length : (n v : ℕ) → length (hex_text n v) ≡ n
unfolding hex_text
text_length zero v = refl
text_length (suc n) v = length-append (hex_text n (v / 16)) (hex_byte (v % 16) ∷ []) ∙ omega (arith, text_length n (v / 16))

-- what is written reads as the number
pub hex_forth : (n v : ℕ) → v < 16 ^ n → hexadecimal n (hex_text n v) ≡ formed v
unfolding hexadecimal
hex_forth n v h = pick_true (eqb (length (hex_text n v)) n) (hex_on 0 (hex_text n v)) malformed (eq-eqb (length (hex_text n v)) n (text_length n v)) ∙ text_on n v h

-- one digit more is written after the others
text_more : (m u d : ℕ) → d < 16 → hex_text (suc m) (u * 16 + d) ≡ hex_text m u ++ (hex_byte d ∷ [])
unfolding hex_text
text_more m u d h =
    let q : (u * 16 + d) / 16 ≡ u = omega arith in
    let r : (u * 16 + d) % 16 ≡ d = omega arith in
    rw (q, r)

-- what follows the m digits of u is written after them
pub record HexRead (m u : ℕ) (t : List ℕ) (v : ℕ) : Type 0 where
  pub text : hex_text (m + length t) v ≡ hex_text m u ++ t
  pub small : v < 16 ^ (m + length t)

more_written : (t : List ℕ) (m u v : ℕ) → u < 16 ^ m → hex_on u t ≡ formed v → HexRead m u t v
more_written [] m u v h e =
    let q : u ≡ v = formed_same u v (sym (on_none u) ∙ e) in
    let z : m + 0 ≡ m = omega arith in
    record { text = rw (z, q, append-nil); small = rw (z, ← q) h }
more_written (x ∷ t) m u v h e =
    let p = digit_must u x t v e in
    let z : m + suc (length t) ≡ suc m + length t = omega arith in
    let r = more_written t (suc m) (u * 16 + hex_digit x) v (omega (arith, pow-suc 16 m, p.0)) p.1 in
    record {
      text = rw z (r.text ∙ rw (text_more m u (hex_digit x) p.0, byte_of_digit x p.0) (append_assoc (hex_text m u) (x ∷ []) t));
      small = rw z r.small;
    }

-- a field that is read is its number as written
pub record HexBack (n : ℕ) (s : List ℕ) (v : ℕ) : Type 0 where
  pub text : hex_text n v ≡ s
  pub small : v < 16 ^ n

none_written : hex_text 0 0 ≡ []
unfolding hex_text
none_written = refl

pub hex_back : (n : ℕ) (s : List ℕ) (v : ℕ) → hexadecimal n s ≡ formed v → HexBack n s v
unfolding hexadecimal
hex_back n s v e =
    let p = pick_must (formed v) (eqb (length s) n) (hex_on 0 s) malformed e (never_formed v) in
    let l : 0 + length s ≡ n = omega (arith, eqb-true (length s) n p.0) in
    let r = more_written s 0 0 v (omega arith) p.1 in
    record { text = rw l at r.text ∙ rw none_written; small = rw l at r.small }

byte_above : (b d : ℕ) → b < 48 → b < hex_byte d
byte_above b d h =
    by_test (ltb d 10)
    (λ e. rw (byte_low d (ltb-true d 10 e)) (omega arith))
    (λ e. rw (byte_high d (ltb-false d 10 e)) (omega arith))

-- a byte below the digits is in no field
pub hex_without : (b n v : ℕ) → b < 48 → Without b (hex_text n v)
unfolding hex_text
hex_without b zero v h = without_none b
hex_without b (suc n) v h =
    without_append b (hex_text n (v / 16)) (hex_byte (v % 16) ∷ []) (hex_without b n (v / 16) h) (without_one b (hex_byte (v % 16)) (byte_above b (v % 16) h))
