-- Laws of a signal that is read byte by byte.
use mathlib.Core.Path.{◌≡◌, refl, ap, sym, ◌∙◌}
use Prim.Native.Nat.{ℕ, zero, suc, ◌+◌, ◌-◌, ◌*◌, ◌<◌, ◌≤◌}
use native.Mathlib.Omega.{arith}
use native.Mathlib.Decide.{dec_lt}
use native.Mathlib.Numerals.{add-one}
use mathlib.Core.Bool.{Bool, true, false}
use mathlib.Core.List.{List, [], ◌∷◌, ◌++◌}
use lib.ListN.{length, take, drop, get_or, set, length-set, take-append-drop, drop_of_length-le}
use lib.Seq.{drop-cons, take-suc-set, drop-set-lt, append_snoc, get_or-drop, drop-drop}
use lib.Dec.{ltb, leb, eqb}
use mir.Syntax.{w64}
use mir.Val.{Fits}
use borrow.Author.Rules.{rules}
use borrow.Author.Tests.{lt-ltb, le-ltb, le-leb, lt-leb, leb-true, eqb-true, eqb-false}
use Rattle.definitions.specs.Bounded.{pick, bit, within}
use Rattle.definitions.specs.Lines.{formed, malformed}
use Rattle.theorems.proofs.Choice.{by_test, both_true, pick_true, pick_must}
use Rattle.theorems.proofs.Inversions.{parsed_must, never_formed, formed_same}
use Rattle.definitions.specs.Archive.{signal_on}
use Rattle.signals.specs.Places.{add_signal}
use Rattle.std.specs.Prelude.{Some, None}
use Rattle.std.proofs.lemmas.Option.{none-some, same_Some}
use Rattle.signals.specs.Laying.{binary_digit, digit_read, is_signal, laid_on, Room, Laid}

-- ---- `binary`
-- `binary`, any byte but 0 and 1: no digit
pub binary_other : (b : ℕ) → (b ≡ 48 → ⊥) → (b ≡ 49 → ⊥) → None ≡ digit_read b
unfolding digit_read pick
binary_other b n m = go (dec_lt b 48)
  where
    go : Dec (b < 48) → None ≡ digit_read b
    go (yes h) = rw (lt-leb 48 b h)
    go (no h) = rw (le-leb 48 b (omega arith), lt-leb b 49 (omega arith))

-- a digit that was read
pub digit_was : (b d : ℕ) → Some d ≡ digit_read b → (d ≡ binary_digit b) × (d < 2)
unfolding digit_read binary_digit pick
digit_was b d e =
    by_test (within 48 49 b)
    (λ h.
    let p = both_true (leb 48 b) (leb b 49) h in
    let x = leb-true b 49 p.1 in
    let v : d ≡ b - 48 = same_Some d (b - 48) (rw h at e) in
    (rw h v, omega (arith, leb-true 48 b p.0)))
    (λ h. absurd (none-some d (sym (rw h at e))))

-- a byte that is no digit
pub digit_wrong : (b : ℕ) → None ≡ digit_read b → 2 ≤ binary_digit b
unfolding digit_read binary_digit pick
digit_wrong b e = by_test (within 48 49 b) (λ h. absurd (none-some (b - 48) (rw h at e))) (λ h. rw h (omega arith))

-- ---- `lay`: what is left to read
pub record Laying (s : List ℕ) (w : ℕ) (o o' : List ℕ) (k : ℕ) : Type 0 where
  pub passed : k ≤ length s
  pub kept : length o' ≡ length o
  pub rest : drop k o' ≡ drop k o
  pub left : laid_on w o s ≡ take k o' ++ laid_on w (drop k o') (drop k s)
  pub tests : is_signal s ≡ is_signal (drop k s)

-- `lay`, before the first turn: all of `laid_on` is left
pub laying_none : (s : List ℕ) (w : ℕ) (o : List ℕ) → Laying s w o o 0
laying_none s w o = record { passed = omega arith; kept = refl; rest = refl; left = refl; tests = refl }

laid_none : (w : ℕ) (ss : List ℕ) → laid_on w ss [] ≡ ss
unfolding laid_on
laid_none w [] = refl
laid_none w (x ∷ ss) = refl

none_signal : is_signal [] ≡ true
unfolding is_signal
none_signal = refl

module _ (s : List ℕ) (w : ℕ) (o o' : List ℕ) (k : ℕ) (inv : Laying s w o o' k) (room : Room s w o) where
  -- `lay`, all bytes are digits: `is_signal` holds, and the states are `laid_on`
  pub laying_done : length s ≤ k → Laid s w o 0 o'
  unfolding pick
  laying_done h =
      let z = drop_of_length-le s {i = k} h in
      record { answers = rw (inv.tests, z, none_signal); holds = sym (inv.left ∙ rw (z, laid_none w (drop k o')) (take-append-drop k o')) }

  module _ (h : k < length s) where
    pub laying_inside : k < length o'
    laying_inside = omega (arith, room.enough, inv.kept)

    entry : get_or o' k 0 ≡ get_or o k 0
    entry =
        let z : k + 0 ≡ k = omega arith in
        let a = get_or-drop k o' 0 0 in
        let b = get_or-drop k o 0 0 in
        (sym (rw z at a)) ∙ (rw inv.rest (rw z at b))

    -- `lay`, a byte that is no digit: `is_signal` fails there
    pub laying_stop : None ≡ digit_read (get_or s k 0) → Laid s w o 5 o'
    unfolding is_signal laid_on pick
    laying_stop n =
        let t : ltb (binary_digit (get_or s k 0)) 2 ≡ false = le-ltb (binary_digit (get_or s k 0)) 2 (digit_wrong (get_or s k 0) n) in
        let c = drop-cons s k 0 h in
        let c' = drop-cons o' k 0 laying_inside in
        record {
          answers = rw (inv.tests, c, t);
          holds = sym (inv.left ∙ rw (c, c', t) (ap (λ (m : List ℕ). take k o' ++ m) (sym c') ∙ take-append-drop k o'));
        }

    module _ (d : ℕ) (was : Some d ≡ digit_read (get_or s k 0)) where
      e : d ≡ binary_digit (get_or s k 0)
      e = (digit_was (get_or s k 0) d was).0

      l : d < 2
      l = (digit_was (get_or s k 0) d was).1

      worth : d * w ≤ w
      worth = go d l
        where
          go : (n : ℕ) → n < 2 → n * w ≤ w
          go zero b = omega arith
          go (suc zero) b = omega arith
          go (suc (suc n)) b = absurd (omega arith)

      pub laying_product : Fits w64 (d * w)
      laying_product = record { fits = omega (arith, worth, room.fits k h) }

      pub laying_sum : Fits w64 (get_or o' k 0 + d * w)
      laying_sum = record { fits = omega (arith, worth, entry, room.fits k h) }

      -- `lay`, a turn: `laid_on` has one state more
      pub laying_next : Laying s w o (set o' k (get_or o' k 0 + d * w)) (k + 1)
      unfolding is_signal laid_on pick
      laying_next =
          let x = get_or o' k 0 + d * w in
          let t : ltb (binary_digit (get_or s k 0)) 2 ≡ true = lt-ltb (binary_digit (get_or s k 0)) 2 (omega (arith, e, l)) in
          let c = drop-cons s k 0 h in
          let c' = drop-cons o' k 0 laying_inside in
          let f = take-suc-set o' k x laying_inside in
          let g = drop-set-lt (suc k) o' k x (omega arith) in
          let q : drop (suc k) o' ≡ drop (suc k) o = later inv.rest in
          record {
            passed = omega arith;
            kept = length-set o' k x ∙ inv.kept;
            rest = rw add-one (g ∙ q);
            left = inv.left ∙ rw (add-one, c, c', t, ← e, f, g) (sym (append_snoc (take k o') x (laid_on w (drop (suc k) o') (drop (suc k) s))));
            tests = inv.tests ∙ rw (add-one, c, t);
          }
        where
          later : drop k o' ≡ drop k o → drop (suc k) o' ≡ drop (suc k) o
          later r =
              let a = drop-drop 1 k o' in
              let b = drop-drop 1 k o in
              let z : k + 1 ≡ suc k = omega arith in
              (sym (rw z at a)) ∙ (ap (drop 1) r ∙ (rw z at b))

pub ruleset lay_laws = (rules, laying_none, laying_done, laying_inside, laying_stop, laying_product, laying_sum, laying_next)

-- ---- what was laid is the signal, and a byte that is no digit makes the field malformed
byte_value : (x : ℕ) → within 48 49 x ≡ true → binary_digit x ≡ bit (eqb x 49)
unfolding binary_digit pick
byte_value x h =
    let p = both_true (leb 48 x) (leb x 49) h in
    let a = leb-true 48 x p.0 in
    let b = leb-true x 49 p.1 in
    by_test (eqb x 49) (λ e. rw (h, e) (omega (arith, eqb-true x 49 e))) (λ e. let n = eqb-false x 49 e in rw (h, e) (omega arith))

bit_small : (b : Bool) → bit b < 2
bit_small true = omega arith
bit_small false = omega arith

empty_laid : (w : ℕ) (ss : List ℕ) → length ss ≡ 0 → laid_on w ss [] ≡ add_signal w ss []
unfolding laid_on add_signal
empty_laid w [] h = refl
empty_laid w (x ∷ ss) h = refl

more_laid : (x : ℕ) (t : List ℕ) (l : List Bool) (w : ℕ) (ss : List ℕ) → ltb (binary_digit x) 2 ≡ true → binary_digit x ≡ bit (eqb x 49)
    → length ss ≡ suc (length t) → ((us : List ℕ) → length us ≡ length t → laid_on w us t ≡ add_signal w us l)
    → laid_on w ss (x ∷ t) ≡ add_signal w ss (eqb x 49 ∷ l)
unfolding laid_on add_signal
more_laid x t l w [] d v h ih = absurd (omega arith)
more_laid x t l w (u ∷ us) d v h ih = pick_true (ltb (binary_digit x) 2) _ _ d ∙ rw (v, ih us (omega arith))

pub record SignalLaid (s : List ℕ) (l : List Bool) : Type 0 where
  pub tests : is_signal s ≡ true
  pub holds : (w : ℕ) (ss : List ℕ) → length ss ≡ length s → laid_on w ss s ≡ add_signal w ss l

pub signal_laid : (s : List ℕ) (l : List Bool) → signal_on s ≡ formed l → SignalLaid s l
unfolding signal_on is_signal
signal_laid [] l e = rw (← formed_same [] l e) (record { tests = refl; holds = empty_laid })
signal_laid (x ∷ t) l e =
    let p = pick_must (formed l) (within 48 49 x) _ malformed e (never_formed l) in
    let f = parsed_must (formed l) (signal_on t) malformed _ p.1 (never_formed l) in
    let r = signal_laid t f.value f.read in
    let v = byte_value x p.0 in
    let d : ltb (binary_digit x) 2 ≡ true = lt-ltb (binary_digit x) 2 (omega (arith, v, bit_small (eqb x 49))) in
    rw (← formed_same (eqb x 49 ∷ f.value) l f.gives) (record {
      tests = pick_true (ltb (binary_digit x) 2) (is_signal t) false d ∙ r.tests;
      holds = λ w ss h. more_laid x t f.value w ss d v h (r.holds w);
    })
