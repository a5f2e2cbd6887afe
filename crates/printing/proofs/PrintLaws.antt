-- Laws of writing: digits, bytes, and one word after another.
use mathlib.Core.Path.{◌≡◌, refl, ap, sym, ◌∙◌}
use Prim.Native.Nat.{ℕ, zero, suc, ◌+◌, ◌*◌, ◌/◌, ◌%◌, ◌^◌, ◌<◌, ◌≤◌}
use native.Mathlib.Nat.{div-lt_self, pow-suc}
use mathlib.Core.List.{List, [], ◌∷◌, ◌++◌, append_assoc}
use lib.ListN.{length, take, drop, get_or, set, take-append-drop, length-set, length-append}
use lib.Seq.{drop-cons, set_split, set_at, take-suc, take_all, take_at, drop-append-add, drop-drop, length-take-le}
use native.Mathlib.Omega.{arith}
use native.Mathlib.Numerals.{add-one}
use mir.Syntax.{w64}
use mir.Val.{Fits}
use lib.Dec.{ltb}
use borrow.Author.Rules.{rules}
use borrow.Author.Tests.{ltb-true, ltb-false}
use Rattle.definitions.specs.Lines.{tab, digits}
use Rattle.theorems.proofs.Choice.{by_test}
use Rattle.theorems.proofs.DecimalLaws.{digits_small, digits_step}
use Rattle.printing.specs.Printing.{laid_at, Printed}

tenth_small : (n p : ℕ) → n < p * 10 → n / 10 < p
tenth_small n p h = omega arith

-- ---- how many digits there are
pub digits_fit : (k n : ℕ) → n < 10 ^ suc k → length (digits n) ≤ suc k
digits_fit zero n h = omega (arith, ap length (digits_small n (omega arith)))
digits_fit (suc k) n h =
    by_test (ltb n 10)
    (λ e. omega (arith, ap length (digits_small n (ltb-true n 10 e))))
    (λ e. omega (arith, ap length (digits_step n (ltb-false n 10 e)), length-append (digits (n / 10)) ((48 + n % 10) ∷ []), digits_fit k (n / 10) (tenth_small n (10 ^ suc k) (rw (pow-suc 10 (suc k)) at h))))

-- ---- a word laid over a text
pub laid_one : (at w : ℕ) (o : List ℕ) → at < length o → set o at w ≡ laid_at at (w ∷ []) o
unfolding laid_at
laid_one at w o h = set_split o at w h ∙ rw add-one

pub laid_snoc : (at w : ℕ) (ws o : List ℕ) → at + length ws < length o → set (laid_at at ws o) (at + length ws) w ≡ laid_at at (ws ++ (w ∷ [])) o
unfolding laid_at
laid_snoc at w ws o h =
    let k = at + length ws in
    let front : length (take at o ++ ws) ≡ k = length-append (take at o) ws ∙ ap (λ (m : ℕ). m + length ws) (length-take-le at o (omega arith)) in
    let split : take at o ++ (ws ++ drop k o) ≡ (take at o ++ ws) ++ (get_or o k 0 ∷ drop (suc k) o) = rw (append_assoc, drop-cons o k 0 h) in
    let e : at + length (ws ++ (w ∷ [])) ≡ suc k = omega (arith, length-append ws (w ∷ [])) in
    ap (λ (l : List ℕ). set l k w) split ∙ (set_at (take at o ++ ws) (get_or o k 0) (drop (suc k) o) w k front ∙ rw e (simp append_assoc))

-- ---- the steps of `print`
module _ (n : ℕ) (o : List ℕ) (at : ℕ) (room : at + length (digits n) ≤ length o) where
  module _ (small : n < 10) where
    small_length : length (digits n) ≡ 1
    small_length = ap length (digits_small n small)

    pub print_small_room : at < length o
    print_small_room = omega (arith, small_length)

    -- `print`, below ten: `digits` is that one digit
    pub print_small : Printed (digits n) o at (at + 1) (set o at (48 + n))
    print_small = record {
      next = rw small_length;
      lies = rw (digits_small n small) (laid_one at (48 + n) o print_small_room);
    }

  module _ (large : 10 ≤ n) where
    large_length : length (digits n) ≡ length (digits (n / 10)) + 1
    large_length = ap length (digits_step n large) ∙ length-append (digits (n / 10)) ((48 + n % 10) ∷ [])

    pub print_inner_room : at + length (digits (n / 10)) ≤ length o
    print_inner_room = omega (arith, large_length)

    pub print_falls : (t : ℕ) → n ≡ t → n / 10 < t
    print_falls t e = omega (arith, div-lt_self {n = n} {k = 10} (omega arith) (omega arith))

    module _ (r : ℕ) (o' : List ℕ) (ih : Printed (digits (n / 10)) o at r o') (kept : length o' ≡ length o) where
      pub print_last_room : r < length o'
      print_last_room = omega (arith, large_length, ih.next)

      -- `print`, ten or more: `digits` is those of the tenth and the last digit
      pub print_step : Printed (digits n) o at (r + 1) (set o' r (48 + n % 10))
      print_step = record {
        next = omega (arith, large_length, ih.next);
        lies = rw (digits_step n large, ih.next, ih.lies) (laid_snoc at (48 + n % 10) (digits (n / 10)) o (omega (arith, large_length)));
      }

      pub print_next_fits : length o < 2 ^ 64 → Fits w64 (r + 1)
      print_next_fits h = record { fits = omega (arith, print_last_room) }

pub ruleset print_laws = (rules, print_small_room, print_small, print_inner_room, print_falls, print_last_room, print_step, print_next_fits)

pub laid_none : (at : ℕ) (o : List ℕ) → laid_at at [] o ≡ o
unfolding laid_at
laid_none at o = let z : at + 0 ≡ at = omega arith in rw z (take-append-drop at o)

-- ---- `put`
-- the first i bytes of the word are laid
pub record Copied (word o : List ℕ) (at : ℕ) (o' : List ℕ) (i : ℕ) : Type 0 where
  pub within : i ≤ length word
  pub kept : length o' ≡ length o
  pub lies : o' ≡ laid_at at (take i word) o

-- `put`, before the first turn: no byte of the word is laid
pub copied_none : (word o : List ℕ) (at : ℕ) → Copied word o at o 0
copied_none word o at = record { within = omega arith; kept = refl; lies = sym (laid_none at o) }

module _ (word o : List ℕ) (at : ℕ) (o' : List ℕ) (i : ℕ) (inv : Copied word o at o' i) (room : at + length word ≤ length o) where
  -- `put`, a turn: one byte more of the word is laid
  pub copied_next : i < length word → Copied word o at (set o' (at + i) (get_or word i 0)) (i + 1)
  copied_next h =
      let ln : length (take i word) ≡ i = length-take-le i word (omega arith) in
      let sn = laid_snoc at (get_or word i 0) (take i word) o (omega (arith, ln)) in
      record {
        within = omega arith;
        kept = length-set o' (at + i) (get_or word i 0) ∙ inv.kept;
        lies = rw (inv.lies, add-one, take-suc word i 0 h) (rw ln at sn);
      }

  -- `put`, all bytes are laid: the word is `Printed`
  pub copied_done : length word ≤ i → Printed word o at (at + length word) o'
  copied_done h = record { next = refl; lies = inv.lies ∙ rw (take_all i word h) }

pub ruleset put_laws = (rules, copied_none, copied_next, copied_done)

-- ---- one word after another
laid_seq : (at : ℕ) (xs ys o : List ℕ) → at + length xs ≤ length o → laid_at (at + length xs) ys (laid_at at xs o) ≡ laid_at at (xs ++ ys) o
unfolding laid_at
laid_seq at xs ys o h =
    let k = at + length xs in
    let p = take at o ++ xs in
    let front : length p ≡ k = length-append (take at o) xs ∙ ap (λ (m : ℕ). m + length xs) (length-take-le at o (omega arith)) in
    let split : take at o ++ (xs ++ drop k o) ≡ p ++ drop k o = sym (append_assoc (take at o) xs (drop k o)) in
    let dr : drop (k + length ys) (p ++ drop k o) ≡ drop (k + length ys) o = ap (λ (m : ℕ). drop (m + length ys) (p ++ drop k o)) (sym front) ∙ (drop-append-add p (drop k o) (length ys) ∙ drop-drop (length ys) k o) in
    let e : at + length (xs ++ ys) ≡ k + length ys = omega (arith, length-append xs ys) in
    rw (split, take_at p (drop k o) k front, dr, e) (simp append_assoc)

pub printed_seq : (xs ys o o' o'' : List ℕ) (at r q : ℕ) → at + length xs ≤ length o → Printed xs o at r o' → Printed ys o' r q o'' → Printed (xs ++ ys) o at q o''
printed_seq xs ys o o' o'' at r q h p s = record {
  next = omega (arith, p.next, s.next, length-append xs ys);
  lies = s.lies ∙ rw (p.next, p.lies) (laid_seq at xs ys o h);
}

-- `put_byte`: the one byte is `Printed`
pub printed_byte : (b : ℕ) (o : List ℕ) (at : ℕ) → at < length o → Printed (b ∷ []) o at (at + 1) (set o at b)
printed_byte b o at h = record { next = refl; lies = laid_one at b o h }

pub printed_none : (o : List ℕ) (at : ℕ) → Printed [] o at at o
printed_none o at = record { next = omega arith; lies = sym (laid_none at o) }

-- ---- `put_field`
-- `put_field`: the tab and the digits behind it are `Printed`
pub field_written : (n : ℕ) (o o' o'' : List ℕ) (at r q : ℕ) → at + length (tab ∷ digits n) ≤ length o → Printed (tab ∷ []) o at r o' → Printed (digits n) o' r q o''
    → Printed (tab ∷ digits n) o at q o''
field_written n o o' o'' at r q h a b = printed_seq (tab ∷ []) (digits n) o o' o'' at r q (omega arith) a b
