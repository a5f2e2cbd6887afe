-- Laws of the operators: each of them on the two words is the operator on the list of marks.
use mathlib.Core.Bool.{Bool, true, false, not, ◌&&◌, ◌||◌}
use mathlib.Core.List.{List, [], ◌∷◌, map}
use mathlib.Core.Logic.{◌⊎◌, ⊎_elim, inl, inr}
use mathlib.Core.Path.{◌≡◌, refl, sym, ap, ap₂, ◌∙◌}
use Prim.Native.Nat.{ℕ, zero, suc, ◌+◌, ◌*◌, ◌/◌, ◌%◌, ◌^◌, ◌<◌, ◌≤◌}
use native.Mathlib.Omega.{arith}
use lib.Dec.{ltb}
use lib.Bits.{bit_and, bit_or, bit_xor, and_zero_r, or_zero_r, and_comm}
use lib.ListN.{length, take, drop, replicate, length-take, length-drop, length-replicate, length-map, drop_of_length-le}
use lib.Seq.{length-take-le, get_or-take}
use Rattle.std.proofs.lemmas.List.{take-map, drop-map, drop-replicate}
use Rattle.definitions.specs.Limits.{max_states, word_marks}
use Rattle.definitions.specs.Bounded.{pick, bit, tabulate}
use Rattle.definitions.specs.Readings.{marks_word, next_at, until_at, prev_at, since_at}
use Rattle.theorems.proofs.Tabulations.{tabulate_at, tabulate_same}
use Rattle.mark_words.specs.Marks.{mark_at, last_at}
use Rattle.mark_words.specs.Lists.{head_d, zip, last_only, next_row, until_row, prev_row, since_row}
use Rattle.mark_words.proofs.OperatorLaws.{lt_or_le, same_list, until_length, until_is, since_length, since_is, prev_length, prev_is, next_length, next_is, not_is, zip_length, zip_is, only_length, only_at}
use Rattle.mark_words.proofs.WordLaws.{half, word_digit, word_fits, last_none, last_one, take_zip, drop_zip, word_and, word_or, word_not, and_cut, or_cons, and_cons}
use Rattle.rows.specs.declared.Row.{Row}
use Rattle.rows.specs.Marks.{marks, low_word, high_word, Whole, Made}
use Rattle.rows.proofs.PackedLaws.{marks_length, few_marks, as_long, of_words, as_tabulated, retold}

-- ---- the parts of a list that the two words hold

take_lengths : (n : ℕ) (a b : List Bool) → length a ≡ length b → length (take n a) ≡ length (take n b)
take_lengths n a b h = rw (length-take n a, length-take n b, h)

drop_lengths : (n : ℕ) (a b : List Bool) → length a ≡ length b → length (drop n a) ≡ length (drop n b)
drop_lengths n a b h = rw (length-drop n a, length-drop n b, h)

low_few : (l : List Bool) → length (take 64 l) ≤ word_marks
low_few l = rw length-take (omega arith)

high_few : (l : List Bool) → length l ≤ max_states → length (drop 64 l) ≤ word_marks
high_few l h = rw length-drop (omega arith)

-- ---- or and and

module _ (ps qs : List Bool) (h : length ps ≡ length qs) where
  or_low : bit_or (marks_word (take 64 ps)) (marks_word (take 64 qs)) ≡ marks_word (take 64 (zip ◌||◌ ps qs))
  or_low = word_or (take 64 ps) (take 64 qs) (take_lengths 64 ps qs h) ∙ ap marks_word (sym (take_zip ◌||◌ 64 ps qs))

  or_high : bit_or (marks_word (drop 64 ps)) (marks_word (drop 64 qs)) ≡ marks_word (drop 64 (zip ◌||◌ ps qs))
  or_high = word_or (drop 64 ps) (drop 64 qs) (drop_lengths 64 ps qs h) ∙ ap marks_word (sym (drop_zip ◌||◌ 64 ps qs))

  and_low : bit_and (marks_word (take 64 ps)) (marks_word (take 64 qs)) ≡ marks_word (take 64 (zip ◌&&◌ ps qs))
  and_low = word_and (take 64 ps) (take 64 qs) ∙ ap marks_word (sym (take_zip ◌&&◌ 64 ps qs))

  and_high : bit_and (marks_word (drop 64 ps)) (marks_word (drop 64 qs)) ≡ marks_word (drop 64 (zip ◌&&◌ ps qs))
  and_high = word_and (drop 64 ps) (drop 64 qs) ∙ ap marks_word (sym (drop_zip ◌&&◌ 64 ps qs))

module _ (s t : Row) (a b c d : ℕ) (ea : a ≡ low_word s) (eb : b ≡ low_word t) (ec : c ≡ high_word s) (ed : d ≡ high_word t) (v : Whole s) (w : Whole t) (n : s.count ≡ t.count) where
  pub or_made : Made (record { words = bit_or a b ∷ bit_or c d ∷ []; count = s.count }) s.count (tabulate s.count (λ k. mark_at (marks s) k || mark_at (marks t) k))
  or_made =
      let h : length (marks s) ≡ length (marks t) = as_long s t v w n in
      as_tabulated s (bit_or a b) (bit_or c d) (zip ◌||◌ (marks s) (marks t)) (λ L k. mark_at (marks s) k || mark_at (marks t) k) v
      (zip_length ◌||◌ (marks s) (marks t) h) (zip_is ◌||◌ (marks s) (marks t) h) (rw (ea, eb) (or_low (marks s) (marks t) h)) (rw (ec, ed) (or_high (marks s) (marks t) h))

  pub and_made : Made (record { words = bit_and a b ∷ bit_and c d ∷ []; count = s.count }) s.count (tabulate s.count (λ k. mark_at (marks s) k && mark_at (marks t) k))
  and_made =
      let h : length (marks s) ≡ length (marks t) = as_long s t v w n in
      as_tabulated s (bit_and a b) (bit_and c d) (zip ◌&&◌ (marks s) (marks t)) (λ L k. mark_at (marks s) k && mark_at (marks t) k) v
      (zip_length ◌&&◌ (marks s) (marks t) h) (zip_is ◌&&◌ (marks s) (marks t) h) (rw (ea, eb) (and_low (marks s) (marks t) h)) (rw (ec, ed) (and_high (marks s) (marks t) h))

-- ---- not

take_full : (n : ℕ) (l : List Bool) → take n (replicate (length l) true) ≡ replicate (length (take n l)) true
take_full zero l = refl
take_full (suc n) [] = refl
take_full (suc n) (x ∷ l) = ap (λ (m : List Bool). true ∷ m) (take_full n l)

drop_full : (n : ℕ) (l : List Bool) → drop n (replicate (length l) true) ≡ replicate (length (drop n l)) true
drop_full n l = rw (drop-replicate, length-drop)

-- the words of the full row that a row is held against
module _ (s f : Row) (w : Whole s) (m : Made f s.count (tabulate s.count (λ k. true))) where
  full_marks : marks f ≡ replicate (length (marks s)) true
  full_marks = rw (marks_length s w) (m.marked ∙ sym (same_list true s.count))

  full_low_word : low_word f ≡ marks_word (replicate (length (take 64 (marks s))) true)
  full_low_word = ap marks_word (ap (take 64) full_marks ∙ take_full 64 (marks s))

  full_high_word : high_word f ≡ marks_word (replicate (length (drop 64 (marks s))) true)
  full_high_word = ap marks_word (ap (drop 64) full_marks ∙ drop_full 64 (marks s))

  pub not_made : (a b c d : ℕ) → a ≡ low_word f → b ≡ low_word s → c ≡ high_word f → d ≡ high_word s
      → Made (record { words = bit_xor a b ∷ bit_xor c d ∷ []; count = s.count }) s.count (tabulate s.count (λ k. not (mark_at (marks s) k)))
  not_made a b c d ea eb ec ed =
      as_tabulated s (bit_xor a b) (bit_xor c d) (map not (marks s)) (λ L k. not (mark_at (marks s) k)) w (length-map (marks s) not) (not_is (marks s))
      (rw (ea, eb, full_low_word, take-map not 64 (marks s)) (word_not (take 64 (marks s)))) (rw (ec, ed, full_high_word, drop-map not 64 (marks s)) (word_not (drop 64 (marks s))))

-- ---- prev

prev_cut : (c : Bool) (l : List Bool) → bit_and (marks_word l * 2 + bit c) (marks_word (replicate (length l) true)) ≡ marks_word (prev_row c l)
prev_cut c [] = and_zero_r (0 * 2 + bit c)
prev_cut true (p ∷ l) = and_cons (marks_word (p ∷ l)) (marks_word (replicate (length l) true)) true true ∙ ap (λ (m : ℕ). m * 2 + 1) (prev_cut p l)
prev_cut false (p ∷ l) = and_cons (marks_word (p ∷ l)) (marks_word (replicate (length l) true)) false true ∙ ap (λ (m : ℕ). m * 2 + 0) (prev_cut p l)

-- the last place of a word
top : (l : List Bool) → length l ≤ word_marks → marks_word l / 2 ^ 63 ≡ bit (mark_at l 63)
top l h =
    let b : marks_word l < 2 ^ 64 = word_fits l h in
    let d : marks_word l / 2 ^ 63 % 2 ≡ bit (mark_at l 63) = word_digit l 63 in
    omega arith

up : (c : Bool) (x : ℕ) → bit_or (x * 2 % 2 ^ 64) (bit c) ≡ (x * 2 + bit c) % 2 ^ 64
up c x =
    let e : x * 2 % 2 ^ 64 ≡ x % 2 ^ 63 * 2 + bit false = omega arith in
    let f : bit c ≡ 0 * 2 + bit c = omega arith in
    ap₂ bit_or e f ∙ or_cons (x % 2 ^ 63) 0 false c ∙ rw or_zero_r (first c)
  where
    first : (b : Bool) → x % 2 ^ 63 * 2 + bit b ≡ (x * 2 + bit b) % 2 ^ 64
    first true = omega arith
    first false = omega arith

prev_word : (c : Bool) (l : List Bool) → length l ≤ word_marks → bit_and ((marks_word l * 2 + bit c) % 2 ^ 64) (marks_word (replicate (length l) true)) ≡ marks_word (prev_row c l)
prev_word c l h =
    let m : ℕ = marks_word (replicate (length l) true) in
    let fits : m < 2 ^ 64 = word_fits (replicate (length l) true) (rw length-replicate h) in
    and_comm ((marks_word l * 2 + bit c) % 2 ^ 64) m ∙ sym (and_cut m (marks_word l * 2 + bit c) fits) ∙ and_comm m (marks_word l * 2 + bit c) ∙ prev_cut c l

take_prev : (n : ℕ) (c : Bool) (l : List Bool) → take n (prev_row c l) ≡ prev_row c (take n l)
take_prev zero c l = refl
take_prev (suc n) c [] = refl
take_prev (suc n) c (p ∷ l) = ap (λ (m : List Bool). c ∷ m) (take_prev n p l)

drop_prev : (n : ℕ) (c : Bool) (l : List Bool) → drop (suc n) (prev_row c l) ≡ prev_row (mark_at l n) (drop (suc n) l)
drop_prev n c [] = refl
drop_prev zero c (p ∷ l) = refl
drop_prev (suc n) c (p ∷ l) = drop_prev n p l

module _ (s f : Row) (w : Whole s) (m : Made f s.count (tabulate s.count (λ k. true))) where
  -- `Row::prev`: both words one place up, cut at the last place, are the row of `prev_at`
  pub prev_made : (a b c d : ℕ) → a ≡ low_word s → b ≡ high_word s → c ≡ low_word f → d ≡ high_word f
      → Made (record { words = bit_and (a * 2 % 2 ^ 64) c ∷ bit_and (bit_or (b * 2 % 2 ^ 64) (a / 2 ^ 63)) d ∷ []; count = s.count }) s.count (tabulate s.count (prev_at (mark_at (marks s))))
  prev_made a b c d ea eb ec ed =
      let l : List Bool = marks s in
      let z : marks_word (take 64 l) * 2 ≡ marks_word (take 64 l) * 2 + bit false = omega arith in
      let lo : bit_and (marks_word (take 64 l) * 2 % 2 ^ 64) (marks_word (replicate (length (take 64 l)) true)) ≡ marks_word (prev_row false (take 64 l)) =
      ap (λ (x : ℕ). bit_and (x % 2 ^ 64) (marks_word (replicate (length (take 64 l)) true))) z ∙ prev_word false (take 64 l) (low_few l) in
      let hi : bit_and (bit_or (marks_word (drop 64 l) * 2 % 2 ^ 64) (marks_word (take 64 l) / 2 ^ 63)) (marks_word (replicate (length (drop 64 l)) true)) ≡ marks_word (prev_row (mark_at l 63) (drop 64 l)) =
      rw (top (take 64 l) (low_few l), get_or-take 64 l 63 false (omega arith), up (mark_at l 63) (marks_word (drop 64 l))) (prev_word (mark_at l 63) (drop 64 l) (high_few l (few_marks s w))) in
      as_tabulated s (bit_and (a * 2 % 2 ^ 64) c) (bit_and (bit_or (b * 2 % 2 ^ 64) (a / 2 ^ 63)) d) (prev_row false l) (λ L. prev_at (mark_at l)) w (prev_length false l) (prev_is l)
      (rw (ea, ec, full_low_word s f w m, lo) (ap marks_word (sym (take_prev 64 false l))))
      (rw (eb, ea, ed, full_high_word s f w m, hi) (ap marks_word (sym (drop_prev 63 false l))))

-- ---- since

take_since : (n : ℕ) (c : Bool) (ps qs : List Bool) → take n (since_row c ps qs) ≡ since_row c (take n ps) (take n qs)
take_since zero c ps qs = refl
take_since (suc n) c [] qs = refl
take_since (suc n) c (p ∷ ps) [] = refl
take_since (suc n) c (p ∷ ps) (q ∷ qs) = ap (λ (m : List Bool). (q || (p && c)) ∷ m) (take_since n (q || (p && c)) ps qs)

since_nil : (c : Bool) (ps : List Bool) → since_row c ps [] ≡ []
since_nil c [] = refl
since_nil c (p ∷ ps) = refl

drop_since : (n : ℕ) (c : Bool) (ps qs : List Bool)
    → drop (suc n) (since_row c ps qs) ≡ since_row (mark_at (since_row c ps qs) n) (drop (suc n) ps) (drop (suc n) qs)
drop_since n c [] qs = refl
drop_since n c (p ∷ ps) [] = sym (since_nil false (drop n ps))
drop_since zero c (p ∷ ps) (q ∷ qs) = refl
drop_since (suc n) c (p ∷ ps) (q ∷ qs) = drop_since n (q || (p && c)) ps qs

-- what `since_word` ensures
abbrev pub SinceWord : ℕ → ℕ → ℕ → ℕ → Type 0
SinceWord p q c r = (ps qs : List Bool) (b : Bool) → p ≡ marks_word ps → q ≡ marks_word qs → c ≡ bit b → length ps ≡ length qs → r ≡ marks_word (since_row b ps qs)

-- `Row::since`: both words, the last place of the low one carried, are the row of `since_at`
pub since_made : (s t : Row) (a b c d lo hi : ℕ) → Whole s → Whole t → s.count ≡ t.count → a ≡ low_word s → b ≡ low_word t → c ≡ high_word s → d ≡ high_word t
    → SinceWord a b 0 lo → SinceWord c d (lo / 2 ^ 63) hi
    → Made (record { words = lo ∷ hi ∷ []; count = s.count }) s.count (tabulate s.count (since_at (mark_at (marks s)) (mark_at (marks t))))
since_made s t a b c d lo hi v w n ea eb ec ed low high =
    let ps : List Bool = marks s in
    let qs : List Bool = marks t in
    let h : length ps ≡ length qs = as_long s t v w n in
    let r : List Bool = since_row false ps qs in
    let el : lo ≡ marks_word (take 64 r) = low (take 64 ps) (take 64 qs) false ea eb refl (take_lengths 64 ps qs h) ∙ ap marks_word (sym (take_since 64 false ps qs)) in
    let carried : lo / 2 ^ 63 ≡ bit (mark_at r 63) = rw (el, top (take 64 r) (low_few r), get_or-take 64 r 63 false (omega arith)) in
    let eh : hi ≡ marks_word (drop 64 r) = high (drop 64 ps) (drop 64 qs) (mark_at r 63) ec ed carried (drop_lengths 64 ps qs h) ∙ ap marks_word (sym (drop_since 63 false ps qs)) in
    as_tabulated s lo hi r (λ L. since_at (mark_at ps) (mark_at qs)) v (since_length false ps qs h) (since_is ps qs h) el eh

-- ---- an operator on rows that are made: what its contract says of its operands, said of the lists they were made of

made_on : (f : ℕ → List Bool → List Bool) (s r : Row) (n : ℕ) (l : List Bool) → Made r s.count (f s.count (marks s)) → Made s n l → Made r n (f n l)
made_on f s r n l v m = record { whole = v.whole; count = v.count ∙ m.count; marked = v.marked ∙ ap₂ f m.count m.marked }

made_on_two : (f : ℕ → List Bool → List Bool → List Bool) (s t r : Row) (n : ℕ) (ps qs : List Bool)
    → Made r s.count (f s.count (marks s) (marks t)) → Made s n ps → Made t n qs → Made r n (f n ps qs)
made_on_two f s t r n ps qs v m o =
    made_on (λ c l. f c l qs) s r n ps
    (record { whole = v.whole; count = v.count; marked = v.marked ∙ ap (f s.count (marks s)) o.marked }) m

pub not_on : (s r : Row) (n : ℕ) (l : List Bool) → Made r s.count (tabulate s.count (λ k. not (mark_at (marks s) k))) → Made s n l → Made r n (tabulate n (λ k. not (mark_at l k)))
not_on s r n l v m = made_on (λ c a. tabulate c (λ k. not (mark_at a k))) s r n l v m

pub or_on : (s t r : Row) (n : ℕ) (ps qs : List Bool) → Made r s.count (tabulate s.count (λ k. mark_at (marks s) k || mark_at (marks t) k)) → Made s n ps → Made t n qs
    → Made r n (tabulate n (λ k. mark_at ps k || mark_at qs k))
or_on s t r n ps qs v m o = made_on_two (λ c a b. tabulate c (λ k. mark_at a k || mark_at b k)) s t r n ps qs v m o

and_on : (s t r : Row) (n : ℕ) (ps qs : List Bool) → Made r s.count (tabulate s.count (λ k. mark_at (marks s) k && mark_at (marks t) k)) → Made s n ps → Made t n qs
    → Made r n (tabulate n (λ k. mark_at ps k && mark_at qs k))
and_on s t r n ps qs v m o = made_on_two (λ c a b. tabulate c (λ k. mark_at a k && mark_at b k)) s t r n ps qs v m o

pub next_on : (s r : Row) (n : ℕ) (l : List Bool) (w : Bool) → Made r s.count (tabulate s.count (next_at w s.count (mark_at (marks s)))) → Made s n l → Made r n (tabulate n (next_at w n (mark_at l)))
next_on s r n l w v m = made_on (λ c a. tabulate c (next_at w c (mark_at a))) s r n l v m

pub until_on : (s t r : Row) (n : ℕ) (ps qs : List Bool) (w : Bool) → Made r s.count (tabulate s.count (until_at w s.count (mark_at (marks s)) (mark_at (marks t)))) → Made s n ps → Made t n qs
    → Made r n (tabulate n (until_at w n (mark_at ps) (mark_at qs)))
until_on s t r n ps qs w v m o = made_on_two (λ c a b. tabulate c (until_at w c (mark_at a) (mark_at b))) s t r n ps qs v m o

pub prev_on : (s r : Row) (n : ℕ) (l : List Bool) → Made r s.count (tabulate s.count (prev_at (mark_at (marks s)))) → Made s n l → Made r n (tabulate n (prev_at (mark_at l)))
prev_on s r n l v m = made_on (λ c a. tabulate c (prev_at (mark_at a))) s r n l v m

pub since_on : (s t r : Row) (n : ℕ) (ps qs : List Bool) → Made r s.count (tabulate s.count (since_at (mark_at (marks s)) (mark_at (marks t)))) → Made s n ps → Made t n qs
    → Made r n (tabulate n (since_at (mark_at ps) (mark_at qs)))
since_on s t r n ps qs v m o = made_on_two (λ c a b. tabulate c (since_at (mark_at a) (mark_at b))) s t r n ps qs v m o

pub last_on : (s r : Row) (n : ℕ) (l : List Bool) (w : Bool) → Made r s.count (tabulate s.count (last_at w s.count (mark_at (marks s)))) → Made s n l → Made r n (tabulate n (last_at w n (mark_at l)))
last_on s r n l w v m = made_on (λ c a. tabulate c (last_at w c (mark_at a))) s r n l v m

pub whole_made : (r : Row) (n : ℕ) → Whole r → n ≡ r.count → Made r n (marks r)
whole_made r n w e = record { whole = w; count = sym e; marked = refl }

-- ---- next

next_half : (l : List Bool) → marks_word (next_row false l) ≡ marks_word l / 2
next_half [] = refl
next_half (true ∷ []) = refl
next_half (false ∷ []) = refl
next_half (b ∷ x ∷ l) = rw (half b (x ∷ l), next_half (x ∷ l)) (again x)
  where
    again : (y : Bool) → marks_word (y ∷ l) / 2 * 2 + bit y ≡ marks_word (y ∷ l)
    again true = omega arith
    again false = omega arith

drop_next : (n : ℕ) (w : Bool) (l : List Bool) → drop n (next_row w l) ≡ next_row w (drop n l)
drop_next zero w l = refl
drop_next (suc n) w [] = refl
drop_next (suc n) w (b ∷ l) = drop_next n w l

-- a row's front is that of its lower part, or the front of its upper part
front : (w : Bool) (n : ℕ) (l : List Bool) → head_d l w ≡ head_d (take n l) (head_d (drop n l) w)
front w zero l = refl
front w (suc n) [] = refl
front w (suc n) (x ∷ l) = refl

take_next : (n : ℕ) (w : Bool) (l : List Bool) → take n (next_row w l) ≡ next_row (head_d (drop n l) w) (take n l)
take_next zero w l = refl
take_next (suc n) w [] = refl
take_next (suc n) w (b ∷ l) = ap₂ (λ (x : Bool) (m : List Bool). x ∷ m) (front w n l) (take_next n w l)

-- the lowest mark of the upper word, carried to the top of the lower
last_carried : (h : List Bool) (n : ℕ) → (n ≡ 64) ⊎ (h ≡ []) → marks_word h * 2 ^ 63 % 2 ^ 64 ≡ marks_word (last_only (head_d h false) n)
last_carried [] n e = sym (last_none n)
last_carried (true ∷ h) n e = ⊎_elim (λ (x : n ≡ 64). rw x (omega (arith, last_one 63))) (λ (y : true ∷ h ≡ []). absurd (cons_nil y)) e
  where
    cons_nil : {b : Bool} {l : List Bool} → b ∷ l ≡ [] → ⊥
    cons_nil y = let z : ◌≡◌ {A = ℕ} 0 1 = cc in omega arith
last_carried (false ∷ h) n e = rw (last_none n) (omega arith)

next_or : (w : Bool) (l : List Bool) → next_row w l ≡ zip ◌||◌ (next_row false l) (last_only w (length l))
next_or w [] = refl
next_or true (b ∷ []) = refl
next_or false (b ∷ []) = refl
next_or w (b ∷ true ∷ l) = ap (λ (m : List Bool). true ∷ m) (next_or w (true ∷ l))
next_or w (b ∷ false ∷ l) = ap (λ (m : List Bool). false ∷ m) (next_or w (false ∷ l))

-- the lower word is whole, or there is no upper
whole_or_none : (l : List Bool) → (length (take 64 l) ≡ 64) ⊎ (drop 64 l ≡ [])
whole_or_none l =
    ⊎_elim (λ (x : length l < 64). inr (drop_of_length-le l {i = 64} (omega arith))) (λ (x : 64 ≤ length l). inl (length-take-le 64 l x)) (lt_or_le (length l) 64)

-- the row one place on, without an ending
pub moved_made : (s : Row) (a b : ℕ) → Whole s → a ≡ low_word s → b ≡ high_word s
    → Made (record { words = bit_or (a / 2) (b * 2 ^ 63 % 2 ^ 64) ∷ b / 2 ∷ []; count = s.count }) s.count (next_row false (marks s))
moved_made s a b w ea eb =
    let l : List Bool = marks s in
    let t : List Bool = take 64 l in
    let c : Bool = head_d (drop 64 l) false in
    let n : length (next_row false t) ≡ length (last_only c (length t)) = next_length false t ∙ sym (only_length c (length t)) in
    let lo : bit_or (marks_word t / 2) (marks_word (drop 64 l) * 2 ^ 63 % 2 ^ 64) ≡ marks_word (next_row c t) =
    ap₂ bit_or (sym (next_half t)) (last_carried (drop 64 l) (length t) (whole_or_none l)) ∙ word_or (next_row false t) (last_only c (length t)) n ∙ ap marks_word (sym (next_or c t)) in
    of_words (next_row false l) s.count (bit_or (a / 2) (b * 2 ^ 63 % 2 ^ 64)) (b / 2) (next_length false l ∙ marks_length s w) w.few
    (rw (ea, eb, lo) (ap marks_word (sym (take_next 64 false l)))) (rw eb (sym (next_half (drop 64 l)) ∙ ap marks_word (sym (drop_next 64 false l))))

pub moved_whole : (s : Row) (a b : ℕ) → Whole s → a ≡ low_word s → b ≡ high_word s → Whole (record { words = bit_or (a / 2) (b * 2 ^ 63 % 2 ^ 64) ∷ b / 2 ∷ []; count = s.count })
moved_whole s a b w ea eb = (moved_made s a b w ea eb).whole

-- `Row::next`: the row one place on with its ending is the row of `next_at`
pub next_made : (s t r : Row) (a b : ℕ) (w : Bool) → Whole s → a ≡ low_word s → b ≡ high_word s → Made t s.count (last_only w s.count)
    → Made r s.count (tabulate s.count (λ k. mark_at (marks (record { words = bit_or (a / 2) (b * 2 ^ 63 % 2 ^ 64) ∷ b / 2 ∷ []; count = s.count })) k || mark_at (marks t) k))
    → Made r s.count (tabulate s.count (next_at w s.count (mark_at (marks s))))
next_made s t r a b w v ea eb et er =
    let n : ℕ = s.count in
    let l : List Bool = marks s in
    let m : Row = record { words = bit_or (a / 2) (b * 2 ^ 63 % 2 ^ 64) ∷ b / 2 ∷ []; count = s.count } in
    let c : length l ≡ n = marks_length s v in
    let z : length (next_row false l) ≡ n = next_length false l ∙ c in
    let e : tabulate n (λ k. mark_at (next_row false l) k || mark_at (last_only w n) k) ≡ zip ◌||◌ (next_row false l) (last_only w n) =
    sym (rw z at (zip_is ◌||◌ (next_row false l) (last_only w n) (z ∙ sym (only_length w n)))) in
    let f : zip ◌||◌ (next_row false l) (last_only w n) ≡ tabulate n (next_at w n (mark_at l)) = rw c at (sym (next_or w l) ∙ next_is w l) in
    retold r n (tabulate n (λ k. mark_at (next_row false l) k || mark_at (last_only w n) k)) (tabulate n (next_at w n (mark_at l)))
    (or_on m t r n (next_row false l) (last_only w n) er (moved_made s a b v ea eb) et) (e ∙ f)

-- ---- the last mark

cut_and_put : (p w z : Bool) → ((p && not (pick z false true)) || pick z false w) ≡ pick z p w
unfolding pick
cut_and_put true w true = refl
cut_and_put false w true = refl
cut_and_put true w false = refl
cut_and_put false w false = refl

-- `Row::with_last`: the row with its last mark put is the row of `last_at`
pub last_made : (s e b c t r : Row) (w : Bool) → Whole s → Made e s.count (last_only true s.count) → Made b e.count (tabulate e.count (λ k. not (mark_at (marks e) k)))
    → Made c s.count (tabulate s.count (λ k. mark_at (marks s) k && mark_at (marks b) k)) → Made t s.count (last_only w s.count)
    → Made r c.count (tabulate c.count (λ k. mark_at (marks c) k || mark_at (marks t) k)) → Made r s.count (tabulate s.count (last_at w s.count (mark_at (marks s))))
last_made s e b c t r w v ee eb ec et er =
    let n : ℕ = s.count in
    let l : List Bool = marks s in
    let before : List Bool = tabulate n (λ k. not (mark_at (last_only true n) k)) in
    let cut : List Bool = tabulate n (λ k. mark_at l k && mark_at before k) in
    let mb : Made b n before = not_on e b n (last_only true n) eb ee in
    let mc : Made c n cut = and_on s b c n l before ec (whole_made s n v refl) mb in
    retold r n (tabulate n (λ k. mark_at cut k || mark_at (last_only w n) k)) (tabulate n (last_at w n (mark_at l))) (or_on c t r n cut (last_only w n) er mc et)
    (tabulate_same n (λ k. mark_at cut k || mark_at (last_only w n) k) (last_at w n (mark_at l)) (λ i less.
    rw (tabulate_at n (λ k. mark_at l k && mark_at before k) i less, tabulate_at n (λ k. not (mark_at (last_only true n) k)) i less, only_at true n i less, only_at w n i less)
    (cut_and_put (mark_at l i) w (ltb (suc i) n))))

-- ---- until

abbrev closed : Bool → List Bool → List Bool → List Bool
closed w ps qs = zip ◌||◌ qs (zip ◌&&◌ ps (last_only w (length ps)))

close_one : (p q w : Bool) → (q || (p && w)) ≡ ((q || (p && w)) || (p && false))
close_one p true w = refl
close_one false false w = refl
close_one true false true = refl
close_one true false false = refl

close_more : (p q b : Bool) → (q || (p && b)) ≡ ((q || (p && false)) || (p && b))
close_more p true b = refl
close_more false false b = refl
close_more true false b = refl

-- what is past the last place, told at the last place
close : (w : Bool) (ps qs : List Bool) → length ps ≡ length qs → until_row w ps qs ≡ until_row false ps (closed w ps qs)
close w [] qs h = refl
close w (p ∷ ps) [] h = refl
close w (p ∷ []) (q ∷ qs) h = ap (λ (b : Bool). b ∷ []) (close_one p q w)
close w (p ∷ x ∷ ps) (q ∷ []) h = absurd (omega arith)
close w (p ∷ x ∷ ps) (q ∷ y ∷ qs) h =
    let ih : until_row w (x ∷ ps) (y ∷ qs) ≡ until_row false (x ∷ ps) (closed w (x ∷ ps) (y ∷ qs)) = close w (x ∷ ps) (y ∷ qs) (omega arith) in
    ap₂ (λ (b : Bool) (l : List Bool). b ∷ l)
    (close_more p q (head_d (until_row w (x ∷ ps) (y ∷ qs)) w) ∙ ap (λ (l : List Bool). (q || (p && false)) || (p && head_d l false)) ih) ih

until_nil : (w : Bool) (ps : List Bool) → until_row w ps [] ≡ []
until_nil w [] = refl
until_nil w (p ∷ ps) = refl

drop_until : (n : ℕ) (w : Bool) (ps qs : List Bool) → drop n (until_row w ps qs) ≡ until_row w (drop n ps) (drop n qs)
drop_until zero w ps qs = refl
drop_until (suc n) w [] qs = refl
drop_until (suc n) w (p ∷ ps) [] = sym (until_nil w (drop n ps))
drop_until (suc n) w (p ∷ ps) (q ∷ qs) = drop_until n w ps qs

take_until : (n : ℕ) (w : Bool) (ps qs : List Bool) → take n (until_row w ps qs) ≡ until_row (head_d (drop n (until_row w ps qs)) w) (take n ps) (take n qs)
take_until zero w ps qs = refl
take_until (suc n) w [] qs = refl
take_until (suc n) w (p ∷ ps) [] = refl
take_until (suc n) w (p ∷ ps) (q ∷ qs) =
    let u : List Bool = until_row w ps qs in
    let ih : take n u ≡ until_row (head_d (drop n u) w) (take n ps) (take n qs) = take_until n w ps qs in
    ap₂ (λ (b : Bool) (l : List Bool). (q || (p && b)) ∷ l) (front w n u ∙ ap (λ (l : List Bool). head_d l (head_d (drop n u) w)) ih) ih

closed_length : (w : Bool) (ps qs : List Bool) → length ps ≡ length qs → length (closed w ps qs) ≡ length ps
closed_length w ps qs h =
    let n : length (zip ◌&&◌ ps (last_only w (length ps))) ≡ length ps = zip_length ◌&&◌ ps (last_only w (length ps)) (sym (only_length w (length ps))) in
    zip_length ◌||◌ qs (zip ◌&&◌ ps (last_only w (length ps))) (sym h ∙ sym n) ∙ sym h

-- the word of a last mark, put in
closed_word : (w : Bool) (ps qs : List Bool) (x : ℕ) → length ps ≡ length qs → x ≡ marks_word (last_only w (length ps))
    → bit_or (marks_word qs) (bit_and (marks_word ps) x) ≡ marks_word (closed w ps qs)
closed_word w ps qs x h e =
    let n : length (zip ◌&&◌ ps (last_only w (length ps))) ≡ length ps = zip_length ◌&&◌ ps (last_only w (length ps)) (sym (only_length w (length ps))) in
    rw (e, word_and ps (last_only w (length ps))) (word_or qs (zip ◌&&◌ ps (last_only w (length ps))) (sym h ∙ sym n))

-- what `until_word` ensures
abbrev pub UntilWord : ℕ → ℕ → ℕ → Type 0
UntilWord p q r = (ps qs : List Bool) → p ≡ marks_word ps → q ≡ marks_word qs → length ps ≡ length qs → length ps ≤ word_marks → r ≡ marks_word (until_row false ps qs)

-- the list that q becomes by the ending
module _ (s t k b e : Row) (w : Bool) (v : Whole s) (u : Whole t) (n : s.count ≡ t.count) (ek : Made k s.count (last_only w s.count))
    (eb : Made b s.count (tabulate s.count (λ i. mark_at (marks s) i && mark_at (marks k) i)))
    (ee : Made e t.count (tabulate t.count (λ i. mark_at (marks t) i || mark_at (marks b) i))) where
  ended_is : marks e ≡ closed w (marks s) (marks t)
  ended_is =
      let ps : List Bool = marks s in
      let qs : List Bool = marks t in
      let h : length ps ≡ length qs = as_long s t v u n in
      let c : s.count ≡ length ps = sym (marks_length s v) in
      let d : t.count ≡ length qs = sym (marks_length t u) in
      let mk : marks k ≡ last_only w (length ps) = ek.marked ∙ ap (last_only w) c in
      let hk : length ps ≡ length (last_only w (length ps)) = sym (only_length w (length ps)) in
      let mb : marks b ≡ zip ◌&&◌ ps (last_only w (length ps)) =
      eb.marked ∙ ap₂ (λ (m : ℕ) (ks : List Bool). tabulate m (λ i. mark_at ps i && mark_at ks i)) c mk ∙ sym (zip_is ◌&&◌ ps (last_only w (length ps)) hk) in
      let hb : length qs ≡ length (zip ◌&&◌ ps (last_only w (length ps))) = sym h ∙ sym (zip_length ◌&&◌ ps (last_only w (length ps)) hk) in
      ee.marked ∙ ap₂ (λ (m : ℕ) (bs : List Bool). tabulate m (λ i. mark_at qs i || mark_at bs i)) d mb ∙ sym (zip_is ◌||◌ qs (zip ◌&&◌ ps (last_only w (length ps))) hb)

  -- `Row::until`: both words, with the ending at the last place, are the row of `until_at`
  pub until_made : (p c q d lo hi : ℕ) → p ≡ low_word s → c ≡ high_word s → q ≡ low_word e → d ≡ high_word e
      → UntilWord c d hi → UntilWord p (bit_or q (bit_and p (hi * 2 ^ 63 % 2 ^ 64))) lo
      → Made (record { words = lo ∷ hi ∷ []; count = s.count }) s.count (tabulate s.count (until_at w s.count (mark_at (marks s)) (mark_at (marks t))))
  until_made p c q d lo hi ep ec eq ed high low =
      let ps : List Bool = marks s in
      let qs : List Bool = marks t in
      let h : length ps ≡ length qs = as_long s t v u n in
      let rs : List Bool = closed w ps qs in
      let hr : length ps ≡ length rs = sym (closed_length w ps qs h) in
      let r : List Bool = until_row false ps rs in
      let eh : hi ≡ marks_word (drop 64 r) =
      high (drop 64 ps) (drop 64 rs) ec (rw ended_is at ed) (drop_lengths 64 ps rs hr) (high_few ps (few_marks s v)) ∙ ap marks_word (sym (drop_until 64 false ps rs)) in
      let a : List Bool = take 64 ps in
      let b : List Bool = take 64 rs in
      let x : Bool = head_d (drop 64 r) false in
      let hab : length a ≡ length b = take_lengths 64 ps rs hr in
      let lu : length r ≡ length ps = until_length false ps rs hr in
      let some : (length a ≡ 64) ⊎ (drop 64 r ≡ []) =
      ⊎_elim (λ (y : length ps < 64). inr (drop_of_length-le r {i = 64} (omega arith))) (λ (y : 64 ≤ length ps). inl (length-take-le 64 ps y)) (lt_or_le (length ps) 64) in
      let carried : hi * 2 ^ 63 % 2 ^ 64 ≡ marks_word (last_only x (length a)) = rw eh (last_carried (drop 64 r) (length a) some) in
      let eb : bit_or q (bit_and p (hi * 2 ^ 63 % 2 ^ 64)) ≡ marks_word (closed x a b) = rw (ep, eq, ended_is) (closed_word x a b (hi * 2 ^ 63 % 2 ^ 64) hab carried) in
      let el : lo ≡ marks_word (take 64 r) =
      low a (closed x a b) ep eb (sym (closed_length x a b hab)) (low_few ps) ∙ ap marks_word (sym (close x a b hab) ∙ sym (take_until 64 false ps rs)) in
      as_tabulated s lo hi r (λ L. until_at w L (mark_at ps) (mark_at qs)) v lu (sym (close w ps qs h) ∙ until_is w ps qs h) el eh
