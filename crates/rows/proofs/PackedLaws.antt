-- Laws of rows as lists: two words and a count hold a list of marks.
use mathlib.Core.Bool.{Bool, true, false, ◌||◌}
use mathlib.Core.List.{List, [], ◌∷◌, ◌++◌}
use mathlib.Core.Logic.{⊎_elim}
use mathlib.Core.Path.{◌≡◌, refl, sym, ap, ap₂, ◌∙◌}
use Prim.Native.Nat.{ℕ, zero, suc, ◌+◌, ◌-◌, ◌*◌, ◌/◌, ◌%◌, ◌^◌, ◌<◌, ◌≤◌}
use native.Mathlib.Nat.{zero-add, zero-mul, one-mul, mod-eq_of_lt}
use native.Mathlib.Omega.{arith}
use borrow.Author.Rules.{rules}
use lib.Bits.{bit_or}
use lib.Pow.{pow-lt}
use lib.Count.{ones}
use Rattle.std.specs.Int.{from_bool}
use Rattle.std.proofs.lemmas.List.{take-replicate, drop-replicate}
use lib.ListN.{length, take, drop, get_or, replicate, length-append, length-drop, length-replicate, take-append-drop, drop_of_length-le}
use lib.Seq.{take_all, take-append-le, drop-append-le, get_or-take, get_or-drop}
use Rattle.definitions.specs.Limits.{max_states, word_marks}
use Rattle.definitions.specs.Bounded.{bit, bit_of, tabulate, tabulate_from}
use Rattle.definitions.specs.Readings.{marks_word}
use Rattle.theorems.proofs.Tabulations.{tabulated, tabulate_length, tabulate_take, tabulate_drop}
use Rattle.mark_words.specs.Marks.{mark_at, yes_marks}
use Rattle.mark_words.specs.Lists.{last_only}
use Rattle.mark_words.specs.Words.{gathered}
use Rattle.mark_words.proofs.OperatorLaws.{lt_or_le, same_list, only_length, only_none}
use Rattle.mark_words.proofs.WordLaws.{word_bit, ones_word, or_cons, last_none, last_one}
use Rattle.rows.specs.declared.Row.{Row}
use Rattle.rows.specs.Marks.{bit_at, marks, packed, low_word, high_word, Whole, Made}

-- ---- the marks of a row

packed_at : (l : List Bool) (k : ℕ) → k < max_states → bit_at (packed l).words k ≡ mark_at l k
unfolding packed
packed_at l k h =
    ⊎_elim
    (λ (lt : k < 64).
    let e1 : k / 64 ≡ 0 = omega arith in
    let e2 : k % 64 ≡ k = omega arith in
    rw (e1, e2, word_bit, get_or-take 64 l k false lt))
    (λ (ge : 64 ≤ k).
    let e1 : k / 64 ≡ 1 = omega arith in
    let e2 : k % 64 ≡ k - 64 = omega arith in
    let e3 : 64 + (k - 64) ≡ k = omega arith in
    rw (e1, e2, word_bit, get_or-drop, e3))
    (lt_or_le k 64)

row_count : (s : Row) (l : List Bool) → s ≡ packed l → s.count ≡ length l
unfolding packed
row_count s l e = ap (λ (r : Row). r.count) e

marks_packed : (l : List Bool) → length l ≤ max_states → marks (packed l) ≡ l
unfolding marks packed
marks_packed l h = sym (tabulated l (length l) (bit_at (packed l).words) refl (λ i hi. sym (packed_at l i (omega arith))))

pub marks_length : (r : Row) → Whole r → length (marks r) ≡ r.count
marks_length r w = sym (row_count r (marks r) w.exact)

pub few_marks : (s : Row) → Whole s → length (marks s) ≤ max_states
few_marks s w = rw (marks_length s w) w.few

pub as_long : (s t : Row) → Whole s → Whole t → s.count ≡ t.count → length (marks s) ≡ length (marks t)
as_long s t v w h = marks_length s v ∙ h ∙ sym (marks_length t w)

-- whatever list a row was packed of, it is whole, and that list is its marks
pub made : (r : Row) (l : List Bool) (n : ℕ) → r ≡ packed l → length l ≡ n → n ≤ max_states → Made r n l
made r l n e en h =
    let few : length l ≤ max_states = omega arith in
    let c : r.count ≡ length l = row_count r l e in
    record {
      whole = record { few = omega arith; exact = rw (e, marks_packed l few) };
      count = c ∙ en;
      marked = ap marks e ∙ marks_packed l few;
    }

-- the same marks, said otherwise
pub retold : (r : Row) (n : ℕ) (l m : List Bool) → Made r n l → l ≡ m → Made r n m
retold r n l m v e = record { whole = v.whole; count = v.count; marked = v.marked ∙ e }

-- as many places, told otherwise
pub recounted : (r : Row) (m n : ℕ) (f : ℕ → List Bool) → Made r m (f m) → m ≡ n → Made r n (f n)
recounted r m n f v e = rw e at v

-- ---- its two words

pub low_is : (s : Row) → Whole s → get_or s.words 0 0 ≡ low_word s
unfolding packed
low_is s w = ap (λ (r : Row). get_or r.words 0 0) w.exact

pub high_is : (s : Row) → Whole s → get_or s.words 1 0 ≡ high_word s
unfolding packed
high_is s w = ap (λ (r : Row). get_or r.words 1 0) w.exact

-- two words that hold a list
pub of_words : (l : List Bool) (n lo hi : ℕ) → length l ≡ n → n ≤ max_states → lo ≡ marks_word (take word_marks l) → hi ≡ marks_word (drop word_marks l)
    → Made (record { words = lo ∷ hi ∷ []; count = n }) n l
unfolding packed
of_words l n lo hi en h e f = made (record { words = lo ∷ hi ∷ []; count = n }) l n (rw (e, f, ← en)) en h

-- a list that the low word holds
pub of_low : (l : List Bool) (n lo : ℕ) → length l ≡ n → n ≤ word_marks → lo ≡ marks_word l → Made (record { words = lo ∷ 0 ∷ []; count = n }) n l
of_low l n lo en h e =
    let len : length l ≤ 64 = omega arith in
    of_words l n lo 0 en (omega arith) (rw (take_all 64 l len) e) (rw (drop_of_length-le l {i = 64} len))

-- two words that hold as many places as s: a list that is the tabulated one
pub as_tabulated : (s : Row) (lo hi : ℕ) (l : List Bool) (f : ℕ → ℕ → Bool) → Whole s → length l ≡ length (marks s) → l ≡ tabulate (length (marks s)) (f (length (marks s)))
    → lo ≡ marks_word (take word_marks l) → hi ≡ marks_word (drop word_marks l)
    → Made (record { words = lo ∷ hi ∷ []; count = s.count }) s.count (tabulate s.count (f s.count))
as_tabulated s lo hi l f w h g e o =
    let n : length (marks s) ≡ s.count = marks_length s w in
    let g' : l ≡ tabulate s.count (f s.count) = rw n at g in
    retold (record { words = lo ∷ hi ∷ []; count = s.count }) s.count l (tabulate s.count (f s.count)) (of_words l s.count lo hi (h ∙ n) w.few e o) g'

-- ---- every mark

pub full_low : (n w : ℕ) → n ≤ word_marks → w ≡ marks_word (replicate n true) → Made (record { words = w ∷ 0 ∷ []; count = n }) n (tabulate n (λ k. true))
full_low n w h e = rw (← same_list true n) (of_low (replicate n true) n w (length-replicate n true) h e)

pub full_high : (n w v : ℕ) → word_marks < n → n ≤ max_states → w ≡ marks_word (replicate word_marks true) → v ≡ marks_word (replicate (n - word_marks) true)
    → Made (record { words = w ∷ v ∷ []; count = n }) n (tabulate n (λ k. true))
full_high n w v h few e f =
    let t : take 64 (replicate n true) ≡ replicate 64 true = take-replicate 64 n true (omega arith) in
    let d : drop 64 (replicate n true) ≡ replicate (n - 64) true = drop-replicate 64 n true in
    rw (← same_list true n) (of_words (replicate n true) n w v (length-replicate n true) few (e ∙ ap marks_word (sym t)) (f ∙ ap marks_word (sym d)))

-- ---- no mark but the last

take_only : (w : Bool) (m j : ℕ) → marks_word (take m (last_only w (m + suc j))) ≡ 0
take_only w zero j = refl
take_only w (suc m) j =
    let e : suc m + suc j ≡ suc (suc (m + j)) = omega arith in
    let f : m + suc j ≡ suc (m + j) = omega arith in
    let ih : marks_word (take m (last_only w (suc (m + j)))) ≡ 0 = rw f at (take_only w m j) in
    rw e (omega (arith, ih))

drop_only : (w : Bool) (m j : ℕ) → drop m (last_only w (m + suc j)) ≡ last_only w (suc j)
drop_only w zero j = let e : 0 + suc j ≡ suc j = omega arith in rw e
drop_only w (suc m) j =
    let e : suc m + suc j ≡ suc (suc (m + j)) = omega arith in
    let f : m + suc j ≡ suc (m + j) = omega arith in
    rw e (rw f at (drop_only w m j))

pub last_low : (w : Bool) (n a : ℕ) → n ≤ word_marks → a ≡ marks_word (last_only w n) → Made (record { words = a ∷ 0 ∷ []; count = n }) n (last_only w n)
last_low w n a h e = of_low (last_only w n) n a (only_length w n) h e

pub last_high : (w : Bool) (n a : ℕ) → word_marks < n → n ≤ max_states → a ≡ marks_word (last_only w (n - word_marks)) → Made (record { words = 0 ∷ a ∷ []; count = n }) n (last_only w n)
last_high w n a h few e =
    let en : n ≡ 64 + suc (n - 65) = omega arith in
    let em : n - 64 ≡ suc (n - 65) = omega arith in
    let t : marks_word (take 64 (last_only w n)) ≡ 0 = ap (λ (m : ℕ). marks_word (take 64 (last_only w m))) en ∙ take_only w 64 (n - 65) in
    let d : drop 64 (last_only w n) ≡ last_only w (n - 64) = ap (λ (m : ℕ). drop 64 (last_only w m)) en ∙ drop_only w 64 (n - 65) ∙ ap (last_only w) (sym em) in
    of_words (last_only w n) n 0 a (only_length w n) few (sym t) (e ∙ ap marks_word (sym d))

pub none_made : (r : Row) (n : ℕ) → Made r n (last_only false n) → Made r n (tabulate n (λ k. false))
none_made r n m = retold r n (last_only false n) (tabulate n (λ k. false)) m (only_none n)

-- ---- one mark more

word_more : (l : List Bool) (y : Bool) → bit_or (marks_word l) (marks_word (last_only y (suc (length l)))) ≡ marks_word (l ++ (y ∷ []))
word_more [] true = refl
word_more [] false = refl
word_more (b ∷ l) y = or_cons (marks_word l) (marks_word (last_only y (suc (length l)))) b false ∙ ap₂ (λ (x : ℕ) (z : Bool). x * 2 + bit z) (word_more l y) (or_no_lem b)
  where
    or_no_lem : (x : Bool) → (x || false) ≡ x
    or_no_lem true = refl
    or_no_lem false = refl

-- the new mark, moved to its place
word_pushed : (l : List Bool) (y : Bool) (k w v : ℕ) → k ≡ length l → k < word_marks → w ≡ marks_word l → v ≡ bit y → bit_or w (v * 2 ^ k % 2 ^ 64) ≡ marks_word (l ++ (y ∷ []))
word_pushed l y k w v e h ew ev = rw (ew, ev, placed y) (ap (λ (n : ℕ). bit_or (marks_word l) (marks_word (last_only y (suc n)))) e ∙ word_more l y)
  where
    placed : (x : Bool) → bit x * 2 ^ k % 2 ^ 64 ≡ marks_word (last_only x (suc k))
    placed true = rw (one-mul, mod-eq_of_lt (pow-lt {i = k} {j = 64} h)) (sym (last_one k))
    placed false = rw zero-mul (sym (last_none (suc k)))

-- a mark as a number
number_of_mark : (y : Bool) → from_bool y ≡ bit y
number_of_mark true = refl
number_of_mark false = refl

module _ (s : Row) (y : Bool) (v : ℕ) (w : Whole s) (few : s.count < max_states) (e : v ≡ from_bool y) where
  abbrev grown : List Bool
  grown = marks s ++ (y ∷ [])

  grown_length : length grown ≡ s.count + 1
  grown_length = omega (arith, length-append (marks s) (y ∷ []), marks_length s w)

  pub push_low : (a b : ℕ) → s.count < word_marks → a ≡ low_word s → b ≡ high_word s
      → Made (record { words = bit_or a (v * 2 ^ s.count % 2 ^ 64) ∷ b ∷ []; count = s.count + 1 }) (s.count + 1) grown
  push_low a b h ea eb =
      let c : length (marks s) ≡ s.count = marks_length s w in
      let a' : a ≡ marks_word (marks s) = ea ∙ ap marks_word (take_all 64 (marks s) (omega arith)) in
      let t : take 64 grown ≡ grown = take_all 64 grown (omega (arith, grown_length)) in
      let d : drop 64 (marks s) ≡ drop 64 grown = drop_of_length-le (marks s) {i = 64} (omega arith) ∙ sym (drop_of_length-le grown {i = 64} (omega (arith, grown_length))) in
      of_words grown (s.count + 1) (bit_or a (v * 2 ^ s.count % 2 ^ 64)) b grown_length (omega arith)
      (word_pushed (marks s) y s.count a v (sym c) h a' (e ∙ number_of_mark y) ∙ ap marks_word (sym t)) (eb ∙ ap marks_word d)

  pub push_high : (a b : ℕ) → word_marks ≤ s.count → a ≡ low_word s → b ≡ high_word s
      → Made (record { words = a ∷ bit_or b (v * 2 ^ (s.count - word_marks) % 2 ^ 64) ∷ []; count = s.count + 1 }) (s.count + 1) grown
  push_high a b h ea eb =
      let c : length (marks s) ≡ s.count = marks_length s w in
      let t : take 64 grown ≡ take 64 (marks s) = take-append-le 64 (marks s) (y ∷ []) (omega arith) in
      let d : drop 64 grown ≡ drop 64 (marks s) ++ (y ∷ []) = drop-append-le 64 (marks s) (y ∷ []) (omega arith) in
      let m : s.count - 64 ≡ length (drop 64 (marks s)) = omega (arith, length-drop 64 (marks s)) in
      of_words grown (s.count + 1) a (bit_or b (v * 2 ^ (s.count - 64) % 2 ^ 64)) grown_length (omega arith) (ea ∙ ap marks_word (sym t))
      (word_pushed (drop 64 (marks s)) y (s.count - 64) b v m (omega arith) eb (e ∙ number_of_mark y) ∙ ap marks_word (sym d))

-- ---- a column

abbrev column_of : List ℕ → ℕ → ℕ → Bool
column_of ws a k = bit_of (get_or ws k 0) a

pub column_low : (ws : List ℕ) (n a w : ℕ) → w ≡ gathered ws 0 n a → n ≤ word_marks → Made (record { words = w ∷ 0 ∷ []; count = n }) n (tabulate n (column_of ws a))
unfolding gathered
column_low ws n a w e h =
    let z : n - 0 ≡ n = omega arith in
    of_low (tabulate n (column_of ws a)) n w (tabulate_length n 0 (column_of ws a)) h (e ∙ rw z)

pub column_high : (ws : List ℕ) (n a w v : ℕ) → w ≡ gathered ws 0 word_marks a → v ≡ gathered ws word_marks n a → word_marks < n → n ≤ max_states
    → Made (record { words = w ∷ v ∷ []; count = n }) n (tabulate n (column_of ws a))
unfolding gathered
column_high ws n a w v e f h few =
    let g : ℕ → Bool = column_of ws a in
    let en : n ≡ 64 + (n - 64) = omega arith in
    let t : take 64 (tabulate n g) ≡ tabulate_from 64 0 g = ap (λ (m : ℕ). take 64 (tabulate m g)) en ∙ tabulate_take 64 (n - 64) 0 g in
    let d : drop 64 (tabulate n g) ≡ tabulate_from (n - 64) 64 g = ap (λ (m : ℕ). drop 64 (tabulate m g)) en ∙ tabulate_drop 64 (n - 64) 0 g in
    of_words (tabulate n g) n w v (tabulate_length n 0 g) few (e ∙ ap marks_word (sym t)) (f ∙ ap marks_word (sym d))

-- ---- one mark, and the number of marks

pub mark_is : (s : Row) (k : ℕ) → Whole s → k < max_states → bit_at s.words k ≡ mark_at (marks s) k
mark_is s k w h = ap (λ (r : Row). bit_at r.words k) w.exact ∙ packed_at (marks s) k h

yes_append : (l m : List Bool) → yes_marks (l ++ m) ≡ yes_marks l + yes_marks m
yes_append [] m = sym (zero-add (yes_marks m))
yes_append (b ∷ l) m = rw (yes_append l m) (omega arith)

pub total_is : (s : Row) (a b : ℕ) → a ≡ low_word s → b ≡ high_word s → ones a + ones b ≡ yes_marks (marks s)
total_is s a b e f =
    rw (e, f, ones_word (take word_marks (marks s)), ones_word (drop word_marks (marks s)), ← yes_append) (ap yes_marks (take-append-drop word_marks (marks s)))

pub ruleset packed_laws = (rules, low_is, high_is, full_low, full_high, last_low, last_high, none_made, total_is)
