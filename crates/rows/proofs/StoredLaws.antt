-- Laws of rows in lent space: three words hold a row, six a pair.
use mathlib.Core.Bool.{Bool}
use mathlib.Core.List.{List, [], ◌∷◌, ◌++◌, append_assoc}
use mathlib.Core.Path.{◌≡◌, refl, sym, ap, ◌∙◌}
use Prim.Native.Nat.{ℕ, zero, suc, ◌+◌, ◌-◌, ◌*◌, ◌<◌, ◌≤◌}
use native.Mathlib.Nat.{add-zero, not-suc-le-zero, le_of_suc-le-suc}
use native.Mathlib.Omega.{arith}
use lib.ListN.{length, take, drop, get_or, set, get_or-append}
use lib.Seq.{drop_at, take_at, drop-drop, get_or-take, get_or-drop, sets-eq, length-take-le}
use Rattle.definitions.specs.Limits.{max_states, pair_words}
use Rattle.definitions.specs.Readings.{row_words, Rows, no_rows, pairs_words}
use Rattle.rows.specs.declared.Row.{Row}
use Rattle.rows.specs.Marks.{marks, packed, low_word, high_word, Whole, Made}
use Rattle.rows.specs.Stored.{row_at}
use Rattle.rows.proofs.PackedLaws.{made, marks_length}

-- ---- rows

pub stored : (l : List ℕ) (at a b : ℕ) (r : Row) → Whole r → at + 3 ≤ length l → a ≡ low_word r → b ≡ high_word r
    → set (set (set l at a) (at + 1) b) (at + 2) r.count ≡ take at l ++ (row_words (marks r) ++ drop (at + 3) l)
stored l at a b r w h ea eb =
    let one : at + 1 ≡ suc at = omega arith in
    let two : at + 2 ≡ suc (suc at) = omega arith in
    let words : a ∷ b ∷ r.count ∷ [] ≡ row_words (marks r) = rw (ea, eb, marks_length r w) in
    rw (one, two) (sets-eq (a ∷ b ∷ r.count ∷ []) l at h ∙ append_assoc (take at l) (a ∷ b ∷ r.count ∷ []) (drop (at + 3) l) ∙ ap (λ (ws : List ℕ). take at l ++ (ws ++ drop (at + 3) l)) words)

-- the words of a row, wherever they lie, are read back as the row
pub loaded : (l : List ℕ) (at n : ℕ) (ms : List Bool) (r : Row) → r ≡ row_at l at → take 3 (drop at l) ≡ row_words ms → length ms ≡ n → n ≤ max_states → Made r n ms
unfolding packed row_at
loaded l at n ms r v e len few =
    let first : get_or l at 0 ≡ get_or (row_words ms) 0 0 = rw add-zero at (third 0 (omega arith)) in
    made r ms n (v ∙ rw (first, third 1 (omega arith), third 2 (omega arith))) len few
  where
    third : (j : ℕ) → j < 3 → get_or l (at + j) 0 ≡ get_or (row_words ms) j 0
    third j h = sym (get_or-take 3 (drop at l) j 0 h ∙ get_or-drop at l j 0) ∙ ap (λ (ws : List ℕ). get_or ws j 0) e

-- ---- a row that was stored, and the rows beside it

module _ (l l' : List ℕ) (at : ℕ) (r : Row) (v : Whole r) (room : at + 3 ≤ length l) (e : l' ≡ take at l ++ (row_words (marks r) ++ drop (at + 3) l)) where
  front_length : length (take at l) ≡ at
  front_length = length-take-le at l (omega arith)

  from_there : drop at l' ≡ row_words (marks r) ++ drop (at + 3) l
  from_there = ap (drop at) e ∙ drop_at (take at l) (row_words (marks r) ++ drop (at + 3) l) at front_length

  pub row_here : row_at l' at ≡ r
  row_here =
      let m : Made (row_at l' at) r.count (marks r) = loaded l' at r.count (marks r) (row_at l' at) refl (ap (take 3) from_there) (marks_length r v) v.few in
      m.whole.exact ∙ (ap packed m.marked ∙ sym v.exact)

  before_same : (x : ℕ) → x < at → get_or l' x 0 ≡ get_or l x 0
  before_same x h =
      ap (λ (w : List ℕ). get_or w x 0) e
      ∙ (get_or-append (take at l) (row_words (marks r) ++ drop (at + 3) l) 0 x (rw front_length h) ∙ get_or-take at l x 0 h)

  past_same : (x : ℕ) → at + 3 ≤ x → get_or l' x 0 ≡ get_or l x 0
  past_same x h =
      let s : (at + 3) + (x - (at + 3)) ≡ x = omega arith in
      let d : drop (at + 3) l' ≡ drop (at + 3) l = sym (drop-drop 3 at l') ∙ ap (drop 3) from_there in
      rw s at (sym (get_or-drop (at + 3) l' (x - (at + 3)) 0) ∙ (ap (λ (w : List ℕ). get_or w (x - (at + 3)) 0) d ∙ get_or-drop (at + 3) l (x - (at + 3)) 0))

  pub row_before : (x : ℕ) → x + 3 ≤ at → row_at l' x ≡ row_at l x
  unfolding row_at
  row_before x h = rw (before_same x (omega arith), before_same (x + 1) (omega arith), before_same (x + 2) (omega arith))

  pub row_past : (x : ℕ) → at + 3 ≤ x → row_at l' x ≡ row_at l x
  unfolding row_at
  row_past x h = rw (past_same x h, past_same (x + 1) (omega arith), past_same (x + 2) (omega arith))

-- ---- row pairs

pub pairs_length : (rs : List Rows) → length (pairs_words rs) ≡ length rs * pair_words
pairs_length [] = refl
pairs_length (r ∷ rs) = omega (arith, pairs_length rs)

pub pairs_more : (rs : List Rows) (r : Rows) → pairs_words (rs ++ (r ∷ [])) ≡ pairs_words rs ++ (row_words r.weak ++ row_words r.strong)
pairs_more [] r = refl
pairs_more (x ∷ rs) r = ap (λ (l : List ℕ). row_words x.weak ++ (row_words x.strong ++ l)) (pairs_more rs r)

-- the rows of node i lie from word i * 6 on
pub weak_words : (rs : List Rows) (rest : List ℕ) (i : ℕ) → i < length rs → take 3 (drop (i * pair_words) (pairs_words rs ++ rest)) ≡ row_words (get_or rs i no_rows).weak
weak_words [] rest i h = absurd (not-suc-le-zero h)
weak_words (r ∷ rs) rest zero h = refl
weak_words (r ∷ rs) rest (suc i) h =
    let e : suc i * 6 ≡ suc (suc (suc (suc (suc (suc (i * 6)))))) = omega arith in
    rw e (weak_words rs rest i (le_of_suc-le-suc h))

pub strong_words : (rs : List Rows) (rest : List ℕ) (i : ℕ) → i < length rs → take 3 (drop (i * pair_words + 3) (pairs_words rs ++ rest)) ≡ row_words (get_or rs i no_rows).strong
strong_words [] rest i h = absurd (not-suc-le-zero h)
strong_words (r ∷ rs) rest zero h = refl
strong_words (r ∷ rs) rest (suc i) h =
    let e : suc i * 6 + 3 ≡ suc (suc (suc (suc (suc (suc (i * 6 + 3)))))) = omega arith in
    rw e (strong_words rs rest i (le_of_suc-le-suc h))

-- rows laid one after another: `entry` is what the space held at first
pub row_laid : (entry l l' front : List ℕ) (at : ℕ) (ms : List Bool) → l ≡ front ++ drop at entry → length front ≡ at → l' ≡ take at l ++ (row_words ms ++ drop (at + 3) l)
    → l' ≡ (front ++ row_words ms) ++ drop (at + 3) entry
row_laid entry l l' front at ms e n v =
    let t : take at l ≡ front = ap (take at) e ∙ take_at front (drop at entry) at n in
    let d : drop (at + 3) l ≡ drop (at + 3) entry =
    sym (drop-drop 3 at l) ∙ ap (drop 3) (ap (drop at) e ∙ drop_at front (drop at entry) at n) ∙ drop-drop 3 at entry in
    v ∙ rw (t, d) (sym (append_assoc front (row_words ms) (drop (at + 3) entry)))
