-- Laws of what is printed part after part: room for each part, and a line of a word, a number and its end.
use Prim.Native.Nat.{ℕ, ◌+◌, ◌≤◌}
use mathlib.Core.Path.{◌≡◌, ap, sym, ◌∙◌}
use mathlib.Core.List.{List, ◌∷◌, ◌++◌}
use native.Mathlib.Omega.{arith}
use lib.ListN.{length, take, drop, length-append}
use lib.Seq.{length-take-le}
use borrow.Author.Rules.{rules}
use Rattle.definitions.specs.Lines.{tab, digits}
use Rattle.printing.specs.Printing.{laid_at, Printed, counted_line, OutputIs}
use Rattle.printing.proofs.PrintLaws.{printed_seq}

-- ---- two parts, one after the other
module _ (xs ys o : List ℕ) (at : ℕ) (room : at + length (xs ++ ys) ≤ length o) where
  sizes : length (xs ++ ys) ≡ length xs + length ys
  sizes = length-append xs ys

  pub first_room_lem : at + length xs ≤ length o
  first_room_lem = omega (arith, sizes)

  module _ (o' : List ℕ) (r : ℕ) (first : Printed xs o at r o') where
    pub rest_room : length o' ≡ length o → r + length ys ≤ length o'
    rest_room kept = omega (arith, sizes, first.next)

    pub both : (o'' : List ℕ) (q : ℕ) → Printed ys o' r q o'' → Printed (xs ++ ys) o at q o''
    both o'' q rest = printed_seq xs ys o o' o'' at r q first_room_lem first rest

-- ---- `put_line`
module _ (word : List ℕ) (n : ℕ) (end o : List ℕ) (at : ℕ) (room : at + length (counted_line word n end) ≤ length o) where
  line_parts : at + length (word ++ ((tab ∷ digits n) ++ end)) ≤ length o
  unfolding counted_line
  line_parts = room

  pub word_room : at + length word ≤ length o
  word_room = first_room_lem word ((tab ∷ digits n) ++ end) o at line_parts

  module _ (o' : List ℕ) (p : ℕ) (first : Printed word o at p o') (kept : length o' ≡ length o) where
    line_left : p + length ((tab ∷ digits n) ++ end) ≤ length o'
    line_left = rest_room word ((tab ∷ digits n) ++ end) o at line_parts o' p first kept

    pub number_room : p + length (tab ∷ digits n) ≤ length o'
    number_room = first_room_lem (tab ∷ digits n) end o' p line_left

    module _ (o'' : List ℕ) (q : ℕ) (number : Printed (tab ∷ digits n) o' p q o'') where
      pub end_room : length o'' ≡ length o' → q + length end ≤ length o''
      end_room held = rest_room (tab ∷ digits n) end o' p line_left o'' q number held

      -- `put_line`: the word, the field and the end are `counted_line`
      pub line_written : (o''' : List ℕ) (e : ℕ) → Printed end o'' q e o''' → Printed (counted_line word n end) o at e o'''
      unfolding counted_line
      line_written o''' e last = both word ((tab ∷ digits n) ++ end) o at line_parts o' p first o''' e (both (tab ∷ digits n) end o' p line_left o'' q number o''' e last)

pub ruleset line_laws = (rules, word_room, number_room, end_room, line_written)

-- ---- what is printed from the first byte on
pub printed_all : (text output : List ℕ) (r : ℕ) (output' : List ℕ) → Printed text output 0 r output' → OutputIs text output r output'
unfolding laid_at
printed_all text output r output' p =
    let z : 0 + length text ≡ length text = omega arith in
    let e : output' ≡ text ++ drop (length text) output = p.lies ∙ rw z in
    record {
      count = p.next ∙ z;
      lies = e;
      within = omega (arith, p.next, ap length e, length-append text (drop (length text) output));
    }

-- `&output[..r]` has as many bytes as it says
pub printed_counts : (printed output output' : List ℕ) (r : ℕ) → OutputIs printed output r output' → r ≡ length (take r output')
printed_counts printed output output' r p = sym (length-take-le r output' p.within)
