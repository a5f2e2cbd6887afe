-- Laws of the number of a line: one for each return and each turn of the loop.
use mathlib.Core.Path.{◌≡◌, refl, ap, sym, ◌∙◌}
use mathlib.Core.Bool.{true, false}
use Prim.Native.Nat.{ℕ, zero, suc, ◌+◌, ◌-◌, ◌^◌, ◌<◌, ◌≤◌}
use mathlib.Core.List.{List}
use native.Mathlib.Omega.{arith}
use lib.ListN.{length, take, drop, length-take, length-drop}
use lib.Seq.{length-take-le}
use mir.Syntax.{w32, w64}
use mir.Val.{Fits}
use borrow.Author.Rules.{rules}
use borrow.Author.Tests.{eqb-false}
use Rattle.definitions.specs.Limits.{max_input_bytes}
use Rattle.definitions.specs.Bounded.{pick}
use Rattle.definitions.specs.Lines.{is_empty, rest_of}
use Rattle.theorems.proofs.Choice.{by_test}
use Rattle.theorems.proofs.InputSplit.{rest_length}
use Rattle.lines.proofs.PartLaws.{part_to_end, empty_yes, empty_no}
use Rattle.lines.specs.Reading.{FirstLine}
use Rattle.lines.specs.declared.Line.{Line}
use Rattle.lines.proofs.LoopLaws.{after_line, line_inside}
use Rattle.refused_line.specs.Numbering.{line_count, LinesCounted, line_number, LineStart}

-- ---- the lines of a text
count_none : (n : ℕ) (t : List ℕ) → is_empty t ≡ true → line_count n t ≡ 0
unfolding line_count pick
count_none zero t e = refl
count_none (suc n) t e = rw e

count_one : (n : ℕ) (t : List ℕ) → is_empty t ≡ false → line_count (suc n) t ≡ line_count n (rest_of t) + 1
unfolding line_count pick
count_one n t e = rw e

-- no more lines than bytes
count_enough : (n m : ℕ) (t : List ℕ) → length t ≤ n → length t ≤ m → line_count n t ≡ line_count m t
count_enough zero m t h k = let e = empty_yes t (omega arith) in count_none zero t e ∙ sym (count_none m t e)
count_enough (suc n) zero t h k = let e = empty_yes t (omega arith) in count_none (suc n) t e ∙ sym (count_none zero t e)
count_enough (suc n) (suc m) t h k =
    by_test (is_empty t)
    (λ e. count_none (suc n) t e ∙ sym (count_none (suc m) t e))
    (λ e. let z = eqb-false (length t) 0 e in
    count_one n t e ∙ (ap (λ (c : ℕ). c + 1) (count_enough n m (rest_of t) (omega (arith, rest_length t)) (omega (arith, rest_length t))) ∙ sym (count_one m t e)))

-- ---- `line_count`
-- so many lines end before `at`, where a line begins
pub record Counted (text : List ℕ) (at count : ℕ) : Type 0 where
  pub within : at ≤ length text
  pub few : count ≤ at
  pub left : line_count (length text) text ≡ count + line_count (length text) (drop at text)

-- `line_count`, before the first turn: all of `line_count` is left
pub counted_none : (text : List ℕ) → Counted text 0 0
counted_none text = record { within = omega arith; few = omega arith; left = omega arith }

module _ (text : List ℕ) (at count : ℕ) (inv : Counted text at count) where
  -- `line_count`, no byte is left: the count is `line_count`
  pub counted_end : length text ≤ at → LinesCounted text count
  counted_end h =
      let z = count_none (length text) (drop at text) (empty_yes (drop at text) (omega (arith, length-drop at text))) in
      record { count = omega (arith, inv.left, z); within = omega (arith, inv.few, inv.within) }

  module _ (h : at < length text) (l : Line) (is : FirstLine (take (length text - at) (drop at text)) l) where
    first : FirstLine (drop at text) l
    first = rw (part_to_end text at) at is

    next_inside : at + l.next ≤ length text
    next_inside = line_inside text at l first inv.within

    some : 0 < l.next
    some = omega (arith, ap length first.rest, length-drop l.next (drop at text), rest_length (drop at text), length-drop at text)

    fuel : suc (length text - 1) ≡ length text
    fuel = omega arith

    one : line_count (length text) (drop at text) ≡ line_count (length text) (drop (at + l.next) text) + 1
    one =
        let e = empty_no (drop at text) (λ q. omega (arith, length-drop at text)) in
        let c = count_one (length text - 1) (drop at text) e in
        let s : length (rest_of (drop at text)) ≤ length text - 1 = omega (arith, rest_length (drop at text), length-drop at text) in
        let w = count_enough (length text - 1) (length text) (rest_of (drop at text)) s (omega arith) in
        rw (← after_line text at l first) (rw (fuel, w) at c)

    pub counted_fits : length text < 2 ^ 64 → Fits w64 (at + l.next)
    counted_fits g = record { fits = omega (arith, next_inside) }

    pub counted_less : length text - (at + l.next) < length text - at
    counted_less = omega (arith, some, next_inside)

    pub counted_one_fits : length text < 2 ^ 64 → Fits w64 (count + 1)
    counted_one_fits g = record { fits = omega (arith, inv.few) }

    -- `line_count`, a turn: one line more of `line_count` is counted
    pub counted_next : Counted text (at + l.next) (count + 1)
    counted_next = record { within = next_inside; few = omega (arith, inv.few, some); left = omega (arith, inv.left, one) }

pub ruleset count_laws = (rules, counted_none, counted_end, counted_fits, counted_less, counted_one_fits, counted_next)

-- ---- `line_number`
module _ (from : ℕ) (text : List ℕ) (start : LineStart from text) where
  pub start_counts : from ≡ length (take from text)
  start_counts = sym (length-take-le from text start.inside)

  module _ (n : ℕ) (is : LinesCounted (take from text) n) where
    small : n ≤ max_input_bytes
    small = omega (arith, is.within, length-take from text, start.inside, start.small)

    pub count_fits_lem : Fits w32 n
    count_fits_lem = record { fits = omega (arith, small) }

    pub number_fits : Fits w32 (n + 1)
    number_fits = record { fits = omega (arith, small) }

    -- `line_number`: the lines before it and one are `line_number`
    pub number_is : n + 1 ≡ line_number from text
    unfolding line_number
    number_is = rw (is.count, ← start_counts)

pub ruleset number_laws = (rules, start_counts, count_fits_lem, number_fits, number_is)
