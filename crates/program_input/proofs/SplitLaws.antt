-- Laws of the split of the input at its first line `-`: one for each return and each turn of the loop.
use mathlib.Core.Path.{◌≡◌, ap, sym, ◌∙◌}
use mathlib.Core.Bool.{Bool, true, false}
use mathlib.Core.List.{List}
use Prim.Native.Nat.{ℕ, suc, ◌+◌, ◌-◌, ◌^◌, ◌<◌, ◌≤◌}
use native.Mathlib.Omega.{arith}
use lib.ListN.{length, take, drop, length-take, length-drop}
use mir.Syntax.{w64}
use mir.Val.{Fits}
use borrow.Author.Rules.{rules}
use borrow.Author.Tests.{ltb-true}
use Rattle.definitions.specs.Limits.{max_input_bytes}
use Rattle.definitions.specs.Lines.{newline, before, line_length, line_of, is_closed, rest_at, rest_of, same}
use Rattle.definitions.specs.Program.{split_line, rule_length}
use Rattle.theorems.proofs.InputSplit.{split_open, split_here, split_later, split_enough, split_inside, empty_open, rest_length}
use Rattle.lines.proofs.PartLaws.{part_to_end}
use Rattle.lines.specs.Reading.{FirstLine}
use Rattle.lines.specs.declared.Line.{Line}
use Rattle.program_input.specs.declared.Parts.{Parts}
use Rattle.lines.proofs.NextLaws.{line_part, line_part_laws, short_closed, whole_open}
use Rattle.lines.proofs.LoopLaws.{after_line, line_inside}
use Rattle.program_input.specs.Splitting.{SplitIs, Texts}

-- ---- `is_split`
-- `is_split`: the line is compared with `split_line`
pub is_dash : (t : List ℕ) (len : ℕ) (r : Bool) → len ≡ line_length t → r ≡ same (take len t) split_line → r ≡ same (line_of t) split_line
is_dash t len r is e = rw (line_part t len is) at e

pub ruleset dash_laws = (line_part_laws, is_dash)

-- ---- `rule_length`
-- no line `-` begins before `at`, where a line begins
pub record Searched (s : List ℕ) (at : ℕ) : Type 0 where
  pub within : at ≤ length s
  pub left : rule_length (length s) s ≡ at + rule_length (length s) (drop at s)

-- `rule_length`, before the first turn: all of `rule_length` is left
pub searched_none : (s : List ℕ) → Searched s 0
searched_none s = record { within = omega arith; left = omega arith }

module _ (s : List ℕ) (at : ℕ) (inv : Searched s at) where
  -- `rule_length`, no byte is left: `rule_length` is the whole input
  pub searched_end : length s ≤ at → at ≡ rule_length (length s) s
  searched_end h =
      let z : length (drop at s) ≡ 0 = omega (arith, length-drop at s) in
      omega (arith, inv.left, split_open (length s) (drop at s) (empty_open (drop at s) (omega arith)))

  module _ (h : at < length s) (l : Line) (is : FirstLine (take (length s - at) (drop at s)) l) where
    first : FirstLine (drop at s) l
    first = rw (part_to_end s at) at is

    whole : length (take (length s - at) (drop at s)) ≡ length (drop at s)
    whole = ap length (part_to_end s at)

    -- `rule_length`, a line that is not closed: `rule_length` is the whole input
    pub searched_open : l.len ≡ length (take (length s - at) (drop at s)) → length s ≡ rule_length (length s) s
    searched_open e =
        let c = whole_open (drop at s) (omega (arith, first.length_is, whole)) in
        omega (arith, inv.left, split_open (length s) (drop at s) c, length-drop at s)

    module _ (z : l.len ≡ length (take (length s - at) (drop at s)) → ⊥) where
      closed : is_closed (drop at s) ≡ true
      closed = short_closed (drop at s) (omega (arith, first.length_is, first.within, whole))

      next_is : l.next ≡ rest_at (drop at s)
      next_is =
          let c = ltb-true (before newline (drop at s)) (length (drop at s)) closed in
          omega (arith, ap length first.rest, length-drop l.next (drop at s), rest_length (drop at s), first.inside)

      next_inside : at + l.next ≤ length s
      next_inside = line_inside s at l first inv.within

      pub searched_fits : length s < 2 ^ 64 → Fits w64 (at + l.next)
      searched_fits g = record { fits = omega (arith, next_inside) }

      pub searched_less : length s - (at + l.next) < length s - at
      searched_less = omega (arith, next_is, next_inside)

      fuel : suc (length s - 1) ≡ length s
      fuel = omega arith

      module _ (r : Bool) (same_is : r ≡ same (line_of (take (length s - at) (drop at s))) split_line) where
        line_is : r ≡ same (line_of (drop at s)) split_line
        line_is = rw (part_to_end s at) at same_is

        -- `rule_length`, the line `-`: `rule_length` ends where it begins
        pub searched_found : r ≡ true → at ≡ rule_length (length s) s
        searched_found t =
            let f = split_here (length s - 1) (drop at s) closed (sym line_is ∙ t) in
            omega (arith, inv.left, rw fuel at f)

        -- `rule_length`, a turn: `rule_length` goes on at the next line
        pub searched_next : r ≡ false → Searched s (at + l.next)
        searched_next t =
            let f = split_later (length s - 1) (drop at s) closed (sym line_is ∙ t) in
            let short : length (rest_of (drop at s)) ≤ length s - 1 = omega (arith, rest_length (drop at s), length-drop at s) in
            let w : rule_length (length s - 1) (rest_of (drop at s)) ≡ rule_length (length s) (drop (at + l.next) s) =
            split_enough (length s - 1) (length s) (rest_of (drop at s)) short (omega arith) ∙ ap (rule_length (length s)) (after_line s at l first) in
            record { within = next_inside; left = omega (arith, inv.left, rw fuel at f, w, next_is) }

pub ruleset search_laws = (rules, searched_none, searched_end, searched_open, searched_fits, searched_less, searched_found, searched_next)

-- ---- `split`
module _ (s : List ℕ) (r : ℕ) (is : r ≡ rule_length (length s) s) where
  pub split_start : r ≤ length s
  split_start = rw is (split_inside (length s) s)

  module _ (l : Line) (first : FirstLine (take (length s - r) (drop r s)) l) where
    line : FirstLine (drop r s) l
    line = rw (part_to_end s r) at first

    pub recording_start : r + l.next ≤ length s
    recording_start = line_inside s r l line split_start

    -- `split`: the bytes before the line and behind it are `rule_text_in` and `recording_text_in`
    pub split_some : (p : Parts) → p.rule.now ≡ take r s → p.recording.now ≡ take (length s - (r + l.next)) (drop (r + l.next) s) → SplitIs s p
    split_some p rule recording =
        let at : p.recording.now ≡ drop (r + l.next) s = recording ∙ part_to_end s (r + l.next) in
        record {
          rule = rule ∙ rw is;
          recording = at ∙ (sym (after_line s r l line) ∙ ap (λ (k : ℕ). rest_of (drop k s)) is);
          rule_inside = rw (rule, length-take) (omega arith);
          recording_inside = rw (at, length-drop) (omega arith);
        }

pub ruleset split_laws = (rules, split_start, recording_start, split_some)

-- ---- what a caller has
pub texts_fit : (input : List ℕ) (p : Parts) → SplitIs input p → length input ≤ max_input_bytes → Texts p.rule.now p.recording.now
texts_fit input p is short = record { rule_fits = omega (arith, is.rule_inside); recording_fits = omega (arith, is.recording_inside) }
