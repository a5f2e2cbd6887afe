-- The parts that a caller takes of a text, where i bytes stand before its first byte b: they are the definitions' parts.
use mathlib.Core.Path.{◌≡◌, sym, ◌∙◌}
use Prim.Native.Nat.{ℕ, ◌+◌, ◌-◌, ◌<◌, ◌≤◌}
use mathlib.Core.List.{List}
use mathlib.Core.Bool.{true, false}
use lib.ListN.{length, take, drop, length-drop}
use lib.Seq.{take_all, length-take-le}
use native.Mathlib.Omega.{arith}
use borrow.Author.Rules.{rules}
use borrow.Author.Tests.{eq-eqb, ne_eqb, lt-ltb, le-ltb}
use Rattle.definitions.specs.Lines.{before, is_empty, has, up_to, after}
use Rattle.std.specs.Prelude.{Some, None}
use Rattle.std.proofs.lemmas.Option.{none-some, some_pair_parts}
use Rattle.definitions.specs.Bounded.{pick}
use Rattle.theorems.proofs.Choice.{by_test}
use Rattle.lines.specs.Parts.{split}
use Rattle.lines.proofs.ScanLaws.{before_le}

-- `&s[k..]` reads this
-- `after`: the part from byte k to the end is `drop` (`IsRest`)
pub part_to_end : (s : List ℕ) (k : ℕ) → take (length s - k) (drop k s) ≡ drop k s
part_to_end s k = take_all (length s - k) (drop k s) (rw length-drop (omega arith))

pub empty_yes : (s : List ℕ) → length s ≡ 0 → is_empty s ≡ true
empty_yes s h = eq-eqb (length s) 0 h

pub empty_no : (s : List ℕ) → (length s ≡ 0 → ⊥) → is_empty s ≡ false
empty_no s h = ne_eqb (length s) 0 h

-- the answer i of a search for the first b
module _ (b : ℕ) (s : List ℕ) (i : ℕ) (is : i ≡ before b s) where
  pub place_within : i ≤ length s
  place_within = omega (arith, before_le b s)

  -- `&s[..i]` has as many bytes as it says
  pub part_counts : i ≡ length (take i s)
  part_counts = sym (length-take-le i s place_within)

  pub has_yes : i < length s → has b s ≡ true
  has_yes h = lt-ltb (before b s) (length s) (omega arith)

  pub has_no : length s ≤ i → has b s ≡ false
  has_no h = le-ltb (before b s) (length s) (omega arith)

  pub up_to_part : take i s ≡ up_to b s
  up_to_part = rw is

  -- what `after` answers
  pub after_part : (t : List ℕ) → t ≡ drop (i + 1) s → t ≡ after b s
  after_part t e = e ∙ rw is

-- the parts x and y that `split` answers
pub record Split (b : ℕ) (s x y : List ℕ) : Type 0 where
  pub there : has b s ≡ true
  pub front : x ≡ up_to b s
  pub back : y ≡ after b s

module _ (b : ℕ) (s : List ℕ) where
  -- `split` answers no parts: no b is there
  pub split_no : None ≡ split b s → has b s ≡ false
  unfolding split pick
  split_no e = by_test (has b s) (λ h. absurd (none-some _ (rw h at e))) (λ h. h)

  -- `split` answers the parts x and y
  pub split_yes : (x y : List ℕ) → Some (x, y) ≡ split b s → Split b s x y
  unfolding split pick
  split_yes x y e = by_test (has b s) there (λ h. absurd (none-some _ (sym (rw h at e))))
    where
      there : has b s ≡ true → Split b s x y
      there h =
          let p = some_pair_parts x (up_to b s) y (after b s) (rw h at e) in
          record { there = h; front = p.0; back = p.1 }

pub ruleset part_laws = (rules, part_to_end, empty_yes, empty_no, place_within, part_counts, has_yes, has_no, up_to_part, after_part)
