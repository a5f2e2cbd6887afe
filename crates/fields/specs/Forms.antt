-- What the code answers of two fields, and of a line that opens with a word.
use Rattle.std.specs.Prelude.{ℕ, ◌≤◌, ◌&&◌, List, Option, Some, None}
use Rattle.std.specs.Borrow.{Bor}
use Rattle.definitions.specs.Bounded.{pick}
use Rattle.definitions.specs.Lines.{tab, has, up_to, after, same, Parsed, Heading}
use Rattle.fields.specs.Fields.{widest, cap, taken}

-- two fields that are read exactly
abbrev pub exact_pair : Parsed Heading → Option (ℕ × ℕ)
exact_pair = taken (λ h. (h.first, h.second))

-- two fields that are read up to the largest number
abbrev pub capped_pair : Parsed Heading → Option (ℕ × ℕ)
capped_pair = taken (λ h. (cap h.first, cap h.second))

-- two widths of hexadecimal fields
pub record Widths (first second : ℕ) : Type 0 where
  pub one : first ≤ widest
  pub two : second ≤ widest

-- a part of a text, by its bytes
abbrev pub part_in : Option (Bor (List ℕ)) → Option (List ℕ)
part_in (Some part) = Some part.now
part_in None = None

-- what follows a word and a tab, where a line opens with them
unfoldable pub after_word : (word s : List ℕ) → Option (List ℕ)
after_word word s = pick (same (up_to tab s) word && has tab s) (Some (after tab s)) None
