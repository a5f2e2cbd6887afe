-- The number of a line in its text, counted from 1.
use Rattle.std.specs.Prelude.{◌≡◌, ℕ, zero, suc, ◌+◌, ◌≤◌, List, length, take}
use Rattle.definitions.specs.Limits.{max_input_bytes}
use Rattle.definitions.specs.Bounded.{pick}
use Rattle.definitions.specs.Lines.{is_empty, rest_of}

-- how many lines a text has, the last one closed or not, counted up to `most`
unfoldable pub line_count : (most : ℕ) → List ℕ → ℕ
line_count zero t = 0
line_count (suc most) t = pick (is_empty t) 0 (line_count most (rest_of t) + 1)

-- the number of the line that begins at byte `from`: 1, and one more for each line before it
unfoldable pub line_number : ℕ → List ℕ → ℕ
line_number from text = line_count from (take from text) + 1

-- so many lines were counted
pub record LinesCounted (text : List ℕ) (r : ℕ) : Type 0 where
  pub count : r ≡ line_count (length text) text
  pub within : r ≤ length text

-- a line of a text no longer than an input begins at byte `from`
pub record LineStart (from : ℕ) (text : List ℕ) : Type 0 where
  pub inside : from ≤ length text
  pub small : length text ≤ max_input_bytes
