-- A row's marks: the list of them, first place first, and the row that holds a list.
use Rattle.std.specs.Prelude.{Bool, List, [], ◌∷◌, ◌≡◌, ℕ, ◌/◌, ◌%◌, ◌≤◌, length, take, drop, get_or}
use Rattle.definitions.specs.Limits.{max_states, word_marks}
use Rattle.definitions.specs.Bounded.{bit_of, tabulate}
use Rattle.definitions.specs.Readings.{marks_word}
use Rattle.rows.specs.declared.Row.{Row}

-- the mark at place k of a row's words
abbrev pub bit_at : List ℕ → ℕ → Bool
bit_at ws k = bit_of (get_or ws (k / word_marks) 0) (k % word_marks)

unfoldable pub marks : Row → List Bool
marks r = tabulate r.count (bit_at r.words)

-- the word of a row's places below 64
abbrev pub low_word : Row → ℕ
low_word r = marks_word (take word_marks (marks r))

-- and from 64 on
abbrev pub high_word : Row → ℕ
high_word r = marks_word (drop word_marks (marks r))

-- the row that holds the marks l
unfoldable pub packed : List Bool → Row
packed l = record { words = marks_word (take word_marks l) ∷ marks_word (drop word_marks l) ∷ []; count = length l }

-- a row within the limit that holds no mark past its count
pub record Whole (r : Row) : Type 0 where
  pub few : r.count ≤ max_states
  pub exact : r ≡ packed (marks r)

-- r is the row of n places whose marks are l
pub record Made (r : Row) (n : ℕ) (l : List Bool) : Type 0 where
  pub whole : Whole r
  pub count : r.count ≡ n
  pub marked : marks r ≡ l
