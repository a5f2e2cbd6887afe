-- A row in lent space: three words.
use Rattle.std.specs.Prelude.{List, [], ◌∷◌, ℕ, ◌+◌, get_or}
use Rattle.rows.specs.declared.Row.{Row}

-- the words of a row
abbrev pub words_of_row : ℕ
words_of_row = 3

-- the row that the three words from `at` on are
unfoldable pub row_at : List ℕ → ℕ → Row
row_at l at = record { words = get_or l at 0 ∷ get_or l (at + 1) 0 ∷ []; count = get_or l (at + 2) 0 }
