-- Marks, first place first, as lists.
use Rattle.std.specs.Prelude.{ℕ, suc, ◌+◌, Bool, false, List, [], ◌∷◌, nat_lt, slice_index_or}
use Rattle.definitions.specs.Bounded.{pick, bit}

-- the mark at place k, no past the last place
abbrev pub mark_at : List Bool → ℕ → Bool
mark_at l k = slice_index_or l k false

-- how many marks are yes
abbrev pub yes_marks : List Bool → ℕ
yes_marks [] = 0
yes_marks (b ∷ l) = bit b + yes_marks l

-- "Foreign atom: its bit if i < L-1, else weak yes, strong no"
abbrev pub last_at : Bool → ℕ → (ℕ → Bool) → ℕ → Bool
last_at weak L p i = pick (nat_lt (suc i) L) (p i) weak
