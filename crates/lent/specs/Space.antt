-- Lent space: words laid over its start, and a part that is zeroed.
use Rattle.std.specs.Prelude.{List, ◌++◌, ℕ, ◌-◌, ◌≤◌, length, take, drop, replicate}

-- words laid over the start of lent space
abbrev pub laid : List ℕ → List ℕ → List ℕ
laid words entry = words ++ drop (length words) entry

-- the entries from..to are x
unfoldable pub filled : {T : Type 0} → T → List T → ℕ → ℕ → List T
filled x l from to = take from l ++ (replicate (to - from) x ++ drop to l)

-- the entries from..to are zero
abbrev pub cleared : List ℕ → ℕ → ℕ → List ℕ
cleared = filled 0

-- n words that are there can be laid over a full size
pub record Layable (words : List ℕ) (n full : ℕ) (lent : List ℕ) : Type 0 where
  pub there : n ≤ length words
  pub fits : n ≤ full
  pub room : full ≤ length lent
