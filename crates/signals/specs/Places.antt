-- Where a signal stands in a state, and the states filled signal by signal.
use Rattle.std.specs.Prelude.{ℕ, ◌+◌, ◌-◌, ◌*◌, ◌^◌, ◌<◌, ◌≤◌, Bool, List, [], ◌∷◌, ltb}
use Rattle.definitions.specs.Limits.{max_controllers, atom_count}
use Rattle.definitions.specs.Bounded.{pick, bit}

-- there is a signal j
pub record InSignals (C j : ℕ) : Type 0 where
  pub few : C ≤ max_controllers
  pub inside : j < C + atom_count

-- the bit of a state that signal j holds: the run mark of controller j, or atom j - C
unfoldable pub place_of : (C j : ℕ) → ℕ
place_of C j = pick (ltb j C) (atom_count + j) (j - C)

-- what a digit 1 of signal j adds to a state
unfoldable pub weight : (C j : ℕ) → ℕ
weight C j = 2 ^ place_of C j

-- one signal more in the states
unfoldable pub add_signal : (w : ℕ) (states : List ℕ) (l : List Bool) → List ℕ
add_signal w [] l = []
add_signal w (s ∷ ss) [] = s ∷ ss
add_signal w (s ∷ ss) (b ∷ l) = (s + bit b * w) ∷ add_signal w ss l

-- the signals from signal j on, added to the states so far
unfoldable pub lay_on : (C j : ℕ) (states : List ℕ) (signals : List (List Bool)) → List ℕ
lay_on C j acc [] = acc
lay_on C j acc (l ∷ ls) = lay_on C (j + 1) (add_signal (weight C j) acc l) ls
