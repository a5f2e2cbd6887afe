-- Words of marks: the window of a doubling step, and a gathered column.
use Rattle.std.specs.Prelude.{◌≡◌, ℕ, zero, suc, ◌-◌, Bool, true, false, ◌&&◌, ◌||◌, List, slice_index}
use Rattle.definitions.specs.Bounded.{bit_of, tabulate_from}
use Rattle.definitions.specs.Readings.{marks_word}
use Rattle.mark_words.specs.declared.Reach.{Reach}
use Rattle.mark_words.specs.Marks.{mark_at}

-- q at one of the d places from k on, and p at each place before that one
unfoldable pub found_in : (ℕ → Bool) → (ℕ → Bool) → ℕ → ℕ → Bool
found_in p q zero k = false
found_in p q (suc d) k = q k || (p k && found_in p q d (suc k))

-- p at each of the d places from k on
unfoldable pub held_in : (ℕ → Bool) → ℕ → ℕ → Bool
held_in p zero k = true
held_in p (suc d) k = p k && held_in p d (suc k)

-- the two words say of each place what is found and what is held within d places
pub record Window (ps qs : List Bool) (d : ℕ) (w : Reach) : Type 0 where
  pub finds : (k : ℕ) → bit_of w.found k ≡ found_in (mark_at ps) (mark_at qs) d k
  pub holds : (k : ℕ) → bit_of w.held k ≡ held_in (mark_at ps) d k

-- the word of bit a of the states from..to
unfoldable pub gathered : List ℕ → ℕ → ℕ → ℕ → ℕ
gathered ws from to a = marks_word (tabulate_from (to - from) from (λ k. bit_of (slice_index ws k) a))
