-- What a signal that is read byte by byte leaves in the states.
use Rattle.std.specs.Prelude.{◌≡◌, ℕ, ◌+◌, ◌-◌, ◌*◌, ◌^◌, ◌<◌, ◌≤◌, Bool, true, false, List, [], ◌∷◌, length, get_or, ltb, Option, Some, None}
use Rattle.definitions.specs.Limits.{accepted, recording_form}
use Rattle.definitions.specs.Bounded.{pick, within}

-- the value of a digit 0 or 1; 2 of any other byte
unfoldable pub binary_digit : ℕ → ℕ
binary_digit b = pick (within 48 49 b) (b - 48) 2

-- the value of a digit 0 or 1
unfoldable pub digit_read : ℕ → Option ℕ
digit_read b = pick (within 48 49 b) (Some (b - 48)) None

-- each byte is a digit 0 or 1
unfoldable pub is_signal : List ℕ → Bool
is_signal [] = true
is_signal (b ∷ s) = pick (ltb (binary_digit b) 2) (is_signal s) false

-- the states with the signal added, up to the first byte that is no digit 0 or 1
unfoldable pub laid_on : (w : ℕ) (states s : List ℕ) → List ℕ
laid_on w [] s = []
laid_on w (x ∷ ss) [] = x ∷ ss
laid_on w (x ∷ ss) (b ∷ s) = pick (ltb (binary_digit b) 2) ((x + binary_digit b * w) ∷ laid_on w ss s) (x ∷ ss)

-- there is a state for each byte, and no sum is too large
pub record Room (s : List ℕ) (w : ℕ) (states : List ℕ) : Type 0 where
  pub enough : length s ≤ length states
  pub fits : (k : ℕ) → k < length s → get_or states k 0 + w < 2 ^ 64

-- the bytes were added to the states, and the number n says whether each is a digit 0 or 1
pub record Laid (s : List ℕ) (w : ℕ) (states : List ℕ) (n : ℕ) (states' : List ℕ) : Type 0 where
  pub answers : n ≡ pick (is_signal s) accepted recording_form
  pub holds : states' ≡ laid_on w states s
