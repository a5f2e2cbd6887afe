-- "Some" and "every" over bounded places, as documents 01 and 02 say them, choice by a test, and bits of words.
use Rattle.std.specs.Prelude.{ℕ, zero, suc, ◌-◌, ◌/◌, ◌%◌, ◌^◌, Bool, true, false, ◌&&◌, ◌||◌, List, [], ◌∷◌, eqb, leb}

-- one of two by a test
unfoldable pub pick : {A : Type 0} → Bool → A → A → A
pick true a b = a
pick false a b = b

-- f at some of the n places from k on
abbrev pub some_of : (n k : ℕ) (f : ℕ → Bool) → Bool
some_of zero k f = false
some_of (suc n) k f = f k || some_of n (suc k) f

-- f at each of the n places from k on
abbrev pub every_of : (n k : ℕ) (f : ℕ → Bool) → Bool
every_of zero k f = true
every_of (suc n) k f = f k && every_of n (suc k) f

-- f at some place from `from` on, below `to`
abbrev pub some : (from to : ℕ) (f : ℕ → Bool) → Bool
some from to f = some_of (to - from) from f

-- f at every place from `from` on, below `to`
abbrev pub every : (from to : ℕ) (f : ℕ → Bool) → Bool
every from to f = every_of (to - from) from f

-- the values of f at the n places from k on
abbrev pub tabulate_from : (n k : ℕ) (f : ℕ → Bool) → List Bool
tabulate_from zero k f = []
tabulate_from (suc n) k f = f k ∷ tabulate_from n (suc k) f

-- the values of f at the places below n
abbrev pub tabulate : ℕ → (ℕ → Bool) → List Bool
tabulate n f = tabulate_from n 0 f

-- "bit a is atom a"
unfoldable pub bit_of : (w a : ℕ) → Bool
bit_of w a = eqb (w / 2 ^ a % 2) 1

-- yes is 1, no is 0
abbrev pub bit : Bool → ℕ
bit true = 1
bit false = 0

-- n is from `low` to `high`
abbrev pub within : (low high n : ℕ) → Bool
within low high n = leb low n && leb n high

-- the first refusal, or the other
unfoldable pub or_else : (number other : ℕ) → ℕ
or_else number other = pick (eqb number 0) other number
