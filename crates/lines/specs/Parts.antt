-- Where a byte stands in a text, and the part of a text from a place on.
use Rattle.std.specs.Prelude.{◌≡◌, ℕ, ◌+◌, ◌≤◌, List, length, drop, Option, Some, None}
use Rattle.std.specs.Borrow.{Bor}
use Rattle.definitions.specs.Bounded.{pick}
use Rattle.definitions.specs.Lines.{before, has, up_to, after}

-- the answer r of a search for the first b
pub record Located (b : ℕ) (s : List ℕ) (r : ℕ) : Type 0 where
  pub place : r ≡ before b s
  pub within : r ≤ length s

-- r is the part of s from a byte on, to the end of s
pub record IsRest (s r : Bor (List ℕ)) (from : ℕ) : Type 0 where
  pub lies : r.ref_ptr ≡ (s.ref_ptr.0, from + s.ref_ptr.1)
  pub reads : r.now ≡ drop from s.now

-- two parts of a text, by their bytes
abbrev pub parts_in : Option (Bor (List ℕ) × Bor (List ℕ)) → Option (List ℕ × List ℕ)
parts_in (Some parts) = Some (parts.0.now, parts.1.now)
parts_in None = None

-- two parts of s with one byte between them: where each lies in s
pub record PartsLie (s front rest : Bor (List ℕ)) : Type 0 where
  pub begins : front.ref_ptr ≡ s.ref_ptr
  pub follows : IsRest s rest (length front.now + 1)

-- where the two parts of a text lie in it
abbrev pub parts_lie : Bor (List ℕ) → Option (Bor (List ℕ) × Bor (List ℕ)) → Type 0
parts_lie s (Some parts) = PartsLie s parts.0 parts.1
parts_lie s None = Unit {0}

-- the part before the first b and the part after it, where there is one
unfoldable pub split : ℕ → List ℕ → Option (List ℕ × List ℕ)
split b s = pick (has b s) (Some (up_to b s, after b s)) None
