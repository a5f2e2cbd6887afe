-- Masks against the union of the earlier masks, as the check reads them.
use Rattle.std.specs.Prelude.{ℕ, not, List, [], ◌∷◌, eqb}
use Rattle.std.specs.Int.Bits.{bit_and, bit_or}
use Rattle.definitions.specs.Limits.{masks_meet, accepted}
use Rattle.definitions.specs.Bounded.{pick, or_else}

-- the atoms of the masks, the latest mask first
unfoldable pub union_of : List ℕ → ℕ
union_of [] = 0
union_of (m ∷ ms) = bit_or (union_of ms) m

-- a mask against the atoms of the earlier masks
unfoldable pub union_refusal : ℕ → ℕ → ℕ
union_refusal seen m = pick (not (eqb (bit_and seen m) 0)) masks_meet accepted

-- masks in order, against the atoms seen so far
unfoldable pub unions_refusal : ℕ → List ℕ → ℕ
unions_refusal seen [] = accepted
unions_refusal seen (m ∷ ms) = or_else (union_refusal seen m) (unions_refusal (bit_or seen m) ms)
