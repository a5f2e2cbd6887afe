-- A state's run mark as a bit of its word, and the mask of a controller.
use Rattle.std.proofs.Common.{ℕ, ◌+◌, ◌<◌, ◌/◌, ◌%◌, ◌^◌, ◌≡◌, sym, eqb, get_or, get_or-take}
use Rattle.definitions.specs.Limits.{atom_count}
use Rattle.definitions.specs.Bounded.{bit_of}
use Rattle.definitions.specs.Recordings.{Recording, marked, mask_of}
use Rattle.mark_words.proofs.WordLaws.{bit_shr}

pub own_mask_lem : (R : Recording) (c : ℕ) → c < R.controllers → get_or R.masks c 0 ≡ mask_of R c
own_mask_lem R c h = sym (get_or-take R.controllers R.masks c 0 h)

-- the run mark as a bit of the state's word
-- `marked`: the lowest bit after the shift is `marked` of the definitions
pub marked_shifted : (c s : ℕ) → eqb (s / 2 ^ (atom_count + c) % 2) 1 ≡ marked c s
unfolding bit_of
marked_shifted c s = sym (bit_shr c atom_count s)
