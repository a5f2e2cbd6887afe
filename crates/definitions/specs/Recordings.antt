-- "The recording" (document 01), which may "stop in mid step" and have eleven controllers (document 02): states and masks in lent space, the output rule,
-- and the check.
use Rattle.std.specs.Prelude.{ℕ, suc, ◌+◌, ◌*◌, ◌/◌, ◌%◌, ◌^◌, Bool, false, not, ◌&&◌, ◌||◌, List, [], ◌∷◌, length, take, get_or, eqb, ltb, leb}
use Rattle.std.specs.Int.Bits.{bit_and}
use Rattle.definitions.specs.Limits.{max_controllers, max_states, atom_count, recording_limits, masks_meet, recording_lines, output_rule, no_controller, accepted}
use Rattle.definitions.specs.Bounded.{pick, some, bit_of, within, or_else}

-- a recording as tables: C, N, "a mask of own atoms" for each controller, and the states, one word each
pub record Recording : Type 0 where
  pub controllers : ℕ
  pub count : ℕ
  pub masks : List ℕ
  pub states : List ℕ

-- the recording of these
abbrev pub recording_of : (controllers count : ℕ) (masks states : List ℕ) → Recording
recording_of controllers count masks states = record { controllers = controllers; count = count; masks = masks; states = states }

-- document 02: "the first K states", a "beginning of an accepted recording, of one state or more and with N lowered"
abbrev pub first_states : (K : ℕ) (R : Recording) → Recording
first_states K R = recording_of R.controllers K R.masks R.states

-- a state in lent space is one word: the word of 32 atoms in its low half, the run marks above, bit c for controller c
abbrev pub state_of : (marks word : ℕ) → ℕ
state_of marks word = marks * 2 ^ atom_count + word

-- the word of atoms of a state
abbrev pub atoms_of : ℕ → ℕ
atoms_of s = s % 2 ^ atom_count

-- the run marks of a state
abbrev pub marks_of : ℕ → ℕ
marks_of s = s / 2 ^ atom_count

-- state s has a run mark of controller c
abbrev pub marked : (c s : ℕ) → Bool
marked c s = bit_of (marks_of s) c

-- "entries past the count aren't read"
abbrev pub masks_of : Recording → List ℕ
masks_of R = take R.controllers R.masks

-- "entries past the count aren't read"
abbrev pub states_of : Recording → List ℕ
states_of R = take R.count R.states

-- the mask of controller c
abbrev pub mask_of : Recording → ℕ → ℕ
mask_of R c = get_or (masks_of R) c 0

-- state k
abbrev pub state_at : Recording → ℕ → ℕ
state_at R k = get_or (states_of R) k 0

-- the word of state k
abbrev pub word_at : Recording → ℕ → ℕ
word_at R k = atoms_of (state_at R k)

-- c runs in state k: "a mark in the last state is read as no run: by projection, by `end`, by run in a rewritten rule; the state as read still
-- holds it" (document 02)
abbrev pub runs_at : (R : Recording) (c k : ℕ) → Bool
runs_at R c k = ltb (suc k) R.count && marked c (state_at R k)

-- "masks are disjoint": a mask meets one of the earlier masks
abbrev pub meets : (earlier : List ℕ) (m : ℕ) → Bool
meets [] m = false
meets (e ∷ es) m = not (eqb (bit_and e m) 0) || meets es m

-- "Output rule: if c doesn't run in state k and k+1 exists, its own atoms are equal in k and k+1", broken by some c
abbrev pub output_broken : (C : ℕ) (masks : List ℕ) (prior s : ℕ) → Bool
output_broken C masks prior s =
    some 0 C (λ c. not (marked c prior) && not (eqb (bit_and (atoms_of prior) (get_or masks c 0)) (bit_and (atoms_of s) (get_or masks c 0))))

-- state k against the prior state: "a run mark at C or above", "output rule broken by the state before"
unfoldable pub state_refusal : (C : ℕ) (masks : List ℕ) (k prior s : ℕ) → ℕ
state_refusal C masks k prior s =
    pick (leb (2 ^ C) (marks_of s)) recording_limits (pick (ltb 0 k && output_broken C masks prior s) output_rule accepted)

-- "6 a number outside its limits": C and N
unfoldable pub recording_heading_refusal : (C N : ℕ) → ℕ
recording_heading_refusal C N = pick (within 1 max_controllers C && within 1 max_states N) accepted recording_limits

-- "7 mask meets an earlier mask"
unfoldable pub mask_refusal : (earlier : List ℕ) (m : ℕ) → ℕ
mask_refusal earlier m = pick (meets earlier m) masks_meet accepted

-- the masks in order
unfoldable pub masks_refusal : (earlier ms : List ℕ) → ℕ
masks_refusal earlier [] = accepted
masks_refusal earlier (m ∷ ms) = or_else (mask_refusal earlier m) (masks_refusal (m ∷ earlier) ms)

-- the states from state k on
unfoldable pub states_refusal : (C : ℕ) (masks : List ℕ) (k prior : ℕ) (ss : List ℕ) → ℕ
states_refusal C masks k prior [] = accepted
states_refusal C masks k prior (s ∷ ss) = or_else (state_refusal C masks k prior s) (states_refusal C masks (k + 1) s ss)

-- "masks or states, with fewer entries than its count has a line missing"
unfoldable pub recording_lines_refusal : Recording → ℕ
recording_lines_refusal R = pick (ltb (length R.masks) R.controllers || ltb (length R.states) R.count) recording_lines accepted

-- "Operations on tables check them by the same rows"
unfoldable pub recording_refusal : Recording → ℕ
recording_refusal R =
    or_else (recording_heading_refusal R.controllers R.count)
    (or_else (masks_refusal [] (masks_of R))
    (or_else (states_refusal R.controllers (masks_of R) 0 0 (states_of R)) (recording_lines_refusal R)))

-- "a controller not below C is 11"
unfoldable pub controller_refusal : (C c : ℕ) → ℕ
controller_refusal C c = pick (ltb c C) accepted no_controller
