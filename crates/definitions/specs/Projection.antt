-- "The local trace" (document 01), of a recording that may stop in mid step (document 02).
use Rattle.std.specs.Prelude.{ℕ, zero, suc, Bool, not, List, [], ◌∷◌, ◌++◌, map}
use Rattle.std.specs.Int.Bits.{bit_and}
use Rattle.definitions.specs.Bounded.{pick, every}
use Rattle.definitions.specs.Recordings.{Recording, word_at, runs_at, mask_of}

-- the states below n in which c runs, "r(0) < .. < r(m-1)"
abbrev pub run_states : (run : ℕ → Bool) (n : ℕ) → List ℕ
run_states run zero = []
run_states run (suc n) = run_states run n ++ pick (run n) (n ∷ []) []

-- the state of place m: "state r(m-1)+1, or state 0 if m = 0"
abbrev pub after_last : List ℕ → ℕ
after_last [] = 0
after_last (r ∷ []) = suc r
after_last (r ∷ s ∷ rs) = after_last (s ∷ rs)

-- "place i < m is state r(i), with its whole word"; place m "with own atoms only, the other bits 0"
abbrev pub places_of : (word : ℕ → ℕ) (mask : ℕ) (rs : List ℕ) → List ℕ
places_of word mask rs = map word rs ++ (bit_and (word (after_last rs)) mask ∷ [])

-- the local trace of controller c: its places, one word each
abbrev pub local_trace : Recording → ℕ → List ℕ
local_trace R c = places_of (word_at R) (mask_of R c) (run_states (runs_at R c) R.count)

-- "`end` holds in state k when c runs in no state from k on"
abbrev pub end_at : (run : ℕ → Bool) (N k : ℕ) → Bool
end_at run N k = every k N (λ j. not (run j))
