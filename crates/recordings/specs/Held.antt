-- Held atoms: own atoms of the controllers that don't run in a state; the next state may not change them.
use Rattle.std.specs.Prelude.{◌≡◌, ℕ, zero, suc, ◌+◌, ◌/◌, ◌%◌, Bool, not, List, [], ◌∷◌, get_or, eqb, leb}
use Rattle.std.specs.Int.Bits.{bit_and, bit_or, bit_xor}
use Rattle.definitions.specs.Bounded.{pick, bit_of}
use Rattle.definitions.specs.Recordings.{atoms_of}
use Rattle.recordings.specs.declared.held.Tables.{Tables}

-- a mask is held where its controller does not run
unfoldable pub held_with : ℕ → ℕ → Bool → ℕ
held_with held mask ran = pick ran held (bit_or held mask)

-- the masks of the n controllers from c on, after those held so far
unfoldable pub held_from : ℕ → ℕ → ℕ → List ℕ → ℕ → ℕ
held_from zero c held masks marks = held
held_from (suc n) c held masks marks = held_from n (c + 1) (held_with held (get_or masks c 0) (bit_of marks c)) masks marks

-- the atoms that C controllers hold in a state of these run marks
unfoldable pub held_by : ℕ → List ℕ → ℕ → ℕ
held_by C masks marks = held_from C 0 0 masks marks

-- the atoms that four controllers hold, for the n words of run marks from `marks` on
unfoldable pub held_entries : ℕ → ℕ → List ℕ → List ℕ
held_entries zero marks masks = []
held_entries (suc n) marks masks = held_by 4 masks marks ∷ held_entries n (suc marks) masks

-- the same for each word of four run marks
unfoldable pub held_table : ℕ → ℕ → ℕ → ℕ → List ℕ
held_table a b c d = held_entries 16 0 (a ∷ b ∷ c ∷ d ∷ [])

-- the table of the four controllers from c on
unfoldable pub held_group : List ℕ → ℕ → List ℕ
held_group masks c = held_table (get_or masks c 0) (get_or masks (c + 1) 0) (get_or masks (c + 2) 0) (get_or masks (c + 3) 0)

-- the atoms that eight controllers hold, of the tables of the first four and of the next four
abbrev pub held_of_eight : (low high : List ℕ) (marks : ℕ) → ℕ
held_of_eight low high marks = bit_or (get_or low (marks % 16) 0) (get_or high (marks / 16 % 16) 0)

-- the atoms that C controllers hold, where there are more than eight with the table of the last ones
unfoldable pub held_at : (C : ℕ) (t : Tables) (marks : ℕ) → ℕ
held_at C t marks = pick (leb C 8) (held_of_eight t.low t.high marks) (bit_or (held_of_eight t.low t.high marks) (get_or t.top (marks / 256 % 16) 0))

-- the tables of these masks
pub record TablesOf (masks : List ℕ) (t : Tables) : Type 0 where
  pub low : t.low ≡ held_group masks 0
  pub high : t.high ≡ held_group masks 4
  pub top : t.top ≡ held_group masks 8

-- a held atom differs in two states
unfoldable pub held_changed : ℕ → ℕ → ℕ → Bool
held_changed held prior s = not (eqb (bit_and held (bit_xor (atoms_of prior) (atoms_of s))) 0)
