-- "Verdicts that may be announced early" (document 02): A is a recording of K states, "the first K states", and B one that goes on from them.
use Rattle.std.specs.Prelude.{ℕ, ◌-◌, Bool, not, ◌&&◌, ◌||◌, eqb, leb}
use Rattle.std.specs.Int.Bits.{bit_and}
use Rattle.definitions.specs.Bounded.{every, bit}
use Rattle.definitions.specs.Recordings.{Recording, marks_of, marked, mask_of, state_at, word_at}
use Rattle.definitions.specs.Readings.{Verdicts}

-- "every .. longer recording that begins with the same masks and words and has the same run marks in the first K-1 states"; "The mark of state K may
-- change"
abbrev pub begins : (A B : Recording) → Bool
begins A B =
    leb A.count B.count
    && eqb A.controllers B.controllers
    && every 0 A.controllers (λ c. eqb (mask_of A c) (mask_of B c))
    && every 0 A.count (λ k. eqb (word_at A k) (word_at B k))
    && every 0 (A.count - 1) (λ k. eqb (marks_of (state_at A k)) (marks_of (state_at B k)))

-- what of it controller c needs; C, the other masks and marks, and foreign atoms where c doesn't run are free. Its own mask
abbrev pub same_mask : (c : ℕ) (A B : Recording) → Bool
same_mask c A B = eqb (mask_of A c) (mask_of B c)

-- its run marks "in the first K-1 states"
abbrev pub same_marks : (c : ℕ) (A B : Recording) → Bool
same_marks c A B = every 0 (A.count - 1) (λ k. eqb (bit (marked c (state_at A k))) (bit (marked c (state_at B k))))

-- the words of these states in which it runs
abbrev pub same_words : (c : ℕ) (A B : Recording) → Bool
same_words c A B = every 0 (A.count - 1) (λ k. not (marked c (state_at A k)) || eqb (word_at A k) (word_at B k))

-- its own atoms in state K
abbrev pub same_own_last : (c : ℕ) (A B : Recording) → Bool
same_own_last c A B = eqb (bit_and (word_at A (A.count - 1)) (mask_of A c)) (bit_and (word_at B (A.count - 1)) (mask_of A c))

-- B begins like A as far as controller c goes
abbrev pub begins_for : (c : ℕ) (A B : Recording) → Bool
begins_for c A B = leb A.count B.count && same_mask c A B && same_marks c A B && same_words c A B && same_own_last c A B

-- verdicts that may be announced: "a strong yes on the first K states stays a strong yes", "a weak no stays a weak no alike"
abbrev pub announced : Verdicts → Bool
announced v = v.strong || not v.weak
