-- "Gauges" (document 02): a gauge line, the values at the end of an `at` line, and the finished word.
use Rattle.std.specs.Prelude.{ℕ, zero, suc, ◌+◌, ◌^◌, Bool, false, not, ◌&&◌, ◌||◌, List, [], ◌∷◌, get_or, eqb, ltb, ℤ, pos}
use Rattle.std.specs.Int.Bits.{bit_or}
use Rattle.std.specs.Int.Signed.{le_z}
use Rattle.definitions.specs.Limits.{atom_count, accepted, recording_limits, second_gauge}
use Rattle.definitions.specs.Bounded.{pick, bit_of}
use Rattle.definitions.specs.Lines.{bytes, tab, has, up_to, after, Parsed, formed, malformed, on_parsed, decimal, worded}
use Rattle.definitions.specs.Measures.{measure, in_limits}

-- the word that opens a gauge line
abbrev pub gauge_word : List ℕ
gauge_word = bytes "gauge"

-- ---- a gauge line
-- an atom and its threshold
pub record Gauge : Type 0 where
  pub atom : ℕ
  pub threshold : ℤ

-- the two fields of a gauge
unfoldable pub gauge_fields : List ℕ → Parsed Gauge
gauge_fields s =
    pick (has tab s)
    (on_parsed (decimal (up_to tab s)) malformed (λ a. on_parsed (measure (after tab s)) malformed (λ t. formed (record { atom = a; threshold = t }))))
    malformed

-- "`gauge`, atom, threshold"
unfoldable pub gauge_form : List ℕ → Parsed Gauge
gauge_form s = worded gauge_word gauge_fields s

-- an atom is one of these
unfoldable pub among : (a : ℕ) (atoms : List ℕ) → Bool
among a [] = false
among a (b ∷ atoms) = eqb a b || among a atoms

-- "6 a number outside its limits"; "19, a second gauge for an atom, tested after 6 on its line"
unfoldable pub gauge_refusal : (earlier : List ℕ) (g : Gauge) → ℕ
gauge_refusal earlier g =
    pick (ltb g.atom atom_count && in_limits g.threshold) (pick (among g.atom earlier) second_gauge accepted) recording_limits

-- the gauges of a recording, in the order of their lines: their atoms and their thresholds
pub record Gauges : Type 0 where
  pub atoms : List ℕ
  pub thresholds : List ℤ

-- a recording without gauges
abbrev pub no_gauges : Gauges
no_gauges = record { atoms = []; thresholds = [] }

-- ---- the values of an `at` line
-- "one value per gauge, in the same order": exactly n fields after the first field of s
unfoldable pub values_after : (n : ℕ) (s : List ℕ) → Parsed (List ℤ)
values_after zero s = pick (has tab s) malformed (formed [])
values_after (suc n) s =
    pick (has tab s)
    (on_parsed (measure (up_to tab (after tab s))) malformed (λ v. on_parsed (values_after n (after tab s)) malformed (λ vs. formed (v ∷ vs))))
    malformed

-- some value is outside its limits
unfoldable pub any_outside : (values : List ℤ) → Bool
any_outside [] = false
any_outside (v ∷ values) = not (in_limits v) || any_outside values

-- ---- the finished word
-- the word with the bit of an atom set
unfoldable pub with_atom : (w a : ℕ) → ℕ
with_atom w a = bit_or w (2 ^ a)

-- "becomes 1 exactly when the value is at least the threshold"
unfoldable pub finished_bit : (w atom : ℕ) (threshold value : ℤ) → ℕ
finished_bit w atom threshold value = pick (le_z threshold value) (with_atom w atom) w

-- the word with the bits of the gauges from gauge k on, by their values
unfoldable pub finished_from : (k : ℕ) (atoms : List ℕ) (thresholds values : List ℤ) (w : ℕ) → ℕ
finished_from k atoms thresholds [] w = w
finished_from k atoms thresholds (v ∷ values) w =
    finished_from (k + 1) atoms thresholds values (finished_bit w (get_or atoms k 0) (get_or thresholds k (pos 0)) v)

-- the finished word
unfoldable pub finished : (atoms : List ℕ) (thresholds values : List ℤ) (w : ℕ) → ℕ
finished atoms thresholds values w = finished_from 0 atoms thresholds values w

-- "a gauge's bit already set in the word"
unfoldable pub any_set : (atoms : List ℕ) (w : ℕ) → Bool
any_set [] w = false
any_set (a ∷ atoms) w = bit_of w a || any_set atoms w
