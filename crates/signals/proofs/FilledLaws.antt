-- The states that are filled signal by signal, from zeros, are the states of the signals.
use mathlib.Core.Path.{◌≡◌, refl, ap, sym, ◌∙◌}
use Prim.Native.Nat.{ℕ, suc, ◌+◌, ◌-◌, ◌*◌, ◌^◌, ◌<◌, ◌≤◌}
use native.Mathlib.Nat.{pow-suc}
use native.Mathlib.Omega.{arith}
use mathlib.Core.List.{List, [], ◌∷◌, ◌++◌, map}
use mathlib.Core.Bool.{Bool, true, false}
use lib.ListN.{length, take, drop, replicate, length-replicate, take-append-drop}
use lib.Seq.{length-take-le}
use lib.Dec.{ltb}
use borrow.Author.Tests.{lt-ltb, le-ltb}
use Rattle.definitions.specs.Limits.{atom_count}
use Rattle.definitions.specs.Bounded.{bit}
use Rattle.definitions.specs.Archive.{in_front, turned, number_of_bits, state_of_digits, states_of_signals}
use Rattle.theorems.proofs.Choice.{pick_true, pick_false}
use Rattle.theorems.proofs.TurnLaws.{Even, turned_length, turned_even}
use Rattle.signals.specs.Places.{place_of, weight, add_signal, lay_on}

-- ---- the bit of a signal
pub place_run : (C j : ℕ) → j < C → place_of C j ≡ atom_count + j
unfolding place_of
place_run C j h = pick_true (ltb j C) (atom_count + j) (j - C) (lt-ltb j C h)

pub place_bit : (C j : ℕ) → C ≤ j → place_of C j ≡ j - C
unfolding place_of
place_bit C j h = pick_false (ltb j C) (atom_count + j) (j - C) (le-ltb j C h)

-- ---- the states
module _ (C : ℕ) where
  -- what digits from digit j on are worth
  unfoldable value_from : ℕ → List Bool → ℕ
  value_from j [] = 0
  value_from j (b ∷ l) = bit b * weight C j + value_from (j + 1) l

  weight_run : (j : ℕ) → j < C → weight C j ≡ 2 ^ (atom_count + j)
  unfolding weight
  weight_run j h = ap (λ (n : ℕ). 2 ^ n) (place_run C j h)

  weight_bit : (i : ℕ) → weight C (C + i) ≡ 2 ^ i
  unfolding weight
  weight_bit i = let e : (C + i) - C ≡ i = omega arith in ap (λ (n : ℕ). 2 ^ n) (place_bit C (C + i) (omega arith) ∙ e)

  shift : (b : Bool) (n p r : ℕ) → bit b * p + (n * (p * 2) + r) ≡ (n * 2 + bit b) * p + r
  shift true n p r = omega arith
  shift false n p r = omega arith

  bits_value : (i : ℕ) (l : List Bool) → value_from (C + i) l ≡ number_of_bits l * 2 ^ i
  unfolding value_from number_of_bits
  bits_value i [] = omega arith
  bits_value i (b ∷ l) =
      let e : (C + i) + 1 ≡ C + suc i = omega arith in
      rw (weight_bit i, e, bits_value (suc i) l, pow-suc 2 i) (omega (arith, shift b (number_of_bits l) (2 ^ i) 0))

  runs_value : (j : ℕ) (a b : List Bool) → j + length a ≡ C → value_from j (a ++ b) ≡ number_of_bits a * 2 ^ (atom_count + j) + value_from C b
  unfolding value_from number_of_bits
  runs_value j [] b e = let q : j ≡ C = omega arith in rw q (omega arith)
  runs_value j (x ∷ a) b e =
      let q : atom_count + (j + 1) ≡ suc (atom_count + j) = omega arith in
      rw (weight_run j (omega arith), runs_value (j + 1) a b (omega arith), q, pow-suc 2 (atom_count + j)) (shift x (number_of_bits a) (2 ^ (atom_count + j)) (value_from C b))

  value_of : (l : List Bool) → length l ≡ C + atom_count → value_from 0 l ≡ state_of_digits C l
  unfolding state_of_digits
  value_of l h =
      let z : C + 0 ≡ C = omega arith in
      let f = length-take-le C l (omega arith) in
      let r = runs_value 0 (take C l) (drop C l) (omega arith) in
      let b = rw z at (bits_value 0 (drop C l)) in
      ap (value_from 0) (sym (take-append-drop C l)) ∙ (r ∙ omega (arith, b))

  -- sums place by place
  unfoldable sums : List ℕ → List ℕ → List ℕ
  sums [] ys = []
  sums (x ∷ xs) [] = x ∷ xs
  sums (x ∷ xs) (y ∷ ys) = (x + y) ∷ sums xs ys

  add_length : (w : ℕ) (acc : List ℕ) (l : List Bool) → length (add_signal w acc l) ≡ length acc
  unfolding add_signal
  add_length w [] l = refl
  add_length w (s ∷ ss) [] = refl
  add_length w (s ∷ ss) (b ∷ l) = ap suc (add_length w ss l)

  sums_none : (j : ℕ) (acc : List ℕ) → sums acc (map (value_from j) (replicate (length acc) [])) ≡ acc
  unfolding sums value_from
  sums_none j [] = refl
  sums_none j (s ∷ ss) = let e : s + 0 ≡ s = omega arith in rw (e, sums_none j ss)

  sums_more : (j : ℕ) (acc : List ℕ) (l : List Bool) (m : List (List Bool)) → length l ≡ length acc → length m ≡ length acc
      → sums (add_signal (weight C j) acc l) (map (value_from (j + 1)) m) ≡ sums acc (map (value_from j) (in_front l m))
  unfolding sums add_signal in_front value_from
  sums_more j [] l m e f = refl
  sums_more j (s ∷ ss) [] m e f = absurd (omega arith)
  sums_more j (s ∷ ss) (b ∷ l) [] e f = absurd (omega arith)
  sums_more j (s ∷ ss) (b ∷ l) (r ∷ m) e f =
      let q : (s + bit b * weight C j) + value_from (j + 1) r ≡ s + (bit b * weight C j + value_from (j + 1) r) = omega arith in
      rw (q, sums_more j ss l m (omega arith) (omega arith))

  lay_sums : (j : ℕ) (acc : List ℕ) (ls : List (List Bool)) → Even (length acc) ls → lay_on C j acc ls ≡ sums acc (map (value_from j) (turned (length acc) ls))
  unfolding lay_on turned Even
  lay_sums j acc [] e = sym (sums_none j acc)
  lay_sums j acc (l ∷ ls) e =
      let n = add_length (weight C j) acc l in
      let h : Even (length (add_signal (weight C j) acc l)) ls = rw n e.1 in
      lay_sums (j + 1) (add_signal (weight C j) acc l) ls h
      ∙ rw n (sums_more j acc l (turned (length acc) ls) e.0 (turned_length (length acc) ls e.1))

  sums_values : (ls : List (List Bool)) → Even (C + atom_count) ls → sums (replicate (length ls) 0) (map (value_from 0) ls) ≡ map (state_of_digits C) ls
  unfolding sums Even
  sums_values [] e = refl
  sums_values (l ∷ ls) e = let q : 0 + state_of_digits C l ≡ state_of_digits C l = omega arith in rw (value_of l e.0, q, sums_values ls e.1)

  -- the states that are filled signal by signal, from zeros, are the states of the signals
  pub filled : (N : ℕ) (signals : List (List Bool)) → length signals ≡ C + atom_count → Even N signals
      → lay_on C 0 (replicate N 0) signals ≡ states_of_signals C N signals
  unfolding states_of_signals
  filled N signals count even =
      let z = length-replicate {A = ℕ} N 0 in
      let l = turned_length N signals even in
      let h : Even (C + atom_count) (turned N signals) = rw count at (turned_even N signals) in
      lay_sums 0 (replicate N 0) signals (rw z even)
      ∙ (rw z (rw l at (sums_values (turned N signals) h)))
