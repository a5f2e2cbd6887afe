-- The local length is one more than the ones of the run marks' row.
use mathlib.Core.Path.{◌≡◌, refl, sym, ap, ◌∙◌}
use Prim.Native.Nat.{ℕ, zero, suc, ◌+◌, ◌-◌, ◌≤◌, ◌<◌}
use native.Mathlib.Omega.{arith}
use native.Mathlib.Numerals.{add-one}
use mathlib.Core.Bool.{Bool, true, false}
use mathlib.Core.List.{List, [], ◌∷◌, ◌++◌, map}
use lib.Bits.{bit_and}
use lib.ListN.{length, length-append, length-map}
use Rattle.definitions.specs.Bounded.{bit, tabulate}
use Rattle.definitions.specs.Recordings.{Recording, mask_of, word_at, runs_at}
use Rattle.definitions.specs.Projection.{run_states, after_last, places_of, local_trace}
use Rattle.theorems.proofs.Choice.{by_test}
use Rattle.theorems.proofs.Tabulations.{tabulate_snoc}
use Rattle.theorems.proofs.LastMarks.{last_adds_none}
use Rattle.theorems.proofs.RunStates.{runs_on, runs_off}
use Rattle.mark_words.specs.Marks.{yes_marks}
use Rattle.projection.specs.Places.{states_only, runs_in, places_in}

pub yes_snoc : (l : List Bool) (b : Bool) → yes_marks (l ++ (b ∷ [])) ≡ yes_marks l + bit b
yes_snoc [] b = omega arith
yes_snoc (x ∷ l) b = omega (arith, yes_snoc l b)

pub yes_few : (l : List Bool) → yes_marks l ≤ length l
yes_few [] = omega arith
yes_few (true ∷ l) = omega (arith, yes_few l)
yes_few (false ∷ l) = omega (arith, yes_few l)

pub run_marks : (run : ℕ → Bool) (n : ℕ) → yes_marks (tabulate n run) ≡ length (run_states run n)
run_marks run zero = refl
run_marks run (suc n) =
    let e : suc n ≡ n + 1 = sym (add-one n) in
    let ih : yes_marks (tabulate n run) ≡ length (run_states run n) = run_marks run n in
    ap yes_marks (tabulate_snoc n run) ∙ (yes_snoc (tabulate n run) (run n) ∙ by_test (run n)
    (λ r. omega (arith, ih, ap bit r, ap length (ap (run_states run) e ∙ runs_on run n r), length-append (run_states run n) (n ∷ [])))
    (λ r. omega (arith, ih, ap bit r, ap length (ap (run_states run) e ∙ runs_off run n r))))

places_length : (word : ℕ → ℕ) (mask : ℕ) (rs : List ℕ) → length (places_of word mask rs) ≡ length rs + 1
places_length word mask rs = omega (arith, length-append (map word rs) (bit_and (word (after_last rs)) mask ∷ []), length-map rs word)

pub length_of : (N c mask : ℕ) (states : List ℕ) → length (places_in N mask c states) ≡ length (runs_in N c states) + 1
unfolding places_in
length_of N c mask states = places_length (word_at (states_only N states)) mask (runs_in N c states)

-- the length of a local trace, as a caller has it
pub length_local : (R : Recording) (c r : ℕ) → r ≡ length (runs_in R.count c R.states) + 1 → r ≡ length (local_trace R c)
unfolding places_in
length_local R c r e = e ∙ sym (length_of R.count c (mask_of R c) R.states)

-- the last state adds no run
pub trace_length : (R : Recording) (c : ℕ) → 0 < R.count → length (local_trace R c) ≡ length (run_states (runs_at R c) (R.count - 1)) + 1
trace_length R c h =
    places_length (word_at R) (mask_of R c) (run_states (runs_at R c) R.count) ∙ ap (λ (rs : List ℕ). length rs + 1) (last_adds_none R c h)
