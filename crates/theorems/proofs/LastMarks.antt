-- A mark in the last state "is read as no run: by projection, by `end`, by run in a rewritten rule" (document 02): recordings that differ in the
-- marks of their last state only have the same local traces, and every table reads the same over them.
use mathlib.Core.Path.{◌≡◌, ap, ◌∙◌, fun_ext}
use Prim.Native.Nat.{ℕ, suc, ◌-◌, ◌<◌}
use native.Mathlib.Omega.{arith}
use native.Mathlib.Decide.{dec_lt}
use mathlib.Core.Bool.{Bool, false}
use mathlib.Core.List.{List, append-nil}
use lib.Dec.{ltb}
use lib.ListN.{get_or}
use borrow.Author.Tests.{lt-ltb, le-ltb}
use Rattle.definitions.specs.Bounded.{pick, bit_of}
use Rattle.definitions.specs.Recordings.{Recording, marked, masks_of, mask_of, state_at, word_at, runs_at}
use Rattle.definitions.specs.Projection.{run_states, places_of, local_trace, end_at}
use Rattle.definitions.specs.Readings.{Trace, whole}

-- the last state adds no run
pub last_adds_none : (R : Recording) (c : ℕ) → 0 < R.count → run_states (runs_at R c) R.count ≡ run_states (runs_at R c) (R.count - 1)
unfolding pick
last_adds_none R c h =
    let e : R.count ≡ suc (R.count - 1) = omega arith in
    let idle : ltb (suc (R.count - 1)) R.count ≡ false = le-ltb (suc (R.count - 1)) R.count (omega arith) in
    ap (λ (n : ℕ). run_states (runs_at R c) n) e ∙ rw (idle, append-nil)

-- R and S have the same masks and words, and the same run marks in all states but the last
pub record SameButLastMarks (R S : Recording) : Type 0 where
  pub count : R.count ≡ S.count
  pub masks : masks_of R ≡ masks_of S
  pub words : (k : ℕ) → word_at R k ≡ word_at S k
  pub marks : (c k : ℕ) → suc k < R.count → marked c (state_at R k) ≡ marked c (state_at S k)

-- the places of a local trace, of N states with these words and runs
abbrev places_from : (N : ℕ) (mask : ℕ) (word : ℕ → ℕ) (run : ℕ → Bool) → List ℕ
places_from N mask word run = places_of word mask (run_states run N)

-- the whole recording, of N states with these words and runs
abbrev whole_from : (N : ℕ) (word : ℕ → ℕ) (run : ℕ → Bool) → Trace
whole_from N word run = record { places = N; atom = λ a weak k. bit_of (word k) a; run = run; end = end_at run N }

module _ (R S : Recording) (same : SameButLastMarks R S) (c : ℕ) where
  -- each controller runs in the same states
  pub same_runs : (k : ℕ) → runs_at R c k ≡ runs_at S c k
  same_runs k = go (dec_lt (suc k) R.count)
    where
      go : Dec (suc k < R.count) → runs_at R c k ≡ runs_at S c k
      go (yes l) = rw (lt-ltb (suc k) R.count l, lt-ltb (suc k) S.count (omega (arith, same.count))) (same.marks c k l)
      go (no l) = rw (le-ltb (suc k) R.count (omega arith), le-ltb (suc k) S.count (omega (arith, same.count)))

  runs : runs_at R c ≡ runs_at S c
  runs = fun_ext same_runs

  words : word_at R ≡ word_at S
  words = fun_ext same.words

  pub same_local_trace : local_trace R c ≡ local_trace S c
  same_local_trace =
      ap (λ (n : ℕ). places_from n (mask_of R c) (word_at R) (runs_at R c)) same.count
      ∙ (ap (λ (m : List ℕ). places_from S.count (get_or m c 0) (word_at R) (runs_at R c)) same.masks
      ∙ (ap (λ (w : ℕ → ℕ). places_from S.count (mask_of S c) w (runs_at R c)) words
      ∙ ap (λ (r : ℕ → Bool). places_from S.count (mask_of S c) (word_at S) r) runs))

  pub same_whole : whole R c ≡ whole S c
  same_whole =
      ap (λ (n : ℕ). whole_from n (word_at R) (runs_at R c)) same.count
      ∙ (ap (λ (w : ℕ → ℕ). whole_from S.count w (runs_at R c)) words
      ∙ ap (λ (r : ℕ → Bool). whole_from S.count (word_at S) r) runs)
