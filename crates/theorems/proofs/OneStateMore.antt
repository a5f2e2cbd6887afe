-- The local trace of a recording with one state more: a run in the state before it has a result now. That state's whole word takes the last
-- place, and a new last place follows; without a run nothing changes.
use mathlib.Core.Path.{◌≡◌, refl, sym, ap, ◌∙◌}
use Prim.Native.Nat.{ℕ, suc, ◌+◌, ◌-◌, ◌<◌}
use native.Mathlib.Omega.{arith}
use native.Mathlib.Numerals.{add-one}
use mathlib.Core.Bool.{Bool, true, false}
use mathlib.Core.List.{List, [], ◌∷◌, ◌++◌, map, map-append, append_assoc}
use lib.Bits.{bit_and}
use lib.ListN.{length, take, get_or, length-append}
use lib.Seq.{take-take, take_at, get_or-take}
use borrow.Author.Tests.{lt-ltb}
use Rattle.definitions.specs.Bounded.{tabulate}
use Rattle.definitions.specs.Recordings.{Recording, first_states, atoms_of, marked, mask_of, state_at, word_at, runs_at}
use Rattle.definitions.specs.Projection.{run_states, after_last, places_of, local_trace}
use Rattle.theorems.proofs.Tabulations.{tabulate_same, tabulate_snoc}
use Rattle.theorems.proofs.Beginnings.{Beginning}
use Rattle.theorems.proofs.LastMarks.{last_adds_none}
use Rattle.theorems.proofs.RunStates.{after_snoc, after_near, runs_on, runs_off, runs_same, words_same}

-- R is S with the state s after its last one
pub record OneMore (S R : Recording) (s : ℕ) : Type 0 where
  pub beginning : Beginning S R
  pub count : R.count ≡ S.count + 1
  pub state : state_at R S.count ≡ s

-- the first states, and one more of them
pub first_states_more : (R : Recording) (k : ℕ) → 0 < k → OneMore (first_states k R) (first_states (k + 1) R) (get_or R.states k 0)
first_states_more R k some = record {
  beginning = record { some = some; few = omega arith; controllers = refl; masks = refl; states = sym (take-take k (k + 1) R.states (omega arith)) };
  count = refl;
  state = get_or-take (k + 1) R.states k 0 (omega arith);
}

-- the marks of c, the last state's too
abbrev pub mark_of : (R : Recording) (c k : ℕ) → Bool
mark_of R c k = marked c (state_at R k)

-- the local trace by the marks of the states before the last one
marks_trace : (R : Recording) (c j : ℕ) → R.count ≡ j + 1 → local_trace R c ≡ places_of (word_at R) (mask_of R c) (run_states (mark_of R c) j)
marks_trace R c j n =
    let e : R.count - 1 ≡ j = omega arith in
    ap (places_of (word_at R) (mask_of R c))
    (last_adds_none R c (omega arith) ∙ (ap (run_states (runs_at R c)) e ∙ runs_same (runs_at R c) (mark_of R c) j (λ k l. rw (lt-ltb (suc k) R.count (omega arith)))))

module _ (S R : Recording) (s : ℕ) (O : OneMore S R s) (c : ℕ) where
  -- the last state of S
  abbrev j : ℕ
  j = S.count - 1

  ended : S.count ≡ j + 1
  ended = omega (arith, O.beginning.some)

  state_before : (k : ℕ) → k < S.count → state_at R k ≡ state_at S k
  state_before k h = sym (ap (λ (l : List ℕ). get_or l k 0) O.beginning.states ∙ get_or-take S.count _ k 0 h)

  mark_before : (k : ℕ) → k < S.count → mark_of R c k ≡ mark_of S c k
  mark_before k h = ap (marked c) (state_before k h)

  word_before : (k : ℕ) → k < S.count → word_at R k ≡ word_at S k
  word_before k h = ap atoms_of (state_before k h)

  pub same_mask_lem : mask_of R c ≡ mask_of S c
  same_mask_lem = ap (λ (l : List ℕ). get_or l c 0) (sym O.beginning.masks)

  -- the runs of S, and the words of their states
  abbrev runs : List ℕ
  runs = run_states (mark_of S c) j

  words : map (word_at R) runs ≡ map (word_at S) runs
  words = words_same (mark_of S c) (word_at R) (word_at S) j (λ k h r. word_before k (omega arith))

  longer : local_trace R c ≡ places_of (word_at R) (mask_of R c) (run_states (mark_of S c) (j + 1))
  longer =
      marks_trace R c (j + 1) (O.count ∙ ap (λ (n : ℕ). n + 1) ended)
      ∙ ap (places_of (word_at R) (mask_of R c)) (runs_same (mark_of R c) (mark_of S c) (j + 1) (λ k h. mark_before k (omega arith)))

  pub longer_idle : mark_of S c j ≡ false → local_trace R c ≡ local_trace S c
  longer_idle idle =
      longer
      ∙ rw (runs_off (mark_of S c) j idle, words, word_before (after_last runs) (omega (arith, after_near (mark_of S c) j, ended)), same_mask_lem)
      (sym (marks_trace S c j ended))

  pub longer_ran : mark_of S c j ≡ true → (n : ℕ) → length (local_trace S c) ≡ n + 1
      → local_trace R c ≡ take n (local_trace S c) ++ (word_at S j ∷ bit_and (atoms_of s) (mask_of R c) ∷ [])
  longer_ran ran n l =
      let own : ℕ = bit_and (word_at S (after_last runs)) (mask_of S c) in
      let t : local_trace S c ≡ map (word_at S) runs ++ (own ∷ []) = marks_trace S c j ended in
      let size : length (map (word_at S) runs) ≡ n = omega (arith, ap length t, length-append (map (word_at S) runs) (own ∷ [])) in
      let front : take n (local_trace S c) ≡ map (word_at S) runs = ap (take n) t ∙ take_at (map (word_at S) runs) (own ∷ []) n size in
      let end : word_at R (suc j) ≡ atoms_of s = ap atoms_of (ap (state_at R) (sym (add-one j) ∙ sym ended) ∙ O.state) in
      longer ∙ rw (runs_on (mark_of S c) j ran, after_snoc runs j, map-append, words, word_before j (omega (arith, ended)), end, front, append_assoc)

  -- the runs before the last state: those of S, and what the last state of S turned out to be
  pub longer_runs : tabulate S.count (runs_at R c) ≡ tabulate j (runs_at S c) ++ (mark_of S c j ∷ [])
  longer_runs =
      let marks : tabulate S.count (runs_at R c) ≡ tabulate S.count (mark_of S c)
      = tabulate_same S.count (runs_at R c) (mark_of S c) (λ i h. rw (lt-ltb (suc i) R.count (omega (arith, O.count))) (mark_before i h)) in
      let before : tabulate j (mark_of S c) ≡ tabulate j (runs_at S c)
      = tabulate_same j (mark_of S c) (runs_at S c) (λ i h. sym (rw (lt-ltb (suc i) S.count (omega arith)))) in
      marks ∙ (ap (λ (n : ℕ). tabulate n (mark_of S c)) (ended ∙ add-one j) ∙ (tabulate_snoc j (mark_of S c) ∙ rw before))
