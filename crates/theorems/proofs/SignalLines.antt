-- What each signal says: line c of the archive is the run marks of controller c, line C + a the bits of atom a.
use mathlib.Core.Path.{◌≡◌, refl, ap, ◌∙◌}
use Prim.Native.Nat.{ℕ, zero, suc, ◌+◌, ◌<◌}
use native.Mathlib.Omega.{arith}
use mathlib.Core.List.{List, [], ◌∷◌, map}
use mathlib.Core.Bool.{Bool, false}
use lib.ListN.{length, get_or, get_or-replicate, get_or-append}
use lib.Seq.{get_or-append-add}
use Rattle.definitions.specs.Limits.{atom_count}
use Rattle.definitions.specs.Bounded.{bit_of, tabulate}
use Rattle.definitions.specs.Recordings.{atoms_of, marks_of, marked}
use Rattle.definitions.specs.Archive.{in_front, turned, state_digits, signals_of}
use Rattle.theorems.proofs.Tabulations.{tabulate_length, tabulate_at}
use Rattle.theorems.proofs.TurnLaws.{Even, turned_length}
use Rattle.theorems.proofs.SignalLaws.{digits_even}

-- column j of lines of one length
front_at : {A : Type 0} (d : A) (xs : List A) (rows : List (List A)) (j : ℕ) → length xs ≡ length rows → j < length xs
    → get_or (in_front xs rows) j [] ≡ get_or xs j d ∷ get_or rows j []
unfolding in_front
front_at d [] rows j e h = absurd (omega arith)
front_at d (x ∷ xs) [] j e h = absurd (omega arith)
front_at d (x ∷ xs) (r ∷ rows) zero e h = refl
front_at d (x ∷ xs) (r ∷ rows) (suc j) e h = front_at d xs rows j (omega arith) (omega arith)

pub column_at_lem : {A : Type 0} (d : A) (w : ℕ) (rows : List (List A)) (j : ℕ) → Even w rows → j < w → get_or (turned w rows) j [] ≡ map (λ r. get_or r j d) rows
unfolding turned Even
column_at_lem d w [] j e h = get_or-replicate w j [] [] h
column_at_lem d w (r ∷ rows) j e h =
    let l = turned_length w rows e.1 in
    let k = e.0 in
    front_at d r (turned w rows) j (omega arith) (omega arith) ∙ ap (λ m. get_or r j d ∷ m) (column_at_lem d w rows j e.1 h)

module _ (C : ℕ) where
  run_digit : (c s : ℕ) → c < C → get_or (state_digits C s) c false ≡ marked c s
  unfolding state_digits
  run_digit c s h =
      let l = tabulate_length C 0 (bit_of (marks_of s)) in
      get_or-append (tabulate C (bit_of (marks_of s))) (tabulate atom_count (bit_of (atoms_of s))) false c (omega arith)
      ∙ tabulate_at C (bit_of (marks_of s)) c h

  atom_digit : (a s : ℕ) → a < atom_count → get_or (state_digits C s) (C + a) false ≡ bit_of (atoms_of s) a
  unfolding state_digits
  atom_digit a s h =
      let x = tabulate C (bit_of (marks_of s)) in
      let y = tabulate atom_count (bit_of (atoms_of s)) in
      let l : length x ≡ C = tabulate_length C 0 (bit_of (marks_of s)) in
      (rw l at (get_or-append-add x y a false)) ∙ tabulate_at atom_count (bit_of (atoms_of s)) a h

  each : (f : List Bool → Bool) (g : ℕ → Bool) → ((s : ℕ) → f (state_digits C s) ≡ g s) → (ss : List ℕ) → map f (map (state_digits C) ss) ≡ map g ss
  each f g h [] = refl
  each f g h (s ∷ ss) = rw (h s, each f g h ss)

  -- "C lines `runs`, controller 0 first": line c has a 1 in the states in which c runs
  pub runs_line : (c : ℕ) (ss : List ℕ) → c < C → get_or (signals_of C ss) c [] ≡ map (marked c) ss
  unfolding signals_of
  runs_line c ss h =
      column_at_lem false (C + atom_count) (map (state_digits C) ss) c (digits_even C ss) (omega arith)
      ∙ each (λ r. get_or r c false) (marked c) (λ s. run_digit c s h) ss

  -- "32 lines `bits`, atom 0 first": line C + a has a 1 in the states in which atom a holds
  pub bits_line : (a : ℕ) (ss : List ℕ) → a < atom_count → get_or (signals_of C ss) (C + a) [] ≡ map (λ s. bit_of (atoms_of s) a) ss
  unfolding signals_of
  bits_line a ss h =
      column_at_lem false (C + atom_count) (map (state_digits C) ss) (C + a) (digits_even C ss) (omega arith)
      ∙ each (λ r. get_or r (C + a) false) (λ s. bit_of (atoms_of s) a) (λ s. atom_digit a s h) ss
