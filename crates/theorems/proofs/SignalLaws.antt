-- States and signals: the digits of the states, turned, and turned back.
use mathlib.Core.Path.{◌≡◌, refl, ap, ◌∙◌}
use Prim.Native.Nat.{ℕ, suc, ◌+◌, ◌*◌, ◌/◌, ◌%◌, ◌^◌, ◌<◌}
use native.Mathlib.Omega.{arith}
use mathlib.Core.List.{List, [], ◌∷◌, map}
use mathlib.Core.Bool.{Bool}
use lib.ListN.{length, take, drop, length-append, length-drop, take-append-drop}
use lib.Seq.{length-take-le, take_at, drop_at}
use Rattle.definitions.specs.Limits.{atom_count}
use Rattle.definitions.specs.Bounded.{bit_of, tabulate}
use Rattle.definitions.specs.Recordings.{atoms_of, marks_of, state_refusal, states_refusal}
use Rattle.theorems.proofs.Choice.{or_else_none}
use Rattle.theorems.proofs.Tabulations.{tabulate_length}
use Rattle.definitions.specs.Archive.{turned, number_of_bits}
use Rattle.definitions.specs.Archive.{state_digits, state_of_digits, signals_of, states_of_signals}
use Rattle.theorems.proofs.TurnLaws.{Even, turned_length, turned_even, turned_twice}
use Rattle.theorems.proofs.NumberBits.{number_of_bits_lem, number_below, bits_of_number}
use Rattle.theorems.proofs.RecordingTexts.{few_marks}

module _ (C : ℕ) where
  pub digits_length : (s : ℕ) → length (state_digits C s) ≡ C + atom_count
  unfolding state_digits
  digits_length s =
      length-append (tabulate C (bit_of (marks_of s))) (tabulate atom_count (bit_of (atoms_of s)))
      ∙ omega (arith, tabulate_length C 0 (bit_of (marks_of s)), tabulate_length atom_count 0 (bit_of (atoms_of s)))

  -- a state has these digits, and these digits are those of one state only
  pub state_of_digits_lem : (s : ℕ) → marks_of s < 2 ^ C → state_of_digits C (state_digits C s) ≡ s
  unfolding state_of_digits state_digits
  state_of_digits_lem s h =
      let a = tabulate C (bit_of (marks_of s)) in
      let b = tabulate atom_count (bit_of (atoms_of s)) in
      let l = tabulate_length C 0 (bit_of (marks_of s)) in
      let e : s / 4294967296 * 4294967296 + s % 4294967296 ≡ s = omega arith in
      rw (take_at a b C l, drop_at a b C l, number_of_bits_lem C (marks_of s) h, number_of_bits_lem atom_count (atoms_of s) (omega arith)) e

  module _ (l : List Bool) (h : length l ≡ C + atom_count) where
    front : length (take C l) ≡ C
    front = length-take-le C l (omega arith)

    back : length (drop C l) ≡ atom_count
    back = length-drop C l ∙ omega arith

    word_below : number_of_bits (drop C l) < 2 ^ atom_count
    word_below = rw back at (number_below (drop C l))

    marks_of_lem : marks_of (state_of_digits C l) ≡ number_of_bits (take C l)
    unfolding state_of_digits
    marks_of_lem = omega (arith, word_below)

    atoms_of_lem : atoms_of (state_of_digits C l) ≡ number_of_bits (drop C l)
    unfolding state_of_digits
    atoms_of_lem = omega (arith, word_below)

    -- no digits give a run mark at C or above
    pub marks_below : marks_of (state_of_digits C l) < 2 ^ C
    marks_below = rw marks_of_lem (rw front at (number_below (take C l)))

    pub digits_of_state : state_digits C (state_of_digits C l) ≡ l
    unfolding state_digits
    digits_of_state =
        let p = bits_of_number (take C l) in
        let q = bits_of_number (drop C l) in
        rw (marks_of_lem, atoms_of_lem) (rw (rw front at p, rw back at q) (take-append-drop C l))

  pub digits_even : (ss : List ℕ) → Even (C + atom_count) (map (state_digits C) ss)
  unfolding Even
  digits_even [] = tt
  digits_even (s ∷ ss) = (digits_length s, digits_even ss)

  map_length : (ss : List ℕ) → length (map (state_digits C) ss) ≡ length ss
  map_length [] = refl
  map_length (s ∷ ss) = ap suc (map_length ss)

  -- each state of an accepted list
  states_of_digits : (masks ss : List ℕ) (k prior : ℕ) → states_refusal C masks k prior ss ≡ 0 → map (state_of_digits C) (map (state_digits C) ss) ≡ ss
  unfolding states_refusal
  states_of_digits masks [] k prior e = refl
  states_of_digits masks (s ∷ ss) k prior e =
      let p = or_else_none (state_refusal C masks k prior s) (states_refusal C masks (k + 1) s ss) e in
      rw (state_of_digits_lem s (few_marks C masks k prior s p.0), states_of_digits masks ss (k + 1) s p.1)

  digits_of_states : (ls : List (List Bool)) → Even (C + atom_count) ls → map (state_digits C) (map (state_of_digits C) ls) ≡ ls
  unfolding Even
  digits_of_states [] e = refl
  digits_of_states (l ∷ ls) e = rw (digits_of_state l e.0, digits_of_states ls e.1)

  pub signals_count : (ss : List ℕ) → length (signals_of C ss) ≡ C + atom_count
  unfolding signals_of
  signals_count ss = turned_length (C + atom_count) (map (state_digits C) ss) (digits_even ss)

  pub signals_even : (ss : List ℕ) → Even (length ss) (signals_of C ss)
  unfolding signals_of
  signals_even ss = rw (← map_length ss) (turned_even (C + atom_count) (map (state_digits C) ss))

  -- accepted states come back: the law of turning at N lines of C + 32 digits
  pub states_again : (N : ℕ) (masks ss : List ℕ) → length ss ≡ N → states_refusal C masks 0 0 ss ≡ 0 → states_of_signals C N (signals_of C ss) ≡ ss
  unfolding states_of_signals signals_of
  states_again N masks ss l e =
      ap (map (state_of_digits C)) (turned_twice N (C + atom_count) (map (state_digits C) ss) (map_length ss ∙ l) (digits_even ss))
      ∙ states_of_digits masks ss 0 0 e

  module _ (N : ℕ) (signals : List (List Bool)) (count : length signals ≡ C + atom_count) (even : Even N signals) where
    columns_even : Even (C + atom_count) (turned N signals)
    columns_even = rw count at (turned_even N signals)

    -- signals come back: the law of turning at C + 32 lines of N digits
    pub signals_again : signals_of C (states_of_signals C N signals) ≡ signals
    unfolding states_of_signals signals_of
    signals_again =
        ap (turned (C + atom_count)) (digits_of_states (turned N signals) columns_even)
        ∙ turned_twice (C + atom_count) N signals count even

    pub states_count_lem : length (states_of_signals C N signals) ≡ N
    unfolding states_of_signals
    states_count_lem = lengths (turned N signals) ∙ turned_length N signals even
      where
        lengths : (ls : List (List Bool)) → length (map (state_of_digits C) ls) ≡ length ls
        lengths [] = refl
        lengths (l ∷ ls) = ap suc (lengths ls)
