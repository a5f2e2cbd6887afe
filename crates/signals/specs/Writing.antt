-- What is written of a signal, and of all of them.
use Rattle.std.specs.Prelude.{ℕ, ◌+◌, ◌/◌, ◌%◌, ◌^◌, ◌<◌, ◌≤◌, List, [], ◌∷◌, ◌++◌, length}
use Rattle.definitions.specs.Limits.{max_controllers}
use Rattle.definitions.specs.Lines.{tab}
use Rattle.definitions.specs.Archive.{signal_word, signals_of, signals_text}
use Rattle.signals.specs.Places.{InSignals, place_of}

-- the digit of bit `place` of a state, as a byte
unfoldable pub digit_of : (place s : ℕ) → ℕ
digit_of place s = 48 + s / 2 ^ place % 2

-- the digits of that bit in the states
unfoldable pub digits_of : (place : ℕ) (states : List ℕ) → List ℕ
digits_of place [] = []
digits_of place (s ∷ ss) = digit_of place s ∷ digits_of place ss

-- what the digits of a signal ask of their caller
pub record Writable (states : List ℕ) (place at : ℕ) (text : List ℕ) : Type 0 where
  pub inside : place < 64
  pub room : at + length states ≤ length text

-- the line of signal j of these states
unfoldable pub line_text : (C j : ℕ) (states : List ℕ) → List ℕ
line_text C j states = signal_word C j ++ (tab ∷ digits_of (place_of C j) states)

-- what it asks of its caller
pub record LineWritable (C j : ℕ) (states : List ℕ) (at : ℕ) (text : List ℕ) : Type 0 where
  pub turn : InSignals C j
  pub room : at + length (line_text C j states) ≤ length text

-- what all lines ask of their caller
pub record LinesWritable (C : ℕ) (states : List ℕ) (start : ℕ) (text : List ℕ) : Type 0 where
  pub few : C ≤ max_controllers
  pub room : start + length (signals_text C 0 (signals_of C states)) ≤ length text
