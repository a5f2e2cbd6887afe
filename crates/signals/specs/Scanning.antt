-- What a line of a signal, and all of them, leave in the states.
use Rattle.std.specs.Prelude.{◌≡◌, ℕ, ◌+◌, ◌^◌, ◌<◌, ◌≤◌, Bool, List, length, take, drop, get_or, Result}
use Rattle.definitions.specs.Limits.{accepted, recording_form, max_controllers, atom_count}
use Rattle.definitions.specs.Lines.{line_length, rest_of, formed, malformed, refused, read}
use Rattle.definitions.specs.Archive.{signal_form, next_signal, scan_signals, states_of_signals}
use Rattle.lines.specs.declared.Stop.{Stop}
use Rattle.lines.specs.Reading.{stopped_number, stopped_at}
use Rattle.signals.specs.Places.{InSignals, weight, add_signal}

-- what a line of signal j asks of its caller
pub record LineRoom (C N j : ℕ) (o : List ℕ) : Type 0 where
  pub turn : InSignals C j
  pub enough : N ≤ length o
  pub fits : (k : ℕ) → k < N → get_or o k 0 + weight C j < 2 ^ 64

-- an accepted line of signal j is added to the first N states
pub record OneLaid (C N j : ℕ) (s o o' : List ℕ) : Type 0 where
  pub value : List Bool
  pub read : signal_form C N j s ≡ formed value
  pub holds : take N o' ≡ add_signal (weight C j) (take N o) value

-- the line s was read as that of signal j, or it is malformed, by the number r
pub record LineLaid (C N j : ℕ) (s o : List ℕ) (r : ℕ) (o' : List ℕ) : Type 0 where
  pub bound : (k : ℕ) → get_or o' k 0 ≤ get_or o k 0 + weight C j
  pub laid : r ≡ accepted → OneLaid C N j s o o'
  pub refused : (r ≡ accepted → ⊥) → (r ≡ recording_form) × (signal_form C N j s ≡ malformed)

-- what the next line of a text asks of its caller
pub record NextRoom (C N j len : ℕ) (t o : List ℕ) : Type 0 where
  pub ends : len ≡ line_length t
  pub line : LineRoom C N j o

-- the next line was read, and is added to the first N states
pub record NextOne (C N j : ℕ) (t o o' : List ℕ) : Type 0 where
  pub value : List Bool
  pub is : next_signal C N j t ≡ read value (rest_of t)
  pub holds : take N o' ≡ add_signal (weight C j) (take N o) value

-- the next line was read as that of signal j, or refused with r
pub record NextLaid (C N j : ℕ) (t o : List ℕ) (r : ℕ) (o' : List ℕ) : Type 0 where
  pub bound : (k : ℕ) → get_or o' k 0 ≤ get_or o k 0 + weight C j
  pub laid : r ≡ accepted → NextOne C N j t o o'
  pub denied : (r ≡ accepted → ⊥) → next_signal C N j t ≡ refused r

-- what the lines ask of their caller: the first N states are zero
pub record ScanRoom (C N start : ℕ) (text o : List ℕ) : Type 0 where
  pub few : C ≤ max_controllers
  pub inside : start ≤ length text
  pub enough : N ≤ length o
  pub zeros : (k : ℕ) → k < N → get_or o k 0 ≡ 0

-- the lines were read; accepted, the first N states are those of the signals
pub record SignalsScanned (C N start : ℕ) (text : List ℕ) (r : Result ℕ Stop) (o' : List ℕ) : Type 0 where
  pub number : stopped_number r ≡ (scan_signals C N (C + atom_count) 0 (drop start text)).number
  pub inside : stopped_at r ≤ length text
  pub rest : drop (stopped_at r) text ≡ (scan_signals C N (C + atom_count) 0 (drop start text)).rest
  pub states : stopped_number r ≡ accepted → take N o' ≡ states_of_signals C N (scan_signals C N (C + atom_count) 0 (drop start text)).signals
