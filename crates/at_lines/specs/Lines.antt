-- What the code answers of an `at` line without gauges.
use Rattle.std.specs.Prelude.{◌≡◌, ℕ, ◌≤◌, List, Result}
use Rattle.definitions.specs.Limits.{max_controllers, recording_form, recording_lines}
use Rattle.definitions.specs.Recordings.{state_refusal}
use Rattle.definitions.specs.Lines.{line_length, NextLine, next_line}
use Rattle.definitions.specs.RecordingText.{state_form}
use Rattle.lines.specs.Told.{next_told}

-- the state of an `at` line, or its refusal
abbrev pub state_told : NextLine ℕ → Result ℕ ℕ
state_told = next_told (λ s. s)

-- the next line, as the `at` line of state k in a recording without gauges; `prior` is the state before it
abbrev pub state_line : (C : ℕ) (masks : List ℕ) (k prior : ℕ) → List ℕ → NextLine ℕ
state_line C masks k prior t = next_line recording_lines recording_form (state_form C) (state_refusal C masks k prior) t

-- what the line of a state asks of its caller
pub record StateTurn (C len : ℕ) (t : List ℕ) : Type 0 where
  pub few : C ≤ max_controllers
  pub ends : len ≡ line_length t
