-- What the writer of a recording's lines asks of its caller.
use Rattle.std.specs.Prelude.{ℕ, ◌≤◌, List, [], ◌∷◌, ◌++◌, length}
use Rattle.definitions.specs.Limits.{max_controllers, max_states}
use Rattle.definitions.specs.Lines.{newline}
use Rattle.definitions.specs.RecordingWriting.{recording_heading_text, opening_text}

-- the first line, with byte 10
unfoldable pub heading_line : (C N : ℕ) → List ℕ
heading_line C N = recording_heading_text C N ++ (newline ∷ [])

-- C and N within their limits, and room for the first line and the lines of the masks
pub record OpeningRoom (C N : ℕ) (masks text : List ℕ) : Type 0 where
  pub few : C ≤ max_controllers
  pub short : N ≤ max_states
  pub room : length (opening_text C N masks []) ≤ length text
