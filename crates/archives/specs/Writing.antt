-- Either text, as it is written.
use Rattle.std.specs.Prelude.{ℕ, ◌≤◌, Bool, List, length}
use Rattle.definitions.specs.Limits.{max_controllers, max_states}
use Rattle.definitions.specs.Bounded.{pick}
use Rattle.definitions.specs.Recordings.{Recording, recording_of}
use Rattle.definitions.specs.RecordingText.{RecordingScan}
use Rattle.definitions.specs.RecordingWriting.{recording_text}
use Rattle.definitions.specs.Archive.{archive_text}

-- the recording text where it goes back, else the archive text
unfoldable pub text_of : (back : Bool) (R : Recording) → List ℕ
text_of back R = pick back (recording_text R.controllers R.count R.masks R.states) (archive_text R.controllers R.count R.masks R.states)

-- the text that is written of what was read
abbrev pub text_from : (back : Bool) (s : RecordingScan) → List ℕ
text_from back s = text_of back (recording_of s.controllers s.count s.masks s.states)

-- C and N within their limits, and room for the text
pub record WriteRoom (back : Bool) (R : Recording) (text : List ℕ) : Type 0 where
  pub few : R.controllers ≤ max_controllers
  pub short : R.count ≤ max_states
  pub room : length (text_of back R) ≤ length text
