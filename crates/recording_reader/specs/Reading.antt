-- What the reader of a recording text answers, and what it leaves in lent space.
use Rattle.std.specs.Prelude.{◌≡◌, ℕ, List, [], ◌∷◌, Result}
use Rattle.definitions.specs.Operations.{Answer, read_recording_answer, read_recording_masks, read_recording_states}
use Rattle.recordings.specs.declared.heading.RecordingHeading.{RecordingHeading}
use Rattle.rules.specs.Answers.{answer_of}
use Rattle.rules.specs.declared.refusal.Refusal.{Refusal}

-- "read a recording (C, N, masks, states)": the number and the values of each case
abbrev pub read_answer : Result RecordingHeading Refusal → Answer
read_answer = answer_of (λ (h : RecordingHeading). h.controllers ∷ h.count ∷ [])

-- the whole answer, and all of the lent masks and states
pub record ReadRecording (text masks states : List ℕ) (r : Result RecordingHeading Refusal) (masks' states' : List ℕ) : Type 0 where
  pub answered : read_answer r ≡ read_recording_answer text masks states
  pub masks_left : masks' ≡ read_recording_masks text masks states
  pub states_left : states' ≡ read_recording_states text masks states
