-- A recording with the controller that it is asked for.
use Rattle.std.specs.Prelude.{ℕ}
use Rattle.definitions.specs.Bounded.{or_else}
use Rattle.definitions.specs.Recordings.{Recording, recording_refusal, controller_refusal}

-- the recording, then "11 rule's controller not below C"
abbrev pub joined_refusal : Recording → ℕ → ℕ
joined_refusal R c = or_else (recording_refusal R) (controller_refusal R.controllers c)
