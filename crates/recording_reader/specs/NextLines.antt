-- What the code answers of the next line of a recording text.
use Rattle.std.specs.Prelude.{ℕ, List}
use Rattle.definitions.specs.Limits.{recording_form, recording_lines}
use Rattle.definitions.specs.Lines.{Heading, NextLine, next_line}
use Rattle.definitions.specs.RecordingText.{mask_form}
use Rattle.recordings.specs.Unions.{union_refusal}
use Rattle.recordings.specs.declared.heading.RecordingHeading.{RecordingHeading}

-- C and N of the first line
abbrev pub heading_of : Heading → RecordingHeading
heading_of h = record { controllers = h.first; count = h.second }

-- the next line, as an `owns` line, by the union of the earlier masks
abbrev pub seen_line : (seen : ℕ) → List ℕ → NextLine ℕ
seen_line seen t = next_line recording_lines recording_form mask_form (union_refusal seen) t
