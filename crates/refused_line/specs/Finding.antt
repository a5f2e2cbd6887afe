-- The refused line of an input: of which text it is, and its number there.
use Rattle.std.specs.Prelude.{ℕ, List, eqb, ltb, length, Option, Some, None}
use Rattle.definitions.specs.Limits.{accepted, max_input_bytes}
use Rattle.definitions.specs.Bounded.{pick}
use Rattle.definitions.specs.RecordingText.{Part, joint_number, joint_part}
use Rattle.definitions.specs.Program.{rule_text_in, recording_text_in}
use Rattle.joint_reading.specs.declared.scan.Text.{Text}
use Rattle.joint_reading.specs.declared.scan.Text.TheVariants as text
use Rattle.refused_line.specs.Numbering.{line_number}
use Rattle.refused_line.specs.declared.Line.{Line}

-- the line that begins at a byte of a text
abbrev pub line_at : Text → ℕ → List ℕ → Line
line_at of from bytes = record { text = of; number = line_number from bytes }

-- the line with which a part begins
unfoldable pub part_line : List ℕ → List ℕ → Part → Line
part_line rule recording p = pick p.of_rule (line_at text.Rule p.from rule) (line_at text.Recording p.from recording)

-- the line of the part that the joint reading hands back of two texts, where it refuses them
unfoldable pub texts_line : List ℕ → List ℕ → Option Line
texts_line rule recording = pick (eqb (joint_number rule recording) accepted) None (Some (part_line rule recording (joint_part rule recording)))

-- that of the input's two texts; an input over 16,384 bytes has no refused line
unfoldable pub input_line : List ℕ → Option Line
input_line input = pick (ltb max_input_bytes (length input)) None (texts_line (rule_text_in input) (recording_text_in input))
