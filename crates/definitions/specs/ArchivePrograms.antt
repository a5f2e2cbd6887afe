-- The programs `archive` and `unarchive`: from the bytes of standard input, one text, to the other text, or to what is printed of a refusal.
use Rattle.std.specs.Prelude.{ℕ, List, [], length, eqb, ltb}
use Rattle.definitions.specs.Limits.{accepted, max_input_bytes, input_long}
use Rattle.definitions.specs.Bounded.{pick}
use Rattle.definitions.specs.Lines.{line_of}
use Rattle.definitions.specs.RecordingText.{RecordingScan, scan_plain}
use Rattle.definitions.specs.Archive.{archive_of, recording_from, scan_archive}
use Rattle.definitions.specs.Program.{refused_text}

-- the text that is written of what was read, or its number and "the refused line itself"; where the output rule is broken after all lines, the empty end
unfoldable pub read_output : (write : RecordingScan → List ℕ) (s : RecordingScan) → List ℕ
read_output write s = pick (eqb s.number accepted) (write s) (refused_text s.number (line_of s.rest))

-- "14 over 16,384 bytes"; for it "an empty line field"
unfoldable pub text_output : (input output : List ℕ) → List ℕ
text_output input output = pick (ltb max_input_bytes (length input)) (refused_text input_long []) output

-- the program `archive`
unfoldable pub archive_output : (input : List ℕ) → List ℕ
archive_output input = text_output input (read_output archive_of (scan_plain input))

-- the program `unarchive`
unfoldable pub unarchive_output : (input : List ℕ) → List ℕ
unarchive_output input = text_output input (read_output recording_from (scan_archive input))
