-- What either program prints.
use Rattle.std.specs.Prelude.{ℕ, ◌-◌, Bool, List, length, eqb, ltb, Option, Some, None}
use Rattle.definitions.specs.Limits.{accepted, max_input_bytes}
use Rattle.definitions.specs.Bounded.{pick}
use Rattle.definitions.specs.ArchivePrograms.{read_output, text_output}
use Rattle.joint_reading.specs.declared.scan.Text.TheVariants as text
use Rattle.refused_line.specs.Finding.{line_at}
use Rattle.refused_line.specs.declared.Line.{Line}
use Rattle.archives.specs.Reading.{scan_text}
use Rattle.archives.specs.Writing.{text_from}

-- the other text, or what is printed of a refusal
unfoldable pub convert_output : (back : Bool) (input : List ℕ) → List ℕ
convert_output back input = text_output input (read_output (text_from back) (scan_text back input))

-- the refused line of the text; an accepted text, and one over 16,384 bytes, has none
unfoldable pub text_line : (back : Bool) (input : List ℕ) → Option Line
text_line back input =
    pick (ltb max_input_bytes (length input)) None
    (pick (eqb (scan_text back input).number accepted) None (Some (line_at text.Recording (length input - length (scan_text back input).rest) input)))
