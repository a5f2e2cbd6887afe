-- Laws of both programs: one for each return, and for what each call asks.
use mathlib.Core.Path.{◌≡◌, ap, sym}
use mathlib.Core.Bool.{Bool, true, false}
use mathlib.Core.List.{List, []}
use Prim.Native.Nat.{ℕ, ◌-◌, ◌<◌, ◌≤◌}
use native.Mathlib.Omega.{arith}
use lib.ListN.{length, take, drop, length-drop}
use lib.Dec.{eqb, ltb}
use borrow.Author.Rules.{rules}
use borrow.Author.Tests.{lt-ltb, le-ltb, eq-eqb, ne_eqb}
use Rattle.std.specs.Prelude.{Some, None}
use Rattle.definitions.specs.Limits.{accepted, input_long, max_input_bytes}
use Rattle.definitions.specs.Bounded.{pick}
use Rattle.definitions.specs.Lines.{line_of}
use Rattle.definitions.specs.Recordings.{Recording, recording_of}
use Rattle.definitions.specs.Program.{refused_text}
use Rattle.definitions.specs.ArchivePrograms.{read_output, text_output, archive_output, unarchive_output}
use Rattle.theorems.proofs.Choice.{pick_true, pick_false}
use Rattle.rules.specs.Refusals.{number_of}
use Rattle.rules.specs.declared.refusal.Refusal.TheVariants.{InputLong}
use Rattle.rules.proofs.RefusalLaws.{number_some}
use Rattle.lines.specs.declared.Stop.{Stop}
use Rattle.printing.specs.Printing.{Printed, OutputIs}
use Rattle.printing.proofs.LineLaws.{printed_all}
use Rattle.joint_reading.specs.declared.scan.Text.TheVariants as text
use Rattle.recordings.specs.declared.heading.RecordingHeading.{RecordingHeading}
use Rattle.refused_line.specs.Numbering.{line_number, LineStart}
use Rattle.report.specs.Reporting.{max_output_bytes, LineRoom}
use Rattle.report.proofs.ReportLaws.{refused_length}
use Rattle.archives.specs.Reading.{scan_text, TextRead, TextStopped}
use Rattle.archives.specs.Writing.{text_of, text_from, WriteRoom}
use Rattle.archives.proofs.ConvertLaws.{local_room, read_write_room, read_written, read_masks_counts, read_states_counts}
use Rattle.archive_programs.specs.Converting.{convert_output, text_line}

-- ---- `convert`
module _ (back : Bool) (input o : List ℕ) (full : length o ≡ max_output_bytes) where
  module _ (h : max_input_bytes < length input) where
    pub long_room : length (refused_text (number_of InputLong) []) ≤ length o
    long_room = omega (arith, refused_length InputLong [] (omega arith))

    -- `convert`, an input that is too long: `convert_output` is 14 and an empty line field
    pub long_printed : (e : ℕ) (o' : List ℕ) → Printed (refused_text (number_of InputLong) []) o 0 e o' → OutputIs (convert_output back input) o e o'
    unfolding convert_output text_output
    long_printed e o' p =
        let s = pick_true (ltb max_input_bytes (length input)) (refused_text input_long []) (read_output (text_from back) (scan_text back input)) (lt-ltb max_input_bytes (length input) h) in
        rw s (printed_all (refused_text input_long []) o e o' p)

  module _ (h : length input ≤ max_input_bytes) where
    read_is : convert_output back input ≡ read_output (text_from back) (scan_text back input)
    unfolding convert_output text_output
    read_is = pick_false (ltb max_input_bytes (length input)) (refused_text input_long []) (read_output (text_from back) (scan_text back input)) (le-ltb max_input_bytes (length input) h)

    module _ (stop : Stop) (s : TextStopped (scan_text back input) input stop) where
      pub stopped_room : LineRoom input stop.at o
      stopped_room = record { inside = s.inside; fits = h; room = omega arith }

      -- `convert`, a refusal: `convert_output` is its number and line
      pub stopped_printed : (e : ℕ) (o' : List ℕ) → Printed (refused_text (number_of stop.refusal) (line_of (drop stop.at input))) o 0 e o'
          → OutputIs (convert_output back input) o e o'
      unfolding read_output
      stopped_printed e o' p =
          let q : read_output (text_from back) (scan_text back input) ≡ refused_text (number_of stop.refusal) (line_of (drop stop.at input))
          = rw (← s.number, ← s.rest) (pick_false (eqb (number_of stop.refusal) accepted) _ _ (ne_eqb (number_of stop.refusal) 0 (number_some stop.refusal))) in
          rw (read_is, q) (printed_all _ o e o' p)

    module _ (heading : RecordingHeading) (masks states : List ℕ) (s : TextRead (scan_text back input) heading masks states) where
      abbrev R : Recording
      R = recording_of heading.controllers heading.count (take heading.controllers masks) (take heading.count states)

      pub text_room_lem : WriteRoom back R o
      text_room_lem = read_write_room back input heading masks states s o (omega arith)

      -- `convert`, accepted: `convert_output` is the other text
      pub text_printed : (e : ℕ) (o' : List ℕ) → Printed (text_of back R) o 0 e o' → OutputIs (convert_output back input) o e o'
      unfolding read_output
      text_printed e o' p =
          let q : read_output (text_from back) (scan_text back input) ≡ text_from back (scan_text back input)
          = pick_true (eqb (scan_text back input).number accepted) _ _ (eq-eqb (scan_text back input).number 0 (sym s.number)) in
          rw (read_is, q) (printed_all _ o e o' (read_written back input heading masks states s o e o' p))

pub ruleset convert_laws = (rules, local_room, long_room, long_printed, stopped_room, stopped_printed, text_room_lem, text_printed, read_masks_counts, read_states_counts)

-- ---- `print_archive`, `print_recording`
-- `print_archive`: there, `convert_output` is `archive_output`
pub archive_printed : (input o : List ℕ) (r : ℕ) (o' : List ℕ) → OutputIs (convert_output false input) o r o' → OutputIs (archive_output input) o r o'
unfolding convert_output archive_output read_output scan_text text_of pick
archive_printed input o r o' p = p

-- `print_recording`: back, `convert_output` is `unarchive_output`
pub recording_printed : (input o : List ℕ) (r : ℕ) (o' : List ℕ) → OutputIs (convert_output true input) o r o' → OutputIs (unarchive_output input) o r o'
unfolding convert_output unarchive_output read_output scan_text text_of pick
recording_printed input o r o' p = p

-- ---- `find_line`
module _ (back : Bool) (input : List ℕ) where
  -- `find_line`, an input that is too long: it has no refused line
  pub found_long : max_input_bytes < length input → None ≡ text_line back input
  unfolding text_line pick
  found_long h = rw (lt-ltb max_input_bytes (length input) h)

  module _ (h : length input ≤ max_input_bytes) where
    -- `find_line`, accepted: it has no refused line
    pub found_none : (heading : RecordingHeading) (masks states : List ℕ) → TextRead (scan_text back input) heading masks states → None ≡ text_line back input
    unfolding text_line pick
    found_none heading masks states s = rw (le-ltb max_input_bytes (length input) h, eq-eqb (scan_text back input).number 0 (sym s.number))

    module _ (stop : Stop) (s : TextStopped (scan_text back input) input stop) where
      pub found_start : LineStart stop.at input
      found_start = record { inside = s.inside; small = h }

      -- `find_line`, a refusal: `text_line` is the line that begins at its place
      pub found_line : (n : ℕ) → n ≡ line_number stop.at input → Some (record { text = text.Recording; number = n }) ≡ text_line back input
      unfolding text_line pick
      found_line n e =
          let p : length input - length (scan_text back input).rest ≡ stop.at = omega (arith, ap length s.rest, length-drop stop.at input, s.inside) in
          rw (le-ltb max_input_bytes (length input) h, ← s.number, ne_eqb (number_of stop.refusal) 0 (number_some stop.refusal), p, e)

pub ruleset found_laws = (rules, local_room, found_long, found_none, found_start, found_line)
