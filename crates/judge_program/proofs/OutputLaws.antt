-- Laws of the program: the texts of the input are read and judged; an input that is too long, and one that is split into its two texts.
use mathlib.Core.Path.{◌≡◌, ap, ap₂}
use mathlib.Core.List.{List, []}
use Prim.Native.Nat.{ℕ, ◌<◌, ◌≤◌}
use native.Mathlib.Omega.{arith}
use lib.ListN.{length}
use borrow.Author.Rules.{rules}
use borrow.Author.Tests.{ne_eqb, eq-eqb, lt-ltb, le-ltb}
use Rattle.definitions.specs.Limits.{max_input_bytes}
use Rattle.definitions.specs.Bounded.{pick}
use Rattle.definitions.specs.Tables.{Rule}
use Rattle.definitions.specs.Recordings.{Recording}
use Rattle.definitions.specs.RecordingText.{joint_number}
use Rattle.definitions.specs.Program.{refused_text, texts_output, program_output}
use Rattle.rules.specs.Handed.{rule_in}
use Rattle.rules.specs.declared.refusal.Refusal.TheVariants.{InputLong}
use Rattle.recordings.specs.Heading.{recording_in}
use Rattle.printing.specs.Printing.{Printed, OutputIs}
use Rattle.printing.proofs.LineLaws.{printed_all}
use Rattle.program_input.specs.Splitting.{SplitIs}
use Rattle.program_input.specs.declared.Parts.{Parts}
use Rattle.program_input.proofs.SplitLaws.{texts_fit}
use Rattle.report.proofs.ReportLaws.{refused_length}
use Rattle.report.specs.Reporting.{max_output_bytes, report_text}
use Rattle.report.specs.Judged.{judged_of, JudgedReady, ReportIs}
use Rattle.report.specs.declared.Report.{Report}
use Rattle.report.specs.ReadTables.{TextsRoom, AcceptedTexts, RefusedTexts}
use Rattle.report.specs.declared.read.Read.{Read}

-- ---- `put_judged`
module _ (r : Rule) (R : Recording) (v : Report) (is : ReportIs r R v) (text : List ℕ) where
  pub report_room : JudgedReady r R text → length (report_text v) ≤ length text
  report_room ready = omega (arith, is.fits, ready.room)

  -- `put_judged`: the report printed is `judged_of`
  pub report_printed : (end : ℕ) (text' : List ℕ) → Printed (report_text v) text 0 end text' → Printed (judged_of r R) text 0 end text'
  report_printed end text' p = rw (← is.text) p

pub ruleset judged_laws = (rules, report_room, report_printed)

-- ---- `judge_texts`
module _ (x y text : List ℕ) where
  -- `judge_texts`, refused: what `read_tables` printed is `texts_output`
  pub refused_printed : (end : ℕ) (text' : List ℕ) → RefusedTexts x y text end text' → Printed (texts_output x y) text 0 end text'
  unfolding texts_output pick
  refused_printed end text' f = rw (ne_eqb (joint_number x y) 0 f.refused) f.printed

  module _ (r : Read) (text' : List ℕ) (tables : AcceptedTexts x y text r text') where
    pub judged_ready : TextsRoom x y text → JudgedReady (rule_in r.rule) (recording_in r.recording) text'
    judged_ready room = record { accepted = tables.both; room = omega (arith, room.text_room, ap length tables.unprinted) }

    -- `judge_texts`, accepted: what is printed of the tables, `judged_of`, is `texts_output`
    pub judged_printed : (end : ℕ) (text'' : List ℕ) → Printed (judged_of (rule_in r.rule) (recording_in r.recording)) text' 0 end text'' →
        Printed (texts_output x y) text 0 end text''
    unfolding texts_output pick
    judged_printed end text'' p =
        rw (eq-eqb (joint_number x y) 0 tables.accepts, ← ap₂ judged_of tables.rule_is tables.recording_is, ← tables.unprinted) p

pub ruleset texts_laws = (rules, refused_printed, judged_ready, judged_printed)

-- ---- `judge`
module _ (input output : List ℕ) (full : length output ≡ max_output_bytes) where
  pub long_room : length (refused_text 14 []) ≤ length output
  long_room = omega (arith, refused_length InputLong [] (omega arith))

  -- `judge`, 14: `program_output` of an input too long is its refusal, with no line
  pub long_printed : max_input_bytes < length input → (r : ℕ) (output' : List ℕ) → Printed (refused_text 14 []) output 0 r output' → OutputIs (program_output input) output r output'
  unfolding program_output pick
  long_printed h r output' p = rw (lt-ltb max_input_bytes (length input) h) (printed_all (refused_text 14 []) output r output' p)

  module _ (short : length input ≤ max_input_bytes) (p : Parts) (is : SplitIs input p) where
    pub texts_room : TextsRoom p.rule.now p.recording.now output
    texts_room = let fit = texts_fit input p is short in record { rule_fits = fit.rule_fits; recording_fits = fit.recording_fits; text_room = omega arith }

    -- `judge`, the input is split: `program_output` is `texts_output` of its two texts
    pub texts_printed : (r : ℕ) (output' : List ℕ) → Printed (texts_output p.rule.now p.recording.now) output 0 r output' → OutputIs (program_output input) output r output'
    unfolding program_output pick
    texts_printed r output' printed =
        rw (le-ltb max_input_bytes (length input) short, ← is.rule, ← is.recording) (printed_all _ output r output' printed)

pub ruleset judge_laws = (rules, long_room, long_printed, texts_room, texts_printed)
