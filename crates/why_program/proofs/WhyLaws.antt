-- Laws of the program: the texts of the input are read, and their refusal or the verdict and what is behind it are printed.
use mathlib.Core.Path.{◌≡◌, ap, ap₂, sym, ◌∙◌}
use mathlib.Core.Bool.{Bool, true, false}
use mathlib.Core.List.{List, []}
use Prim.Native.Nat.{ℕ, ◌<◌, ◌≤◌}
use native.Mathlib.Omega.{arith}
use lib.ListN.{length, length-take}
use borrow.Author.Rules.{rules}
use borrow.Author.Tests.{ne_eqb, eq-eqb, lt-ltb, le-ltb}
use Rattle.std.specs.Prelude.{Result, Ok, Err}
use Rattle.definitions.specs.Limits.{max_input_bytes, input_long, rule_form}
use Rattle.definitions.specs.Bounded.{pick}
use Rattle.definitions.specs.RecordingText.{joint_number}
use Rattle.definitions.specs.Lines.{line_length}
use Rattle.definitions.specs.Program.{rule_text_in, recording_text_in, refused_text}
use Rattle.definitions.specs.Why.{asks, why_texts, why_output}
use Rattle.theorems.proofs.Choice.{by_test}
use Rattle.theorems.proofs.InputSplit.{rest_length}
use Rattle.printing.specs.Printing.{Printed, OutputIs}
use Rattle.printing.proofs.LineLaws.{printed_all}
use Rattle.rules.specs.Handed.{rule_in}
use Rattle.rules.specs.declared.refusal.Refusal.TheVariants.{InputLong, RuleForm}
use Rattle.recordings.specs.Heading.{recording_in}
use Rattle.report.proofs.ReportLaws.{refused_length}
use Rattle.report.specs.ReadTables.{AcceptedTexts, RefusedTexts}
use Rattle.report.specs.declared.read.Read.{Read}
use Rattle.program_input.specs.Splitting.{SplitIs}
use Rattle.program_input.specs.Asking.{asked_in}
use Rattle.program_input.specs.declared.Parts.{Parts}
use Rattle.program_input.proofs.SplitLaws.{texts_fit}
use Rattle.evidence_text.specs.Behind.{behind_of, BehindReady}
use Rattle.why_program.specs.Output.{max_why_bytes, WhyRoom, InputRoom}

-- ---- `why_texts`
module _ (x y text : List ℕ) where
  -- `why_texts`, refused: what `read_tables` printed is `why_texts`
  pub refused_printed : (weak : Bool) (end : ℕ) (text' : List ℕ) → RefusedTexts x y text end text' → Printed (why_texts weak x y) text 0 end text'
  unfolding why_texts pick
  refused_printed weak end text' f = rw (ne_eqb (joint_number x y) 0 f.refused) f.printed

  module _ (r : Read) (text' : List ℕ) (tables : AcceptedTexts x y text r text') where
    pub behind_ready : WhyRoom x y text → BehindReady (rule_in r.rule) (recording_in r.recording) text'
    behind_ready room = record { accepted = tables.both; room = omega (arith, room.room, ap length tables.unprinted) }

    -- `why_texts`, accepted: what is behind the verdict, `behind_of`, is `why_texts`
    pub behind_printed : (weak : Bool) (end : ℕ) (text'' : List ℕ) → Printed (behind_of weak (rule_in r.rule) (recording_in r.recording)) text' 0 end text'' →
        Printed (why_texts weak x y) text 0 end text''
    unfolding why_texts pick
    behind_printed weak end text'' p =
        rw (eq-eqb (joint_number x y) 0 tables.accepts, ← ap₂ (behind_of weak) tables.rule_is tables.recording_is, ← tables.unprinted) p

pub ruleset texts_laws = (rules, refused_printed, behind_ready, behind_printed)

-- ---- `why_asked`
module _ (input text : List ℕ) (room : InputRoom input text) (p : Parts) (is : SplitIs input p) where
  pub asked_room : WhyRoom p.rule.now p.recording.now text
  asked_room = record {
    texts =
        let fit = texts_fit input p is room.fits in
        record { rule_fits = fit.rule_fits; recording_fits = fit.recording_fits; text_room = omega (arith, room.room) };
    room = room.room;
  }

  -- `why_asked`: `why_texts` of the two parts is that of `rule_text_in` and `recording_text_in`
  pub asked_printed : (weak : Bool) (e : ℕ) (text' : List ℕ) → Printed (why_texts weak p.rule.now p.recording.now) text 0 e text' →
      Printed (why_texts weak (rule_text_in input) (recording_text_in input)) text 0 e text'
  asked_printed weak e text' printed = rw (← is.rule, ← is.recording) printed

pub ruleset split_laws = (rules, asked_room, asked_printed)

-- ---- what is printed by each answer
unfoldable answer_text : Result (Bool × List ℕ) (List ℕ) → List ℕ
answer_text (Ok (weak, texts)) = why_texts weak (rule_text_in texts) (recording_text_in texts)
answer_text (Err line) = refused_text rule_form line

by_answer : (input : List ℕ) → length input ≤ max_input_bytes → why_output input ≡ answer_text (asked_in input)
unfolding why_output asked_in answer_text pick
by_answer input short =
    rw (le-ltb max_input_bytes (length input) short)
    (by_test (asks true input) (λ t. rw t) (λ t. by_test (asks false input) (λ s. rw (t, s)) (λ s. rw (t, s))))

-- the part of the input that an answer hands on
abbrev handed : Result (Bool × List ℕ) (List ℕ) → List ℕ
handed (Ok (weak, texts)) = texts
handed (Err line) = line

handed_inside : (input : List ℕ) → length (handed (asked_in input)) ≤ length input
unfolding asked_in pick
handed_inside input =
    let after = rest_length input in
    by_test (asks true input) (λ t. rw t (omega (arith, after)))
    (λ t. by_test (asks false input) (λ s. rw (t, s) (omega (arith, after))) (λ s. rw (t, s) (omega (arith, length-take (line_length input) input))))

-- ---- `why`
module _ (input output : List ℕ) (full : length output ≡ max_why_bytes) where
  pub long_room : length (refused_text input_long []) ≤ length output
  long_room = omega (arith, refused_length InputLong [] (omega arith))

  -- `why`, 14: `why_output` of an input too long is its refusal, with no line
  pub long_printed : max_input_bytes < length input → (r : ℕ) (output' : List ℕ) → Printed (refused_text input_long []) output 0 r output' →
      OutputIs (why_output input) output r output'
  unfolding why_output pick
  long_printed h r output' p = rw (lt-ltb max_input_bytes (length input) h) (printed_all (refused_text input_long []) output r output' p)

  module _ (short : length input ≤ max_input_bytes) where
    module _ (weak : Bool) (texts : List ℕ) (e : Ok (weak, texts) ≡ asked_in input) where
      pub reading_room : InputRoom texts output
      reading_room = record { fits = omega (arith, handed_inside input, ap (λ a. length (handed a)) e); room = omega arith }

      -- `why`, a reading is asked for: `why_output` is `why_texts` of the input behind the first line
      pub reading_printed : (r : ℕ) (output' : List ℕ) → Printed (why_texts weak (rule_text_in texts) (recording_text_in texts)) output 0 r output' →
          OutputIs (why_output input) output r output'
      unfolding answer_text
      reading_printed r output' p = rw (by_answer input short ∙ ap answer_text (sym e)) (printed_all _ output r output' p)

    module _ (line : List ℕ) (e : Err line ≡ asked_in input) where
      pub nothing_room : length (refused_text rule_form line) ≤ length output
      nothing_room = omega (arith, refused_length RuleForm line (omega (arith, handed_inside input, ap (λ a. length (handed a)) e)))

      -- `why`, nothing is asked for: `why_output` is the refusal of the first line by its form
      pub nothing_printed : (r : ℕ) (output' : List ℕ) → Printed (refused_text rule_form line) output 0 r output' → OutputIs (why_output input) output r output'
      unfolding answer_text
      nothing_printed r output' p = rw (by_answer input short ∙ ap answer_text (sym e)) (printed_all _ output r output' p)

pub ruleset why_laws = (rules, long_room, long_printed, reading_room, reading_printed, nothing_room, nothing_printed)
