-- Trials of "Lines from the other system": bytes 13 and 10 at the line end, and byte 13 anywhere else.
use mathlib.Core.Path.{◌≡◌, refl}
use Prim.Native.Nat.{ℕ}
use Prim.Native.String.{String}
use mathlib.Core.List.{List, [], ◌++◌}
use lib.ListN.{replicate}
use Rattle.definitions.specs.Bounded.{pick}
use Rattle.definitions.specs.Lines.{bytes, with_newlines, digits, digits_by}
use Rattle.definitions.specs.RuleText.{RuleScan, scan_rule, rule_text}
use Rattle.definitions.specs.RecordingText.{joint_part}
use Rattle.definitions.specs.Program.{bytes_of, rule_text_in, recording_text_in, refused_text, texts_output, program_output}
use Rattle.definitions.proofs.Samples.{computed}

-- what the program prints of an input
abbrev prints : String → List ℕ
prints input = program_output (bytes input)

-- the line that the joint reading hands back of a rule text without a recording text
abbrev handed : List ℕ → List ℕ
handed text = bytes_of text [] (joint_part text [])

-- what is written of the rule that was read
abbrev written : RuleScan → List ℕ
written s = rule_text s.controller s.count s.words

-- what it prints of the rule `true` on the recording Z of document 01
abbrev judged_true : List ℕ
judged_true = bytes "local\t1\nown\tyes\tyes\nplain\t20\tyes\tyes\nshort\t12\tyes\tyes\n"

-- "The line reader must take either ending, line by line"
pub record EitherEnding : Type 0 where
  -- a rule, a recording and the split between them, with bytes 13 and 10 at some of their lines
  pub mixed : prints "rule\t0\t1\r\ntrue\n-\r\nrecording\t1\t1\nowns\t00000001\r\nat\t00\t00000000\n" ≡ judged_true
  pub otherwise_mixed : prints "rule\t0\t1\ntrue\r\n-\nrecording\t1\t1\r\nowns\t00000001\nat\t00\t00000000\r\n" ≡ judged_true
  -- the program's example, with bytes 13 and 10 at every line
  pub example : program_output (
      bytes "rule\t0\t9\r\natom\t1\r\nnot\t0\r\natom\t0\r\nnext\t2\r\nor\t1\t3\r\nnot\t4\r\ntrue\r\nuntil\t6\t5\r\nnot\t7\r\n-\r\n"
      ++ bytes "recording\t2\t5\r\nowns\t00000001\r\nowns\t00000002\r\nat\t01\t00000002\r\nat\t02\t00000003\r\nat\t01\t00000001\r\nat\t02\t00000000\r\nat\t00\t00000002\r\n"
      ) ≡ bytes "local\t3\nown\tyes\tno\nplain\t55\tyes\tno\nshort\t43\tyes\tno\n"
  -- "comes back with byte 10 at each line and otherwise unchanged"
  pub comes_back : written (scan_rule (bytes "rule\t0\t2\r\natom\t1\nnot\t0\r\n")) ≡ bytes "rule\t0\t2\natom\t1\nnot\t0\n"
  -- each byte 13 right before a byte 10 is left out, and no other
  pub made_newlines : with_newlines (bytes "a\r\nb\n\r\r\nc\rd\r") ≡ bytes "a\nb\n\r\nc\rd\r"

either_ending : EitherEnding
unfolding computed
either_ending = record { mixed = refl; otherwise_mixed = refl; example = refl; comes_back = refl; made_newlines = refl }

-- bytes 13 13 10 end a line by their last two, and made 13 10 they end the line before them: such a text isn't read as it is with byte 10 at each line
pub record Unsettled : Type 0 where
  pub again : with_newlines (with_newlines (bytes "x\r\r\n")) ≡ bytes "x\n"
  pub handed_back : handed (bytes "x\r\r\n") ≡ bytes "x\r"
  pub handed_back_renewed : handed (with_newlines (bytes "x\r\r\n")) ≡ bytes "x"

unsettled : Unsettled
unfolding computed
unsettled = record { again = refl; handed_back = refl; handed_back_renewed = refl }

-- the line `-` with an ending, and 16,382 bytes after it
abbrev filled : String → List ℕ
filled line = bytes line ++ replicate 16382 120

-- "14 over 16,384 bytes": the bytes as they came, so 13 10 are two; as many with the one ending are read, with the other there is one more
pub record CountedBytes : Type 0 where
  pub newline : program_output (filled "-\n") ≡ texts_output (rule_text_in (filled "-\n")) (recording_text_in (filled "-\n"))
  pub returned : program_output (filled "-\r\n") ≡ bytes "refused\t14\t\n"

counted_bytes : CountedBytes
unfolding program_output refused_text digits digits_by pick
counted_bytes = record { newline = refl; returned = refl }

-- "The line that it hands back leaves out its ending. A byte 13 anywhere else still makes the line malformed"
pub record ReturnsElsewhere : Type 0 where
  pub without_ending : prints "rule\t0\t1\r\nnot\t0\r\n-\r\n" ≡ bytes "refused\t3\tnot\t0\n"
  pub twice : prints "rule\t0\t1\r\r\ntrue\n" ≡ bytes "refused\t1\trule\t0\t1\r\n"
  pub inside : prints "rule\r\t0\t1\ntrue\n" ≡ bytes "refused\t1\trule\r\t0\t1\n"
  pub alone : prints "rule\t0\t1\rtrue\n" ≡ bytes "refused\t1\trule\t0\t1\rtrue\n"
  -- an unclosed line is "all that is left"
  pub unclosed : prints "rule\t0\t1\ntrue\r" ≡ bytes "refused\t1\ttrue\r\n"
  -- "for a line too many the first extra one", closed and not
  pub extra : prints "rule\t0\t1\ntrue\nx\r\n" ≡ bytes "refused\t4\tx\n"
  pub unclosed_extra : prints "rule\t0\t1\ntrue\nx\r" ≡ bytes "refused\t4\tx\r\n"
  pub twice_in_recording : prints "rule\t0\t1\ntrue\n-\nrecording\t1\t1\r\nowns\t00000001\r\r\n" ≡ bytes "refused\t5\towns\t00000001\r\n"
  -- "after an unknown kind word any fields without byte 13 do"
  pub unknown_kind : prints "rule\t0\t1\nfoo\t1\r\n" ≡ bytes "refused\t2\tfoo\t1\n"
  pub unknown_kind_twice : prints "rule\t0\t1\nfoo\t1\r\r\n" ≡ bytes "refused\t1\tfoo\t1\r\n"
  -- "for 11 the rule's first line"
  pub joining : prints "rule\t1\t1\r\ntrue\n-\nrecording\t1\t1\nowns\t00000001\nat\t00\t00000000\n" ≡ bytes "refused\t11\trule\t1\t1\n"
  -- "the program's split at `-` included": such a line splits, and neither of these does
  pub split : prints "rule\t0\t1\ntrue\n-\r\n" ≡ bytes "refused\t8\t\n"
  pub split_unclosed : prints "rule\t0\t1\ntrue\n-\r" ≡ bytes "refused\t4\t-\r\n"
  pub split_twice : prints "rule\t0\t1\ntrue\n-\r\r\n" ≡ bytes "refused\t4\t-\r\n"

returns_elsewhere : ReturnsElsewhere
unfolding computed
returns_elsewhere = record {
  without_ending = refl;
  twice = refl;
  inside = refl;
  alone = refl;
  unclosed = refl;
  extra = refl;
  unclosed_extra = refl;
  twice_in_recording = refl;
  unknown_kind = refl;
  unknown_kind_twice = refl;
  joining = refl;
  split = refl;
  split_unclosed = refl;
  split_twice = refl;
}
