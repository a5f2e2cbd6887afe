-- What is printed of values, line by line.
use Rattle.std.specs.Prelude.{ℕ, ◌+◌, ◌≤◌, Bool, List, ◌∷◌, ◌++◌, length, eqb}
use Rattle.std.specs.List.{starts_with}
use Rattle.definitions.specs.Limits.{max_input_bytes}
use Rattle.definitions.specs.Lines.{tab}
use Rattle.definitions.specs.Program.{refused_word, own_word, plain_word, short_word, local_text, verdicts_text}
use Rattle.printing.specs.Printing.{counted_line}
use Rattle.judges.specs.Verdicts.{meant}
use Rattle.judges.specs.declared.verdicts.Verdicts.{Verdicts}
use Rattle.rewritten_judge.specs.declared.Rewritten.{Rewritten}
use Rattle.report.specs.declared.Report.{Report}

-- the longest output: the word `refused`, a number of two digits, two tabs, byte 10 and a line that is all of the longest input
abbrev pub max_output_bytes : ℕ
max_output_bytes = max_input_bytes + 12

-- the verdicts that end a line, after a tab
unfoldable pub verdicts_end : Verdicts → List ℕ
verdicts_end v = tab ∷ verdicts_text (meant v)

-- "`own yes no`"
unfoldable pub own_line : Verdicts → List ℕ
own_line own = own_word ++ verdicts_end own

-- "`plain 55 yes no`", and so for `short`
unfoldable pub rewritten_line : List ℕ → Rewritten → List ℕ
rewritten_line word r = counted_line word r.count (verdicts_end r.verdicts)

-- the four lines
unfoldable pub report_text : Report → List ℕ
report_text r = local_text r.places ++ (own_line r.own ++ (rewritten_line plain_word r.plain ++ rewritten_line short_word r.short))

-- a refusal is what was printed: its first bytes are the word `refused`
abbrev pub is_refused : List ℕ → Bool
is_refused printed = starts_with eqb printed refused_word

-- a line of a text begins at a byte, and there is space for its refusal
pub record LineRoom (text : List ℕ) (at : ℕ) (output : List ℕ) : Type 0 where
  pub inside : at ≤ length text
  pub fits : length text ≤ max_input_bytes
  pub room : max_output_bytes ≤ length output
