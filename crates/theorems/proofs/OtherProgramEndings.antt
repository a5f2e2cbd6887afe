-- The programs `rule`, `longest` and `why` print the same of an input and of the same input with byte 10 at each line.
use mathlib.Core.Path.{◌≡◌}
use mathlib.Core.Bool.{Bool, true, false}
use mathlib.Core.List.{List}
use Prim.Native.Nat.{ℕ, ◌≤◌}
use native.Mathlib.Omega.{arith}
use lib.ListN.{length}
use borrow.Author.Tests.{le-ltb}
use Rattle.definitions.specs.Limits.{max_input_bytes}
use Rattle.definitions.specs.Lines.{rest_at, rest_of, with_newlines}
use Rattle.definitions.specs.LinePrograms.{input_refusal}
use Rattle.definitions.specs.OneLine.{rule_output}
use Rattle.definitions.specs.Longest.{longest_output}
use Rattle.definitions.specs.Program.{rule_text_in, recording_text_in}
use Rattle.definitions.specs.Why.{why_texts, why_output}
use Rattle.theorems.proofs.EndingLaws.{with_short}
use Rattle.theorems.proofs.EndingReadings.{Settled, settled_drop, closed_same, empty_same, rest_same, line_same, rule_same, recording_same, joint_same, bytes_same}
use Rattle.theorems.proofs.ProgramEndings.{rule_split, recording_split, rule_settled, recording_settled}

module _ (input : List ℕ) (p : Settled input) (h : length input ≤ max_input_bytes) where
  few : length (with_newlines input) ≤ max_input_bytes
  few = omega (arith, with_short input)

  -- ---- one line and its end
  refusal_same : input_refusal (with_newlines input) ≡ input_refusal input
  unfolding input_refusal
  refusal_same =
      rw (le-ltb max_input_bytes (length input) h, le-ltb max_input_bytes (length (with_newlines input)) few, closed_same input, rest_same input, empty_same (rest_of input))

  pub rule_program_same : rule_output (with_newlines input) ≡ rule_output input
  unfolding rule_output
  rule_program_same = rw (refusal_same, line_same input p)

  pub longest_program_same : longest_output (with_newlines input) ≡ longest_output input
  unfolding longest_output
  longest_program_same = rw (refusal_same, line_same input p)

-- ---- the line that asks for a reading, and the two texts after it
why_texts_same : (weak : Bool) (rule recording : List ℕ) → Settled rule → Settled recording → why_texts weak (with_newlines rule) (with_newlines recording) ≡ why_texts weak rule recording
unfolding why_texts
why_texts_same weak rule recording p q =
    rw (bytes_same rule recording p q, joint_same rule recording p q, rule_same rule p, recording_same recording q)

after_asking : (weak : Bool) (input : List ℕ) → Settled input
    → why_texts weak (rule_text_in (with_newlines input)) (recording_text_in (with_newlines input)) ≡ why_texts weak (rule_text_in input) (recording_text_in input)
after_asking weak input p =
    rw (rule_split input p, recording_split input p) (why_texts_same weak (rule_text_in input) (recording_text_in input) (rule_settled input p) (recording_settled input p))

pub why_program_same : (input : List ℕ) → Settled input → length input ≤ max_input_bytes → why_output (with_newlines input) ≡ why_output input
unfolding why_output
why_program_same input p h =
    let q = settled_drop (rest_at input) input p in
    rw (
      le-ltb max_input_bytes (length input) h,
      le-ltb max_input_bytes (length (with_newlines input)) (few input p h),
      closed_same input,
      line_same input p,
      rest_same input,
      after_asking true (rest_of input) q,
      after_asking false (rest_of input) q,
    )
