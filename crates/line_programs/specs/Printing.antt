-- The only line of an input, and what is printed into an output.
use Rattle.std.specs.Prelude.{◌≡◌, ℕ, ◌-◌, ◌≤◌, List, ◌++◌, length, replicate, Result, Ok, Err, IfOk, IfErr}
use Rattle.std.specs.Borrow.{Bor}
use Rattle.definitions.specs.Limits.{accepted, max_rule_bytes}
use Rattle.definitions.specs.Lines.{line_of}
use Rattle.definitions.specs.LinePrograms.{input_refusal, refusal_text}
use Rattle.rules.specs.Refusals.{number_of}
use Rattle.rules.specs.declared.refusal.Refusal.{Refusal}
use Rattle.line_programs.specs.declared.input.RefusedInput.{RefusedInput}

-- the number of the refusal of an input, or `accepted`
abbrev pub only_number : Result (Bor (List ℕ)) RefusedInput → ℕ
only_number (Ok line) = accepted
only_number (Err refused) = number_of refused.refusal

-- the first line, whether the input is refused or not
abbrev pub first_of : Result (Bor (List ℕ)) RefusedInput → Bor (List ℕ)
first_of (Ok line) = line
first_of (Err refused) = refused.line

-- how the input is refused, and its first line
pub record OnlyLineOf (input : List ℕ) (r : Result (Bor (List ℕ)) RefusedInput) : Type 0 where
  pub number : only_number r ≡ input_refusal input
  pub line : (first_of r).now ≡ line_of input

-- all of the output: the printed bytes from the first on, and zeros; r is their count
pub record Prints (printed : List ℕ) (r : ℕ) (output : List ℕ) : Type 0 where
  pub count : r ≡ length printed
  pub whole : output ≡ printed ++ replicate (max_rule_bytes - length printed) 0
  pub within : r ≤ length output

-- what is to be printed: a text that was written into the output, or a refusal
pub record Written (printed : List ℕ) (r : Result ℕ Refusal) (output : List ℕ) : Type 0 where
  pub text : IfOk r (λ end. Prints printed end output)
  pub refusal : IfErr r (λ e. printed ≡ refusal_text (number_of e))
