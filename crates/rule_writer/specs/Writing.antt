-- What the writer of a rule text answers, and what it leaves in lent space.
use Rattle.std.specs.Prelude.{◌≡◌, ℕ, ◌+◌, List, [], ◌∷◌, ◌++◌, length, Result}
use Rattle.definitions.specs.Tables.{Rule}
use Rattle.definitions.specs.Lines.{tab, newline, digits}
use Rattle.definitions.specs.RuleText.{rule_word}
use Rattle.definitions.specs.Operations.{Answer, write_rule_answer, write_rule_text}
use Rattle.rules.specs.Answers.{answer_of}
use Rattle.rules.specs.declared.refusal.Refusal.{Refusal}

-- the first line, with byte 10
unfoldable pub heading_line : ℕ → ℕ → List ℕ
heading_line controller count = rule_word ++ ((tab ∷ digits controller) ++ ((tab ∷ digits count) ++ (newline ∷ [])))

-- how many bytes that is: the word, two fields, each after its tab, and byte 10
abbrev pub heading_size : ℕ → ℕ → ℕ
heading_size controller count = length rule_word + length (tab ∷ digits controller) + length (tab ∷ digits count) + 1

-- "write one (length, text)": the number and the values of each case
abbrev pub write_answer : Result ℕ Refusal → Answer
write_answer = answer_of (λ n. n ∷ [])

-- the whole answer, and all of the lent text
pub record WroteRule (rule : Rule) (entry : List ℕ) (r : Result ℕ Refusal) (exit : List ℕ) : Type 0 where
  pub answered : write_answer r ≡ write_rule_answer rule entry
  pub text : exit ≡ write_rule_text rule entry
