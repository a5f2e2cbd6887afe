-- An answer as C has it: the number is returned, and the values lie in an array of fixed length.
use Rattle.std.specs.Prelude.{Result, Bool, not, List, [], ◌∷◌, ◌++◌, ℕ, ◌-◌, eqb, length, replicate}
use Rattle.definitions.specs.Bounded.{pick}
use Rattle.definitions.specs.Operations.{Answer}
use Rattle.definitions.specs.RecordingText.{Part}
use Rattle.rules.specs.Answers.{answer_of}
use Rattle.images.specs.declared.Tops.{Tops}
use Rattle.rewriting.specs.Answers.{tops_values}
use Rattle.rules.specs.declared.refusal.Refusal.{Refusal}

-- the number, then the values, and zeros up to the width: a refusal "carries its number alone", so all of them are zero
unfoldable pub heading : ℕ → Answer → List ℕ
heading width a = a.number ∷ (a.values ++ replicate (width - length a.values) 0)

-- the query of a session: a first value 1, then weak and strong, or three zeros where no state is held, or on a refusal
unfoldable pub session_values : Answer → List ℕ
session_values a = a.number ∷ verdicts_in a.values
  where
    verdicts_in : List ℕ → List ℕ
    verdicts_in [] = 0 ∷ 0 ∷ 0 ∷ []
    verdicts_in (weak ∷ strong) = 1 ∷ weak ∷ strong

-- a part of a text: 0 for the rule text or 1 for the recording text, its start and its length
unfoldable pub part_values : Part → List ℕ
part_values p = pick p.of_rule 0 1 ∷ p.from ∷ p.count ∷ []

-- a yes or no as a byte: yes where it is not 0
abbrev pub is_set : ℕ → Bool
is_set b = not (eqb b 0)

-- what is answered by one count, or refused
abbrev pub counted : Result ℕ Refusal → Answer
counted = answer_of (λ n. n ∷ [])

-- what a rewriting answers
abbrev pub rewritten : Result Tops Refusal → Answer
rewritten = answer_of tops_values
