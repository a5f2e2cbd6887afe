-- The answer of projection, and its whole promise.
use Rattle.std.specs.Prelude.{◌≡◌, ℕ, List, [], ◌∷◌, Result}
use Rattle.definitions.specs.Recordings.{Recording}
use Rattle.definitions.specs.Operations.{Answer, project_answer, project_places}
use Rattle.rules.specs.Answers as any
use Rattle.rules.specs.declared.refusal.Refusal.{Refusal}

-- "project (recording and c)": L, or the refusal's number alone
abbrev pub answer_of : Result ℕ Refusal → Answer
answer_of = any.answer_of (λ L. L ∷ [])

-- the whole answer, and the lent places
pub record ProjectIs (R : Recording) (c : ℕ) (entry : List ℕ) (r : Result ℕ Refusal) (exit : List ℕ) : Type 0 where
  pub answered : answer_of r ≡ project_answer R c entry
  pub lent : exit ≡ project_places R c entry
