-- The whole promise of the operation.
use Rattle.std.specs.Prelude.{◌≡◌, Bool, List, [], ◌∷◌, ℕ, Result}
use Rattle.definitions.specs.Tables.{Rule}
use Rattle.definitions.specs.Recordings.{Recording}
use Rattle.definitions.specs.Operations.{Answer, evidence_answer, evidence_pairs}
use Rattle.rules.specs.Answers.{answer_of}
use Rattle.rules.specs.declared.refusal.Refusal.{Refusal}

-- how many pairs there are, or the refusal's number alone
abbrev pub pairs_answer : Result ℕ Refusal → Answer
pairs_answer = answer_of (λ count. count ∷ [])

-- the whole answer, and the lent pairs
pub record EvidenceIs (r : Rule) (R : Recording) (weak : Bool) (entry : List ℕ) (e : Result ℕ Refusal) (exit : List ℕ) : Type 0 where
  pub answered : pairs_answer e ≡ evidence_answer r R weak entry
  pub pairs : exit ≡ evidence_pairs r R weak entry
