-- An answer of documents 01 and 02: the values of what was done, or the refusal's number alone.
use Rattle.std.specs.Prelude.{ℕ, List, [], Result, Ok, Err}
use Rattle.definitions.specs.Limits.{accepted}
use Rattle.definitions.specs.Operations.{Answer, answer}
use Rattle.rules.specs.Refusals.{number_of}
use Rattle.rules.specs.declared.refusal.Refusal.{Refusal}

abbrev pub answer_of : {A : Type 0} → (A → List ℕ) → Result A Refusal → Answer
answer_of values (Ok a) = answer accepted (values a)
answer_of values (Err refusal) = answer (number_of refusal) []
