-- The values of the query's answer; "An empty session has no verdict, and its answer says so": no values.
use Rattle.std.specs.Prelude.{ℕ, Bool, true, false, List, [], Option, None, Some, Result, Ok, Err}
use Rattle.definitions.specs.Operations.{Answer, verdict_values}
use Rattle.judges.specs.Verdicts.{meant}
use Rattle.judges.specs.declared.verdicts.Verdicts.{Verdicts}
use Rattle.rules.specs.Answers.{answer_of}
use Rattle.rules.specs.declared.refusal.Refusal.{Refusal}

-- both verdicts, where there are any
abbrev pub verdicts_of : Option Verdicts → List ℕ
verdicts_of None = []
verdicts_of (Some verdicts) = verdict_values (meant verdicts)

abbrev pub session_answer : Result (Option Verdicts) Refusal → Answer
session_answer = answer_of verdicts_of

-- whether it says that there is no verdict
abbrev pub says_none : Result (Option Verdicts) Refusal → Bool
says_none (Ok None) = true
says_none (Ok (Some verdicts)) = false
says_none (Err refusal) = false
