-- The answers of the operations, as the code hands them over.
use Rattle.std.specs.Prelude.{ℕ, Option, Result}
use Rattle.rules.specs.declared.refusal.Refusal.{Refusal}
use Rattle.rules.specs.declared.rule.RuleHeading.{RuleHeading}
use Rattle.judges.specs.declared.verdicts.Verdicts.{Verdicts}
use Rattle.images.specs.declared.Tops.{Tops}
use Rattle.definitions.specs.Operations.{Answer}
use Rattle.rules.specs.Answers.{answer_of}
use Rattle.rewriting.specs.Answers.{tops_values}

-- of reading a rule: controller and node count
abbrev pub RuleRead : Type 0
RuleRead = Result RuleHeading Refusal

-- of writing a text: its length
abbrev pub TextWritten : Type 0
TextWritten = Result ℕ Refusal

-- of a judge: both verdicts
abbrev pub Judgement : Type 0
Judgement = Result Verdicts Refusal

-- of the query of a session: both verdicts, or that it holds no state
abbrev pub SessionVerdicts : Type 0
SessionVerdicts = Result (Option Verdicts) Refusal

-- of the readings behind a verdict: how many pairs there are
abbrev pub Explanation : Type 0
Explanation = Result ℕ Refusal

-- of a rewriting: node count and both tops
abbrev pub Rewriting : Type 0
Rewriting = Result Tops Refusal

-- the answer of a rewriting: "node count and both tops", or a refusal number alone
abbrev pub rewritten : Rewriting → Answer
rewritten = answer_of tops_values
