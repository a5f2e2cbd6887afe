-- What the reader of a rule in one line answers, and what it leaves in lent space.
use Rattle.std.specs.Prelude.{◌≡◌, ℕ, List, Result}
use Rattle.definitions.specs.OneLine.{read_line_answer, read_line_nodes}
use Rattle.rules.specs.declared.refusal.Refusal.{Refusal}
use Rattle.rules.specs.declared.rule.RuleHeading.{RuleHeading}
use Rattle.rule_reader.specs.Reading.{read_answer}

-- the whole answer, as reading a rule answers, and all of the lent nodes
pub record ReadLine (controller : ℕ) (line entry : List ℕ) (r : Result RuleHeading Refusal) (exit : List ℕ) : Type 0 where
  pub answered : read_answer r ≡ read_line_answer controller line entry
  pub nodes : exit ≡ read_line_nodes controller line entry
