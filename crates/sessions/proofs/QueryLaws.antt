-- The query (`session_verdicts`): a law for each return.
use mathlib.Core.Path.{◌≡◌, ◌∙◌}
use Prim.Native.Nat.{ℕ}
use mathlib.Core.List.{List, []}
use lib.ListN.{get_or}
use borrow.Author.Rules.{rules}
use borrow.Author.Tests.{ne_eqb}
use Rattle.definitions.specs.Bounded.{pick}
use Rattle.definitions.specs.Tables.{rule_of}
use Rattle.definitions.specs.Recordings.{recording_of}
use Rattle.definitions.specs.Operations.{Answer, answer, judge_local_answer}
use Rattle.definitions.specs.Sessions.{lent_space, verdicts_answer}

module _ (heading masks nodes states : List ℕ) where
  -- `session_verdicts`, no state is held: `verdicts_answer` has no values
  pub query_none : get_or heading 3 0 ≡ 0 → answer 0 [] ≡ verdicts_answer (lent_space heading masks nodes states)
  unfolding verdicts_answer pick
  query_none z = rw z

  -- `session_verdicts`: what local judging answers is `verdicts_answer`
  pub query_judged : (get_or heading 3 0 ≡ 0 → ⊥) → (a : Answer) →
      a ≡ judge_local_answer (rule_of (get_or heading 1 0) (get_or heading 2 0) nodes) (recording_of (get_or heading 0 0) (get_or heading 3 0) masks states) →
      a ≡ verdicts_answer (lent_space heading masks nodes states)
  unfolding verdicts_answer pick
  query_judged z a e = e ∙ rw (ne_eqb (get_or heading 3 0) 0 z)

pub ruleset query_laws = (rules, query_none, query_judged)
