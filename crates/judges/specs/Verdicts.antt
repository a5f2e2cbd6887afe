-- The answer of a judge: what its cases mean, and the verdicts at the tops.
use Rattle.std.specs.Prelude.{List, ℕ, ◌+◌, ◌*◌, ◌≤◌, length, Result}
use Rattle.definitions.specs.Limits.{pair_words}
use Rattle.definitions.specs.Tables.{Rule, nodes_in}
use Rattle.definitions.specs.Recordings.{Recording, mask_of}
use Rattle.definitions.specs.Projection.{local_trace}
use Rattle.definitions.specs.Readings as readings
use Rattle.definitions.specs.Readings.{local_verdicts}
use Rattle.definitions.specs.Operations.{Answer, verdict_values}
use Rattle.mark_words.specs.Marks.{mark_at}
use Rattle.rows.specs.Marks.{marks, Whole}
use Rattle.rows.specs.Stored.{row_at}
use Rattle.rules.specs.Answers as any
use Rattle.rules.specs.declared.refusal.Refusal.{Refusal}
use Rattle.judges.specs.declared.verdicts.Verdicts.{Verdicts}

-- the verdicts that the struct is
abbrev pub meant : Verdicts → readings.Verdicts
meant v = record { weak = v.weak; strong = v.strong }

-- document 01's answer: the weak and the strong verdict, or a refusal number alone
abbrev pub answer_of : Result Verdicts Refusal → Answer
answer_of = any.answer_of (λ v. verdict_values (meant v))

-- the verdicts of a rule on its own local trace
abbrev pub own_verdicts : Rule → Recording → readings.Verdicts
own_verdicts r R = local_verdicts (nodes_in r.count r.nodes) (mask_of R r.controller) (local_trace R r.controller)

-- the weak row of one node and the strong row of another
pub record Topped (rows : List ℕ) (weak_top strong_top : ℕ) : Type 0 where
  pub weak_room : weak_top * pair_words + 3 ≤ length rows
  pub strong_room : strong_top * pair_words + 3 + 3 ≤ length rows
  pub weak : Whole (row_at rows (weak_top * pair_words))
  pub strong : Whole (row_at rows (strong_top * pair_words + 3))

-- their marks at place 0
unfoldable pub tops_in : List ℕ → ℕ → ℕ → Verdicts
tops_in rows weak_top strong_top = record {
  weak = mark_at (marks (row_at rows (weak_top * pair_words))) 0;
  strong = mark_at (marks (row_at rows (strong_top * pair_words + 3))) 0;
}
