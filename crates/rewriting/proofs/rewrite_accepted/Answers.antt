-- `rewrite_accepted` meets its contract (AnswerLaws, `table_of`).
use Rattle.rewriting.proofs.AnswerLaws.{table_of}
use Rattle.rewriting.proofs.rewrite_accepted.Goals as goal

pub returns : goal.returns
returns c = search table_of
