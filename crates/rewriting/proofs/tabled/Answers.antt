-- `tabled` meets its contract: one law for each return (AnswerLaws, `tabled_open`, `tabled_closed`).
use Rattle.rewriting.proofs.AnswerLaws.{tabled_open, tabled_closed}
use Rattle.rewriting.proofs.tabled.Goals as goal

pub returns-then-short-last : goal.returns-then-short-last
returns-then-short-last c = search tabled_open

pub returns : goal.returns
returns c = search tabled_closed
