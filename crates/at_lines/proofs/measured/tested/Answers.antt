-- `tested`: the return of a set bit of a gauge; the ruleset of the function finds the rest.
use Rattle.lines.proofs.ToldLaws.{told_exit}
use Rattle.at_lines.proofs.MeasuredLaws.{tested_set}
use Rattle.at_lines.proofs.measured.tested.Goals as goal

pub returns-in_err-unless-2 : goal.returns-in_err-unless-2
returns-in_err-unless-2 c = told_exit _ _ _ c.from_residual-in_err-unless-2.ensures.1 (search (tested_set, c.in_ok-unless.ensures, c.in_err-unless-2.ensures))
