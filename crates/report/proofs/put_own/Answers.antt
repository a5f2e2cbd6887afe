-- `put_own` meets its contract (ReportLaws: own_laws).
use Rattle.report.proofs.ReportLaws.{own_laws}
use Rattle.report.proofs.put_own.Goals as goal

pub put-after_word-requires : goal.put-after_word-requires
put-after_word-requires c = search own_laws

pub put-requires : goal.put-requires
put-requires c = search own_laws

pub returns : goal.returns
returns c = search own_laws
