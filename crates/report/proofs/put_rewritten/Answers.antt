-- `put_rewritten` meets its contract (ReportLaws: rewritten_laws).
use Rattle.report.proofs.ReportLaws.{rewritten_laws}
use Rattle.report.proofs.put_rewritten.Goals as goal

pub put_line-requires : goal.put_line-requires
put_line-requires c = search rewritten_laws

pub returns : goal.returns
returns c = search rewritten_laws
