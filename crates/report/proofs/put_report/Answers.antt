-- `put_report` meets its contract (ReportLaws: report_laws).
use Rattle.report.proofs.ReportLaws.{report_laws}
use Rattle.report.proofs.put_report.Goals as goal

pub put_line-after_local-requires : goal.put_line-after_local-requires
put_line-after_local-requires c = search report_laws

pub put_own-after_own-requires : goal.put_own-after_own-requires
put_own-after_own-requires c = search report_laws

pub put_rewritten-after_plain-requires : goal.put_rewritten-after_plain-requires
put_rewritten-after_plain-requires c = search report_laws

pub put_rewritten-requires : goal.put_rewritten-requires
put_rewritten-requires c = search report_laws

pub returns : goal.returns
returns c = search report_laws
