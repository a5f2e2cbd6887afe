-- `put_refused` meets its contract (ReportLaws: refused_written).
use Rattle.report.proofs.ReportLaws.{refused_written}
use Rattle.report.proofs.put_refused.Goals as goal

pub returns : goal.returns
returns c = search refused_written
