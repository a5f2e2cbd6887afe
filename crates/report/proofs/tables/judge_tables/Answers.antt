-- `judge_tables` meets its contract (TableLaws: table_laws).
use Rattle.report.proofs.TableLaws.{table_laws}
use Rattle.report.proofs.tables.judge_tables.Goals as goal

pub returns : goal.returns
returns c = search table_laws
