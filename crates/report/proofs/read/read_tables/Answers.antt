-- `read_tables` meets its contract (ReadTableLaws: read_laws).
use Rattle.report.proofs.ReadTableLaws.{read_laws}
use Rattle.report.proofs.read.read_tables.Goals as goal

pub read-requires : goal.read-requires
read-requires c = search read_laws

pub part-requires : goal.part-requires
part-requires c = search read_laws

pub put_refused-printed-requires : goal.put_refused-printed-requires
put_refused-printed-requires c = search read_laws

pub returns-in-Ok : goal.returns-in-Ok
returns-in-Ok c = search read_laws

pub returns-in-Err : goal.returns-in-Err
returns-in-Err c = search read_laws
