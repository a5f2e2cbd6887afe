-- `convert` meets its contract: one law for each return (ConvertLaws: convert_laws).
use Rattle.archives.proofs.ConvertLaws.{convert_laws}
use Rattle.archives.proofs.convert.Goals as goal

pub returns-then-space-lt-ARCHIVE_BYTES : goal.returns-then-space-lt-ARCHIVE_BYTES
returns-then-space-lt-ARCHIVE_BYTES c = search convert_laws

pub scan_text-requires : goal.scan_text-requires
scan_text-requires c = search convert_laws

pub put_text-end-requires : goal.put_text-end-requires
put_text-end-requires c = search (convert_laws, c.in-Ok.ensures)

pub clear-requires : goal.clear-requires
clear-requires c = search (convert_laws, c.in-Ok.ensures)

pub returns-in-Ok : goal.returns-in-Ok
returns-in-Ok c = search (convert_laws, c.in-Ok.ensures)

pub returns-in-Err : goal.returns-in-Err
returns-in-Err c = search (convert_laws, c.in-Err.ensures)
