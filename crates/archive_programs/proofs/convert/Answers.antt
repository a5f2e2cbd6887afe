-- `convert` meets its contract: one law for each return (OutputLaws: convert_laws).
use Rattle.archive_programs.proofs.OutputLaws.{convert_laws}
use Rattle.archive_programs.proofs.convert.Goals as goal

pub returns-then-input-gt-INPUT_BYTES : goal.returns-then-input-gt-INPUT_BYTES
returns-then-input-gt-INPUT_BYTES c = search convert_laws

pub returns-in-Ok : goal.returns-in-Ok
returns-in-Ok c = search (convert_laws, c.in-Ok.ensures)

pub returns-in-Err : goal.returns-in-Err
returns-in-Err c = search (convert_laws, c.in-Err.ensures)
