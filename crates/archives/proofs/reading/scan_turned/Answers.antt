-- `scan_turned` meets its contract: one law for each return (ReadingLaws: turned_laws).
use Rattle.std.proofs.Common.{rules, Err, ◌≡◌}
use Rattle.archives.proofs.ReadingLaws.{turned_laws}
use Rattle.archives.proofs.reading.scan_turned.Goals as goal

pub returns-in_err-at : goal.returns-in_err-at
returns-in_err-at c = let e : c.from_residual.result ≡ Err c.in_err-at.field-0.0 = search rules in rw e (search (turned_laws, c.in_err-at.ensures))
