-- `scan_after` meets its contract: one law for each return (ReadingLaws: after_laws).
use Rattle.archives.proofs.ReadingLaws.{after_laws}
use Rattle.archives.proofs.reading.scan_after.Goals as goal

pub returns-then-back : goal.returns-then-back
returns-then-back c = search after_laws

pub returns : goal.returns
returns c = search after_laws
