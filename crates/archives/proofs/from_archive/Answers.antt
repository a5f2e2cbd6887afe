-- `from_archive` meets its contract (ConvertLaws: from_archive_lem).
use Rattle.std.proofs.Common.{rules}
use Rattle.archives.proofs.ConvertLaws.{from_archive_lem}
use Rattle.archives.proofs.from_archive.Goals as goal

pub returns : goal.returns
returns c = search (rules, from_archive_lem)
