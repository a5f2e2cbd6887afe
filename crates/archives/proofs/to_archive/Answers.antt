-- `to_archive` meets its contract (ConvertLaws: to_archive_lem).
use Rattle.std.proofs.Common.{rules}
use Rattle.archives.proofs.ConvertLaws.{to_archive_lem}
use Rattle.archives.proofs.to_archive.Goals as goal

pub returns : goal.returns
returns c = search (rules, to_archive_lem)
