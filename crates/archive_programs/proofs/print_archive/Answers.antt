-- `print_archive` meets its contract (OutputLaws: archive_printed).
use borrow.Author.Rules.{rules}
use Rattle.archive_programs.proofs.OutputLaws.{archive_printed}
use Rattle.archive_programs.proofs.print_archive.Goals as goal

pub returns : goal.returns
returns c = search (rules, archive_printed)
