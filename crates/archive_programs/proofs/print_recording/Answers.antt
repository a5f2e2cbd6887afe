-- `print_recording` meets its contract (OutputLaws: recording_printed).
use borrow.Author.Rules.{rules}
use Rattle.archive_programs.proofs.OutputLaws.{recording_printed}
use Rattle.archive_programs.proofs.print_recording.Goals as goal

pub returns : goal.returns
returns c = search (rules, recording_printed)
