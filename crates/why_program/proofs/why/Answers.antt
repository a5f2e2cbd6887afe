-- `why` meets its contract (WhyLaws: long_printed, reading_printed, nothing_printed).
use Rattle.why_program.proofs.WhyLaws.{long_printed, reading_printed, nothing_printed}
use Rattle.why_program.proofs.why.Goals as goal

pub returns-then-input-gt-INPUT_BYTES : goal.returns-then-input-gt-INPUT_BYTES
returns-then-input-gt-INPUT_BYTES c = search long_printed

pub returns-in-Ok : goal.returns-in-Ok
returns-in-Ok c = let h = c.in-Ok.ensures in search (reading_printed, h)

pub returns-in-Err : goal.returns-in-Err
returns-in-Err c = let h = c.in-Err.ensures in search (nothing_printed, h)
