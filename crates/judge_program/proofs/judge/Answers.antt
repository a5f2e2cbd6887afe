-- `judge` meets its contract (OutputLaws: long_printed, texts_printed).
use Rattle.judge_program.proofs.OutputLaws.{long_printed, texts_printed}
use Rattle.judge_program.proofs.judge.Goals as goal

pub returns-then-input-gt-INPUT_BYTES : goal.returns-then-input-gt-INPUT_BYTES
returns-then-input-gt-INPUT_BYTES c = search long_printed

pub returns : goal.returns
returns c = search texts_printed
