-- `put_line` meets its contract: one law for each return (WritingLaws: put_line_laws).
use Rattle.signals.proofs.WritingLaws.{put_line_laws}
use Rattle.signals.proofs.writing.put_line.Goals as goal

pub put-after_runs-requires : goal.put-after_runs-requires
put-after_runs-requires c = search put_line_laws

pub place-requires : goal.place-requires
place-requires c = search put_line_laws

pub put_signal-requires : goal.put_signal-requires
put_signal-requires c = search put_line_laws

pub shape_of-text-then-j-controllers : goal.shape_of-text-then-j-controllers
shape_of-text-then-j-controllers c = search put_line_laws

pub returns-then-j-controllers : goal.returns-then-j-controllers
returns-then-j-controllers c = search put_line_laws

pub put-after_bits-requires : goal.put-after_bits-requires
put-after_bits-requires c = search put_line_laws

pub place-requires-2 : goal.place-requires-2
place-requires-2 c = search put_line_laws

pub put_signal-requires-2 : goal.put_signal-requires-2
put_signal-requires-2 c = search put_line_laws

pub shape_of-text : goal.shape_of-text
shape_of-text c = search put_line_laws

pub returns : goal.returns
returns c = search put_line_laws
