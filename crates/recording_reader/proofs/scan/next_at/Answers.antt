-- `next_at` meets its contract (LoopLaws).
use Rattle.recording_reader.proofs.LoopLaws.{next_without}
use Rattle.recording_reader.proofs.scan.next_at.Goals as goal

pub returns-then-is_empty : goal.returns-then-is_empty
returns-then-is_empty c = search (next_without, c.if-is_empty.ensures)
