-- `join_whole` meets its contract: what was scanned, then zeroed (JoinLaws).
use Rattle.joint_reading.proofs.JoinLaws.{join_done}
use Rattle.joint_reading.proofs.join_whole.Goals as goal

pub returns : goal.returns
returns c = join_done _ _ _ _ _ c.requires _ _ _ _ c.scan_joint-found.ensures _ _ _ (rw c.kept.ensures at c.clear_past.ensures)
