-- `join` meets its contract: one law for each return, and the room that `join_whole` asks (JoinLaws).
use Rattle.joint_reading.proofs.JoinLaws.{join_short, join_room}
use Rattle.joint_reading.proofs.join.Goals as goal

pub returns-then-is_short : goal.returns-then-is_short
returns-then-is_short c = search join_short

pub join_whole-requires : goal.join_whole-requires
join_whole-requires c = join_room _ _ _ _ c.is_short.ensures c.if-is_short.false
