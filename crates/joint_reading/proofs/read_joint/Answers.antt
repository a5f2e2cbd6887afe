-- `read_joint` meets its contract: what was found, handed back (JoinLaws).
use Rattle.joint_reading.proofs.JoinLaws.{part_inside_lem, handed}
use Rattle.joint_reading.proofs.read_joint.Goals as goal

pub part-requires : goal.part-requires
part-requires c = part_inside_lem c.args.rule c.args.recording _ _ _ _ _ _ _ c.join-found.ensures

pub returns : goal.returns
returns c = rw c.heading_in.ensures (handed _ _ _ _ _ _ _ _ _ c.join-found.ensures _ c.part.ensures)
