-- `Found::part` meets its contract: that part of the text that it is in (JoinLaws).
use Rattle.joint_reading.proofs.JoinLaws.{rule_part, recording_part}
use Rattle.joint_reading.proofs.scan.Found.part.Goals as goal

pub returns-in-Rule : goal.returns-in-Rule
returns-in-Rule c = search rule_part

pub returns-in-Recording : goal.returns-in-Recording
returns-in-Recording c = search recording_part
