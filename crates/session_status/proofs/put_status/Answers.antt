-- `put_status` meets its contract (StatusLaws).
use Rattle.std.proofs.Common.{rules}
use Rattle.definitions.specs.Sessions.{lent_space}
use Rattle.session_status.proofs.StatusLaws.{judged_room, alone_room, status_judged, status_alone}
use Rattle.session_status.proofs.put_status.Goals as goal

pub put_line-requires : goal.put_line-requires
put_line-requires c = judged_room (lent_space c.args.heading.now c.args.masks.now c.args.nodes.now c.args.states.now) c.args.text.now c.in-Some.verdicts _ c.end_of.ensures (search rules) c.requires

pub put_line-requires-in-None : goal.put_line-requires-in-None
put_line-requires-in-None c = alone_room (lent_space c.args.heading.now c.args.masks.now c.args.nodes.now c.args.states.now) c.args.text.now (search rules) c.requires

pub returns-in-Some : goal.returns-in-Some
returns-in-Some c =
    status_judged (lent_space c.args.heading.now c.args.masks.now c.args.nodes.now c.args.states.now) c.args.text.now _ c.session_verdicts-judged.ensures.answered _ _ c.in-Some.verdicts (cc) _ c.end_of.ensures c.put_line.ensures

pub returns-in-None : goal.returns-in-None
returns-in-None c = status_alone (lent_space c.args.heading.now c.args.masks.now c.args.nodes.now c.args.states.now) c.args.text.now _ c.session_verdicts-judged.ensures.answered _ _ (cc) c.put_line-in-None.ensures
