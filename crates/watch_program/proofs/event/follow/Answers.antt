-- `follow` meets its contract (EventLaws: follow_laws).
use Rattle.watch_program.proofs.EventLaws.{follow_laws}
use Rattle.watch_program.proofs.event.follow.Goals as goal

pub returns-in-Ok : goal.returns-in-Ok
returns-in-Ok c = let t = c.in-Ok.ensures c.args.nodes.now in search follow_laws

pub returns-in-Err : goal.returns-in-Err
returns-in-Err c = let t = c.in-Err.ensures c.args.nodes.now in search follow_laws
