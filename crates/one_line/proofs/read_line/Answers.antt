-- `read_line` meets its contract (LineLaws).
use Rattle.std.proofs.Common.{arith}
use Rattle.one_line.proofs.LineLaws.{read_short, read_refused, read_ready, read_accepted}
use Rattle.one_line.proofs.read_line.Goals as goal

pub returns-then-nodes-lt-RULE_NODES : goal.returns-then-nodes-lt-RULE_NODES
returns-then-nodes-lt-RULE_NODES c = search read_short

pub arrows-requires : goal.arrows-requires
arrows-requires c = read_ready _ _ _ _ c.in-Ok.ensures.refusal c.in-Ok.ensures.spelt _ c.start-out.ensures

pub returns-in-Ok : goal.returns-in-Ok
returns-in-Ok c =
    read_accepted _ _ _ _ c.in-Ok.ensures.refusal c.in-Ok.ensures.spelt _ c.start-out.ensures _ _ c.arrows.ensures _ (omega arith) _ c.lay.ensures

pub returns-in-Err : goal.returns-in-Err
returns-in-Err c = read_refused _ _ _ (omega arith) _ _ c.in-Err.ensures.refusal c.clear.ensures
