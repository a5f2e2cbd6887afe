-- `scan_nodes` meets its contract (LoopLaws).
use Rattle.std.proofs.Common.{rules}
use Rattle.std.proofs.lemmas.Result.{err_from_is_err_and}
use Rattle.lines.proofs.StopLaws.{read_kept, stop_told}
use Rattle.rule_reader.proofs.LoopLaws.{nodes_done, nodes_over, nodes_stopped, nodes_next}
use Rattle.rule_reader.proofs.scan_nodes.Goals as goal

pub returns-in_err-nodes : goal.returns-in_err-nodes
returns-in_err-nodes c =
    let p = err_from_is_err_and c.from_residual.result c.from_residual.ensures.1 in
    let s = stop_told _ _ c.next_node.ensures _ _ c.in_err-nodes.ensures.cases c.loop-i.at (λ e q. search rules) in
    rw (p.1, p.2) (search (nodes_stopped, s))

pub loop-i-preserved : goal.loop-i-preserved
loop-i-preserved c = let v = read_kept _ _ c.next_node.ensures _ c.in_ok-nodes.ensures.cases in search (nodes_next, v)

pub returns-then-at-text : goal.returns-then-at-text
returns-then-at-text c = search nodes_over

pub returns : goal.returns
returns c = search nodes_done
