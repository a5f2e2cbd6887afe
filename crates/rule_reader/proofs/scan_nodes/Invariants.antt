-- `scan_nodes` meets its contract (LoopLaws). The invariant: the first i nodes are read.
use Rattle.rule_reader.proofs.LoopLaws.{NodesLeft}
use Rattle.rule_reader.proofs.scan_nodes.Given as goal

abbrev pub invariant-loop-i : goal.invariant-loop-i
invariant-loop-i l = NodesLeft l.count l.start l.text l.initial.nodes l.nodes l.at l.i
