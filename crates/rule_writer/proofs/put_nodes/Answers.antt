-- `put_nodes` meets its contract: one law for each return and for a turn of its loop (PenLaws).
use Rattle.rule_writer.proofs.PenLaws.{lined_laws}
use Rattle.rule_writer.proofs.put_nodes.Goals as goal

pub loop-word-init : goal.loop-word-init
loop-word-init c = search lined_laws

pub put_node-end-requires : goal.put_node-end-requires
put_node-end-requires c = search lined_laws

pub put_byte-at-requires : goal.put_byte-at-requires
put_byte-at-requires c = search lined_laws

pub loop-word-preserved : goal.loop-word-preserved
loop-word-preserved c = search lined_laws

pub returns : goal.returns
returns c = search lined_laws
