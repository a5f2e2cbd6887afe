-- `put_nodes` meets its contract: one law for each return and for a turn of its loop (PenLaws).
use Rattle.rule_writer.proofs.PenLaws.{Lined}
use Rattle.rule_writer.proofs.put_nodes.Given as goal

abbrev pub invariant-loop-word : goal.invariant-loop-word
invariant-loop-word l = Lined l.words l.initial.text l.start l.text l.at l.word-index
