-- `put_pairs` meets its contract (LineLaws: pairs_laws). The invariant: the lines of the pairs so far are printed.
use Rattle.rules.specs.Handed.{rule_in}
use Rattle.recordings.specs.Heading.{recording_in}
use Rattle.evidence_text.proofs.LineLaws.{Printing}
use Rattle.evidence_text.proofs.line.put_pairs.Given as goal

abbrev pub invariant-loop-pair : goal.invariant-loop-pair
invariant-loop-pair l = Printing (rule_in l.rule) l.trace (recording_in l.recording) l.pairs l.at l.initial.text l.pair-index l.end l.text
