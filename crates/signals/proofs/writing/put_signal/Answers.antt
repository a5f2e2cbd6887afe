-- `put_signal`: the digits of the states passed lie in the text (WritingLaws: writing_laws).
use Rattle.signals.proofs.WritingLaws.{writing_laws}
use Rattle.signals.proofs.writing.put_signal.Goals as goal

pub loop-k-init : goal.loop-k-init
loop-k-init c = search writing_laws

pub loop-k-preserved : goal.loop-k-preserved
loop-k-preserved c = search writing_laws

pub returns : goal.returns
returns c = search writing_laws
