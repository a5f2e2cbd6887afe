-- `put_signals`: the lines of the signals passed lie in the text (WritingLaws: put_signals_laws).
use Rattle.signals.proofs.WritingLaws.{put_signals_laws}
use Rattle.signals.proofs.writing.put_signals.Goals as goal

pub loop-j-init : goal.loop-j-init
loop-j-init c = search put_signals_laws

pub put_line-end-requires : goal.put_line-end-requires
put_line-end-requires c = search put_signals_laws

pub put_byte-at-requires : goal.put_byte-at-requires
put_byte-at-requires c = search put_signals_laws

pub loop-j-preserved : goal.loop-j-preserved
loop-j-preserved c = search put_signals_laws

pub returns : goal.returns
returns c = search put_signals_laws
