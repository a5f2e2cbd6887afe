-- `put_states`: the lines of the states passed lie in the text (LineLaws: lines_laws).
use Rattle.recording_writer.proofs.LineLaws.{lines_laws}
use Rattle.recording_writer.proofs.put_states.Goals as goal

pub loop-state-init : goal.loop-state-init
loop-state-init c = search lines_laws

pub put_state-end-requires : goal.put_state-end-requires
put_state-end-requires c = search lines_laws

pub put_byte-at-requires : goal.put_byte-at-requires
put_byte-at-requires c = search lines_laws

pub loop-state-preserved : goal.loop-state-preserved
loop-state-preserved c = search lines_laws

pub returns : goal.returns
returns c = search lines_laws
