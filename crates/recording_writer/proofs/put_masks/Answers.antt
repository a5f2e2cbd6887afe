-- `put_masks`: the lines of the masks passed lie in the text (LineLaws: lines_laws).
use Rattle.recording_writer.proofs.LineLaws.{lines_laws}
use Rattle.recording_writer.proofs.put_masks.Goals as goal

pub loop-mask-init : goal.loop-mask-init
loop-mask-init c = search lines_laws

pub put_mask-end-requires : goal.put_mask-end-requires
put_mask-end-requires c = search lines_laws

pub put_byte-at-requires : goal.put_byte-at-requires
put_byte-at-requires c = search lines_laws

pub loop-mask-preserved : goal.loop-mask-preserved
loop-mask-preserved c = search lines_laws

pub returns : goal.returns
returns c = search lines_laws
