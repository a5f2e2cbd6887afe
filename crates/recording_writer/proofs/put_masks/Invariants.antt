-- `put_masks`: the lines of the masks passed lie in the text (LineLaws: lines_laws).
use Rattle.definitions.specs.RecordingWriting.{mask_text}
use Rattle.recording_writer.proofs.LineLaws.{Written}
use Rattle.recording_writer.proofs.put_masks.Given as goal

abbrev pub invariant-loop-mask : goal.invariant-loop-mask
invariant-loop-mask l = Written mask_text l.masks l.initial.text l.start l.text l.at l.mask-index
