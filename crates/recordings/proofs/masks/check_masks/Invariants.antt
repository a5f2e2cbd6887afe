-- `check_masks` meets its contract: the union of the earlier masks stands for them (MaskLaws).
use Rattle.recordings.proofs.MaskLaws.{MasksLeft}
use Rattle.recordings.proofs.masks.check_masks.Given as goal

abbrev pub invariant-loop-mask : goal.invariant-loop-mask
invariant-loop-mask l = MasksLeft l.mask-items l.seen l.mask-index
