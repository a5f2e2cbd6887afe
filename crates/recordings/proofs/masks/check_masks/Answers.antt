-- `check_masks` meets its contract: the union of the earlier masks stands for them (MaskLaws).
use Rattle.recordings.proofs.MaskLaws.{mask_laws}
use Rattle.recordings.proofs.masks.check_masks.Goals as goal

pub loop-mask-init : goal.loop-mask-init
loop-mask-init c = search mask_laws

pub returns-in_err-check_mask : goal.returns-in_err-check_mask
returns-in_err-check_mask c = search mask_laws

pub loop-mask-preserved : goal.loop-mask-preserved
loop-mask-preserved c = search mask_laws

pub returns : goal.returns
returns c = search mask_laws
