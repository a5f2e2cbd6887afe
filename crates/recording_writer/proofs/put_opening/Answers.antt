-- `put_opening` meets its contract (OpeningLaws: opening_laws).
use Rattle.recording_writer.proofs.OpeningLaws.{opening_laws}
use Rattle.recording_writer.proofs.put_opening.Goals as goal

pub put_heading-after_heading-requires : goal.put_heading-after_heading-requires
put_heading-after_heading-requires c = search opening_laws

pub put_masks-requires : goal.put_masks-requires
put_masks-requires c = search opening_laws

pub returns : goal.returns
returns c = search opening_laws
