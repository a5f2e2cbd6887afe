-- `put_heading` meets its contract (OpeningLaws: heading_laws).
use Rattle.recording_writer.proofs.OpeningLaws.{heading_laws}
use Rattle.recording_writer.proofs.put_heading.Goals as goal

pub put-after_word-requires : goal.put-after_word-requires
put-after_word-requires c = search heading_laws

pub put_field-after_controllers-requires : goal.put_field-after_controllers-requires
put_field-after_controllers-requires c = search heading_laws

pub put_field-after_count-requires : goal.put_field-after_count-requires
put_field-after_count-requires c = search heading_laws

pub put_byte-requires : goal.put_byte-requires
put_byte-requires c = search heading_laws

pub returns : goal.returns
returns c = search heading_laws
