-- `put_mask` meets its contract (LineLaws: mask_laws).
use Rattle.recording_writer.proofs.LineLaws.{mask_laws}
use Rattle.recording_writer.proofs.put_mask.Goals as goal

pub put-after_word-requires : goal.put-after_word-requires
put-after_word-requires c = search mask_laws

pub put_hexadecimal-requires : goal.put_hexadecimal-requires
put_hexadecimal-requires c = search mask_laws

pub returns : goal.returns
returns c = search mask_laws
