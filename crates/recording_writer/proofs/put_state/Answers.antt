-- `put_state` meets its contract (LineLaws: state_laws).
use Rattle.recording_writer.proofs.LineLaws.{state_laws}
use Rattle.recording_writer.proofs.put_state.Goals as goal

pub put-after_word-requires : goal.put-after_word-requires
put-after_word-requires c = search state_laws

pub put_hexadecimal-after_marks-requires : goal.put_hexadecimal-after_marks-requires
put_hexadecimal-after_marks-requires c = search state_laws

pub put_byte-after_tab-requires : goal.put_byte-after_tab-requires
put_byte-after_tab-requires c = search state_laws

pub put_hexadecimal-requires : goal.put_hexadecimal-requires
put_hexadecimal-requires c = search state_laws

pub returns : goal.returns
returns c = search state_laws
