-- `put_hexadecimal`: the digits of a sixteenth, and then the last digit (HexLaws: hex_laws).
use Rattle.recording_writer.proofs.HexLaws.{hex_laws}
use Rattle.recording_writer.proofs.+put_hexadecimal.Goals as goal

pub returns-then-width-eq0 : goal.returns-then-width-eq0
returns-then-width-eq0 t c = search hex_laws

pub put_hexadecimal-next-requires : goal.put_hexadecimal-next-requires
put_hexadecimal-next-requires t c = search hex_laws

pub bounds-text-next : goal.bounds-text-next
bounds-text-next t c = search hex_laws

pub overflow_add-result : goal.overflow_add-result
overflow_add-result t c = search hex_laws

pub returns : goal.returns
returns t c = search hex_laws
