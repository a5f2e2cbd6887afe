-- `put_line` meets its contract (LineLaws: line_laws).
use Rattle.printing.proofs.LineLaws.{line_laws}
use Rattle.printing.proofs.put_line.Goals as goal

pub put-after_word-requires : goal.put-after_word-requires
put-after_word-requires c = search line_laws

pub put_field-after_number-requires : goal.put_field-after_number-requires
put_field-after_number-requires c = search line_laws

pub put-requires : goal.put-requires
put-requires c = search line_laws

pub returns : goal.returns
returns c = search line_laws
