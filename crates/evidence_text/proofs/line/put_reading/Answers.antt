-- `put_reading` meets its contract (LineLaws: reading_laws).
use Rattle.evidence_text.proofs.LineLaws.{reading_laws}
use Rattle.evidence_text.proofs.line.put_reading.Goals as goal

pub put_line-after_atom-requires : goal.put_line-after_atom-requires
put_line-after_atom-requires c = search reading_laws

pub put_line-after_value-requires : goal.put_line-after_value-requires
put_line-after_value-requires c = search reading_laws

pub put_line-requires : goal.put_line-requires
put_line-requires c = search reading_laws

pub returns : goal.returns
returns c = search reading_laws
