-- `put_pair` meets its contract (LineLaws: pair_laws).
use Rattle.evidence_text.proofs.LineLaws.{pair_laws}
use Rattle.evidence_text.proofs.line.put_pair.Goals as goal

pub put_place-after_place-requires : goal.put_place-after_place-requires
put_place-after_place-requires c = search pair_laws

pub put_reading-requires : goal.put_reading-requires
put_reading-requires c = search pair_laws

pub returns : goal.returns
returns c = search pair_laws
