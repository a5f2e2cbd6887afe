-- `put_place` meets its contract (LineLaws: place_laws).
use Rattle.evidence_text.proofs.LineLaws.{place_laws}
use Rattle.evidence_text.proofs.line.put_place.Goals as goal

pub put_line-after_state-requires : goal.put_line-after_state-requires
put_line-after_state-requires c = search place_laws

pub put_line-requires : goal.put_line-requires
put_line-requires c = search place_laws

pub returns : goal.returns
returns c = search place_laws
