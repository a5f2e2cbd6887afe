-- `put_pairs` meets its contract (LineLaws: pairs_laws).
use Rattle.evidence_text.proofs.LineLaws.{pairs_laws}
use Rattle.evidence_text.proofs.line.put_pairs.Goals as goal

pub loop-pair-init : goal.loop-pair-init
loop-pair-init c = search pairs_laws

pub put_pair-end-requires : goal.put_pair-end-requires
put_pair-end-requires c = search pairs_laws

pub loop-pair-preserved : goal.loop-pair-preserved
loop-pair-preserved c = search pairs_laws
