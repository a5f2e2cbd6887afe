-- `put_behind` meets its contract (BehindLaws: behind_laws).
use Rattle.evidence_text.proofs.BehindLaws.{behind_laws}
use Rattle.evidence_text.proofs.put_behind.Goals as goal

pub slice_bounds-pairs-end : goal.slice_bounds-pairs-end
slice_bounds-pairs-end c = search behind_laws

pub slice_bounds-put_pairs-end : goal.slice_bounds-put_pairs-end
slice_bounds-put_pairs-end c = search behind_laws

pub put_pairs-requires : goal.put_pairs-requires
put_pairs-requires c = search behind_laws

pub returns : goal.returns
returns c = search behind_laws
