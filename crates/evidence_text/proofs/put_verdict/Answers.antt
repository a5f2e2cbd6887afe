-- `put_verdict` meets its contract (BehindLaws: verdict_room).
use Rattle.evidence_text.proofs.BehindLaws.{put_verdict_laws}
use Rattle.evidence_text.proofs.put_verdict.Goals as goal

pub put-requires : goal.put-requires
put-requires c = search put_verdict_laws

pub returns : goal.returns
returns c = search put_verdict_laws
