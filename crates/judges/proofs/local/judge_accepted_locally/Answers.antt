-- `judge_accepted_locally` meets its contract (LocalLaws: own_laws).
use Rattle.judges.proofs.LocalLaws.{own_laws}
use Rattle.judges.proofs.local.judge_accepted_locally.Goals as goal

pub overflow_sub-last : goal.overflow_sub-last
overflow_sub-last c = search own_laws

pub at_tops-requires : goal.at_tops-requires
at_tops-requires c = search own_laws

pub returns : goal.returns
returns c = search own_laws
