-- `pass_over` meets its contract: the invariant says what is held of each beginning (PassLaws, `passing_next`, `passing_end`).
use Rattle.projection.proofs.PassLaws.{pass_laws}
use Rattle.projection.proofs.pass.pass_over.Goals as goal

pub loop-state-init : goal.loop-state-init
loop-state-init c = search pass_laws

pub take-held-requires : goal.take-held-requires
take-held-requires c = search pass_laws

pub loop-state-preserved : goal.loop-state-preserved
loop-state-preserved c = search pass_laws

pub returns : goal.returns
returns c = search pass_laws
