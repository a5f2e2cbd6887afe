-- `project` meets its contract: one law for each return (ProjectLaws).
use Rattle.std.proofs.Common.{arith}
use Rattle.projection.proofs.ProjectLaws.{project_laws, project_refused, project_accepted}
use Rattle.projection.proofs.project.Goals as goal

pub returns-then-places-lt-STATES : goal.returns-then-places-lt-STATES
returns-then-places-lt-STATES c = search project_laws

pub returns-in-Err : goal.returns-in-Err
returns-in-Err c = project_refused _ _ _ _ _ _ (omega arith) c.in-Err.refusal c.in-Err.ensures _ c.clear.ensures

pub project_counted-length-requires : goal.project_counted-length-requires
project_counted-length-requires c = search project_laws

pub clear-requires-2 : goal.clear-requires-2
clear-requires-2 c = search project_laws

pub returns : goal.returns
returns c =
    let done = c.project_counted-length.ensures in
    project_accepted _ _ _ _ _ _ (omega arith) c.in_default.ensures _ c.mask_at-mask.ensures _ done.1 _ done.0 _ c.clear-2.ensures
