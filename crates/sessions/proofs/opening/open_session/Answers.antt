-- `open_session` meets its contract (OpeningLaws, `open_refused`, `open_taken`).
use Rattle.std.proofs.Common.{rules, Err, ◌≡◌}
use Rattle.sessions.proofs.OpeningLaws.{open_laws}
use Rattle.sessions.proofs.opening.open_session.Goals as goal

pub returns-then-masks_short-nodes_short : goal.returns-then-masks_short-nodes_short
returns-then-masks_short-nodes_short c = search open_laws

pub returns-in_err-check_opening : goal.returns-in_err-check_opening
returns-in_err-check_opening c =
    let e : c.from_residual.result ≡ Err c.in_err-check_opening.field-0.0 = search rules in
    rw e (search (open_laws, c.in_err-check_opening.ensures))

pub returns : goal.returns
returns c = search (open_laws, c.in_ok-check_opening.ensures)
