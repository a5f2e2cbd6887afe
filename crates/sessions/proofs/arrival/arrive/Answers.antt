-- `arrive` meets its contract (ArrivalLaws, `arrive_refused`, `arrive_taken`).
use Rattle.std.proofs.Common.{rules, Err, ◌≡◌}
use Rattle.sessions.proofs.ArrivalLaws.{arrive_laws}
use Rattle.sessions.proofs.arrival.arrive.Goals as goal

pub returns-then-states-lt-STATES : goal.returns-then-states-lt-STATES
returns-then-states-lt-STATES c = search arrive_laws

pub returns-in_err-check_arrival : goal.returns-in_err-check_arrival
returns-in_err-check_arrival c =
    let e : c.from_residual.result ≡ Err c.in_err-check_arrival.field-0.0 = search rules in
    rw e (search (arrive_laws, c.in_err-check_arrival.ensures))

pub returns : goal.returns
returns c = search (arrive_laws, c.in_ok-check_arrival.ensures)
