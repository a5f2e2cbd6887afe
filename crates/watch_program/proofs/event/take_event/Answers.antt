-- `take_event` meets its contract (EventLaws: taken_laws).
use Rattle.watch_program.proofs.EventLaws.{taken_laws}
use Rattle.std.proofs.Common.{◌≡◌}
use Rattle.watch_program.specs.declared.event.Event.TheVariants.{Arrival, Withdrawal}
use Rattle.watch_program.proofs.event.take_event.Goals as goal

pub returns-in-Some-Arrival : goal.returns-in-Some-Arrival
returns-in-Some-Arrival c =
    let w = c.in-Some-Arrival in
    let v : w.field-0 ≡ Arrival w.state = rw w.is at w.field-0-is in
    λ nodes. search (taken_laws, w.is, v)

pub returns-in-Some-Withdrawal : goal.returns-in-Some-Withdrawal
returns-in-Some-Withdrawal c =
    let w = c.in-Some-Withdrawal in
    let v : w.field-0 ≡ Withdrawal = rw w.is at w.field-0-is in
    λ nodes. search (taken_laws, w.is, v)

pub returns-in-None : goal.returns-in-None
returns-in-None c = λ nodes. search taken_laws
