-- `refuse_line` meets its contract (EventLaws: refuse_laws).
use Rattle.watch_program.proofs.EventLaws.{refuse_laws}
use Rattle.watch_program.proofs.event.refuse_line.Goals as goal

pub put_refused-requires : goal.put_refused-requires
put_refused-requires c = search refuse_laws

pub returns : goal.returns
returns c = search refuse_laws
