-- `lay_next` meets its contract: one law for each return (ScanningLaws: next_laws).
use Rattle.std.proofs.Common.{rules, Err, ◌≡◌}
use Rattle.signals.proofs.ScanningLaws.{next_laws, signal_unread}
use Rattle.signals.proofs.reading.lay_next.Goals as goal

pub returns-in_err-check_end : goal.returns-in_err-check_end
returns-in_err-check_end c =
    let a = c.args in
    let e : c.from_residual.result ≡ Err c.in_err-check_end.field-0.0 = search rules in
    rw e (signal_unread a.controllers a.count a.j a.len a.t.now a.states.now c.requires c.in_err-check_end.field-0.0 c.in_err-check_end.ensures)

pub slice_bounds-lay_line-end : goal.slice_bounds-lay_line-end
slice_bounds-lay_line-end c = search next_laws

pub returns : goal.returns
returns c = search next_laws
