-- `scan_session` meets its contract (SessionLines).
use Rattle.std.proofs.Common.{rules}
use Rattle.std.proofs.lemmas.Result.{err_from_is_err_and}
use Rattle.lines.proofs.StopLaws.{read_kept, stop_told}
use Rattle.watch_opening.proofs.SessionLines.{scan_denied, scan_room, scan_stopped, scan_read}
use Rattle.watch_opening.proofs.scan_session.Goals as goal

pub returns-in_err-controllers : goal.returns-in_err-controllers
returns-in_err-controllers c =
    let p = err_from_is_err_and c.from_residual.result c.from_residual.ensures.1 in
    let s = stop_told _ _ c.next_session-read.ensures _ _ c.in_err-controllers.ensures.cases 0 (λ e q. search rules) in
    rw (p.1, p.2) (search (scan_denied, s))

pub scan_masks-requires : goal.scan_masks-requires
scan_masks-requires c = let h = read_kept _ _ c.next_session-read.ensures _ c.in_ok-controllers.ensures.cases in search (scan_room, h)

pub returns-in_err-scan_masks : goal.returns-in_err-scan_masks
returns-in_err-scan_masks c =
    let h = read_kept _ _ c.next_session-read.ensures _ c.in_ok-controllers.ensures.cases in
    let p = err_from_is_err_and c.from_residual-in_err-scan_masks.result c.from_residual-in_err-scan_masks.ensures.1 in
    rw (p.1, p.2) (search (scan_stopped, h, c.in_err-scan_masks.ensures))

pub returns : goal.returns
returns c = let h = read_kept _ _ c.next_session-read.ensures _ c.in_ok-controllers.ensures.cases in search (scan_read, h, c.in_ok-scan_masks.ensures)
