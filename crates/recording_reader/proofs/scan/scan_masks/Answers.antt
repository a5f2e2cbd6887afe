-- `scan_masks` meets its contract (LoopLaws).
use Rattle.std.proofs.Common.{rules}
use Rattle.std.proofs.lemmas.Result.{err_from_is_err_and}
use Rattle.lines.proofs.StopLaws.{read_kept, stop_told}
use Rattle.recording_reader.proofs.LoopLaws.{masks_start, masks_stopped, masks_next, masks_done}
use Rattle.recording_reader.proofs.scan.scan_masks.Goals as goal

pub loop-c-init : goal.loop-c-init
loop-c-init c = search masks_start

pub returns-in_err-mask : goal.returns-in_err-mask
returns-in_err-mask c =
    let p = err_from_is_err_and c.from_residual.result c.from_residual.ensures.1 in
    let s = stop_told _ _ c.next_mask.ensures _ _ c.in_err-mask.ensures.cases c.loop-c.at (λ e q. search rules) in
    rw (p.1, p.2) (search (masks_stopped, s))

pub loop-c-preserved : goal.loop-c-preserved
loop-c-preserved c = let m = read_kept _ _ c.next_mask.ensures _ c.in_ok-mask.ensures.cases in search (masks_next, m)

pub returns : goal.returns
returns c = search masks_done
