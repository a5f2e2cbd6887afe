-- `scan_states` meets its contract (LoopLaws).
use Rattle.std.proofs.Common.{rules}
use Rattle.std.proofs.lemmas.Result.{err_from_is_err_and}
use Rattle.lines.proofs.StopLaws.{read_kept, stop_told}
use Rattle.recording_reader.proofs.LoopLaws.{states_start, states_stopped, states_next, states_over, states_done}
use Rattle.recording_reader.proofs.scan.scan_states.Goals as goal

pub loop-k-init : goal.loop-k-init
loop-k-init c = search states_start

pub returns-in_err-state : goal.returns-in_err-state
returns-in_err-state c =
    let p = err_from_is_err_and c.from_residual.result c.from_residual.ensures.1 in
    let s = stop_told _ _ (rw c.held-held.ensures at c.next_at-read.ensures) _ _ c.in_err-state.ensures.cases c.loop-k.at (λ e q. search rules) in
    rw (p.1, p.2) (search (states_stopped, s))

pub loop-k-preserved : goal.loop-k-preserved
loop-k-preserved c = let m = read_kept _ _ (rw c.held-held.ensures at c.next_at-read.ensures) _ c.in_ok-state.ensures.cases in search (states_next, m)

pub returns-then-at-text : goal.returns-then-at-text
returns-then-at-text c = search states_over

pub returns : goal.returns
returns c = search states_done
