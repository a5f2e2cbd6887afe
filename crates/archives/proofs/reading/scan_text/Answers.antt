-- `scan_text` meets its contract: one law for each return (ReadingLaws: text_unheaded, text_laws).
use Rattle.std.proofs.Common.{rules, Err, ◌≡◌}
use Rattle.std.proofs.lemmas.Result.{err_from_is_err_and}
use Rattle.lines.proofs.StopLaws.{read_kept, stop_told}
use Rattle.archives.proofs.ReadingLaws.{text_unheaded, text_laws}
use Rattle.archives.proofs.reading.scan_text.Goals as goal

pub returns-in_err-heading : goal.returns-in_err-heading
returns-in_err-heading c =
    let p = err_from_is_err_and c.from_residual.result c.from_residual.ensures.1 in
    let s = stop_told _ _ c.next_heading.ensures _ _ c.in_err-heading.ensures.cases 0 (λ e q. search rules) in
    rw (p.1, p.2) (search (text_unheaded, s))

pub returns-in_err-start : goal.returns-in_err-start
returns-in_err-start c =
    let h = read_kept _ _ c.next_heading.ensures _ c.in_ok-heading.ensures.cases in
    let e : c.from_residual-in_err-start.result ≡ Err c.in_err-start.field-0.0 = search rules in
    rw e (search (text_laws, h, c.in_err-start.ensures))

pub scan_after-requires : goal.scan_after-requires
scan_after-requires c = let h = read_kept _ _ c.next_heading.ensures _ c.in_ok-heading.ensures.cases in search (text_laws, h, c.in_ok-start.ensures)

pub returns-in_err-scan_after : goal.returns-in_err-scan_after
returns-in_err-scan_after c =
    let h = read_kept _ _ c.next_heading.ensures _ c.in_ok-heading.ensures.cases in
    let e : c.from_residual-in_err-scan_after.result ≡ Err c.in_err-scan_after.field-0.0 = search rules in
    rw e (search (text_laws, h, c.in_ok-start.ensures, c.in_err-scan_after.ensures))

pub returns : goal.returns
returns c = let h = read_kept _ _ c.next_heading.ensures _ c.in_ok-heading.ensures.cases in search (text_laws, h, c.in_ok-start.ensures, c.in_ok-scan_after.ensures)
