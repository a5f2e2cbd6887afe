-- `scan_rule` meets its contract (ReadLaws).
use Rattle.std.proofs.Common.{rules}
use Rattle.std.proofs.lemmas.Result.{err_from_is_err_and}
use Rattle.lines.specs.declared.Stop.{Stop}
use Rattle.lines.proofs.StopLaws.{mapped_ok, mapped_err}
use Rattle.rule_reader.specs.Reading.{unread}
use Rattle.rule_reader.proofs.ReadLaws.{rule_unheaded, rule_room, rule_stopped, rule_scanned}
use Rattle.rule_reader.proofs.scan_rule.Goals as goal

pub returns-in_err-heading : goal.returns-in_err-heading
returns-in_err-heading c =
    let p = err_from_is_err_and c.from_residual.result c.from_residual.ensures.1 in
    let m = mapped_err c.next_heading.result c.in_err-heading.field-0.0 _ c.in_err-heading.ensures.cases unread (λ e q. search rules) in
    let h = rw m.is at c.next_heading.ensures in
    rw (p.1, p.2, m.gives) (search (rule_unheaded, h))

pub scan_nodes-ended-requires : goal.scan_nodes-ended-requires
scan_nodes-ended-requires c = let h = rw (mapped_ok _ _ _ c.in_ok-heading.ensures.cases) at c.next_heading.ensures in search (rule_room, h)

pub returns-in_err-map_err : goal.returns-in_err-map_err
returns-in_err-map_err c =
    let h = rw (mapped_ok _ _ _ c.in_ok-heading.ensures.cases) at c.next_heading.ensures in
    let p = err_from_is_err_and c.from_residual-in_err-map_err.result c.from_residual-in_err-map_err.ensures.1 in
    let m = mapped_err c.scan_nodes-ended.result c.in_err-map_err.field-0.0 _ c.in_err-map_err.ensures.cases (λ (s : Stop). record { read = c.in_ok-heading.heading; stop = s }) (λ e q. search rules) in
    let s = rw m.is at c.scan_nodes-ended.ensures in
    rw (p.1, p.2, m.gives) (search (rule_stopped, h, s))

pub returns : goal.returns
returns c =
    let h = rw (mapped_ok _ _ _ c.in_ok-heading.ensures.cases) at c.next_heading.ensures in
    let s = rw (mapped_ok _ _ _ c.in_ok-map_err.ensures.cases) at c.scan_nodes-ended.ensures in
    search (rule_scanned, h, s)
