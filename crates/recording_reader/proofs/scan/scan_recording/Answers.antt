-- `scan_recording` meets its contract: one law for each return, and the room that the lines ask (RecordingLaws).
use Rattle.std.proofs.Common.{rules}
use Rattle.std.proofs.lemmas.Result.{err_from_is_err_and}
use Rattle.lines.proofs.StopLaws.{mapped_ok, mapped_err}
use Rattle.lines.specs.declared.CutShort.{CutShort}
use Rattle.lines.specs.declared.Stop.{Stop}
use Rattle.gauges.specs.declared.gauge.Gauges.{Gauges}
use Rattle.rules.specs.declared.refusal.Refusal.{Refusal}
use Rattle.recording_reader.specs.Scanning.{unread}
use Rattle.recording_reader.proofs.RecordingLaws.{recording_unheaded, mask_room, recording_unmasked, recording_ungauged, state_room, recording_unstated, recording_scanned}
use Rattle.recording_reader.proofs.scan.scan_recording.Goals as goal

pub returns-in_err-heading : goal.returns-in_err-heading
returns-in_err-heading c =
    let p = err_from_is_err_and c.from_residual.result c.from_residual.ensures.1 in
    let m = mapped_err c.next_heading-opened.result c.in_err-heading.field-0.0 _ c.in_err-heading.ensures.cases (λ (e : Refusal). unread (record { refusal = e; at = 0 })) (λ e q. search rules) in
    let h = rw m.is at c.next_heading-opened.ensures in
    rw (p.1, p.2, m.gives) (search (recording_unheaded, h))

pub scan_masks-owned-requires : goal.scan_masks-owned-requires
scan_masks-owned-requires c = let h = rw (mapped_ok _ _ _ c.in_ok-heading.ensures.cases) at c.next_heading-opened.ensures in search (mask_room, h)

pub returns-in_err-start : goal.returns-in_err-start
returns-in_err-start c =
    let h = rw (mapped_ok _ _ _ c.in_ok-heading.ensures.cases) at c.next_heading-opened.ensures in
    let p = err_from_is_err_and c.from_residual-in_err-start.result c.from_residual-in_err-start.ensures.1 in
    let m = mapped_err c.scan_masks-owned.result c.in_err-start.field-0.0 _ c.in_err-start.ensures.cases unread (λ e q. search rules) in
    let o = rw m.is at c.scan_masks-owned.ensures in
    rw (p.1, p.2, m.gives) (search (recording_unmasked, h, o))

pub returns-in_err-gauges : goal.returns-in_err-gauges
returns-in_err-gauges c =
    let h = rw (mapped_ok _ _ _ c.in_ok-heading.ensures.cases) at c.next_heading-opened.ensures in
    let o = rw (mapped_ok _ _ _ c.in_ok-start.ensures.cases) at c.scan_masks-owned.ensures in
    let p = err_from_is_err_and c.from_residual-in_err-gauges.result c.from_residual-in_err-gauges.ensures.1 in
    let m = mapped_err c.scan_gauges.result c.in_err-gauges.field-0.0 _ c.in_err-gauges.ensures.cases (λ (cut : CutShort Gauges). unread cut.stop) (λ e q. search rules) in
    let g = rw m.is at c.scan_gauges.ensures in
    rw (p.1, p.2, m.gives) (search (recording_ungauged, h, o, g.number, g.inside, g.rest))

pub scan_states-ended-requires : goal.scan_states-ended-requires
scan_states-ended-requires c =
    let h = rw (mapped_ok _ _ _ c.in_ok-heading.ensures.cases) at c.next_heading-opened.ensures in
    let o = rw (mapped_ok _ _ _ c.in_ok-start.ensures.cases) at c.scan_masks-owned.ensures in
    let g = rw (mapped_ok _ _ _ c.in_ok-gauges.ensures.cases) at c.scan_gauges.ensures in
    search (state_room, h, o, g)

pub returns-in_err-map_err : goal.returns-in_err-map_err
returns-in_err-map_err c =
    let h = rw (mapped_ok _ _ _ c.in_ok-heading.ensures.cases) at c.next_heading-opened.ensures in
    let o = rw (mapped_ok _ _ _ c.in_ok-start.ensures.cases) at c.scan_masks-owned.ensures in
    let g = rw (mapped_ok _ _ _ c.in_ok-gauges.ensures.cases) at c.scan_gauges.ensures in
    let p = err_from_is_err_and c.from_residual-in_err-map_err.result c.from_residual-in_err-map_err.ensures.1 in
    let m = mapped_err c.scan_states-ended.result c.in_err-map_err.field-0.0 _ c.in_err-map_err.ensures.cases (λ (s : Stop). record { read = c.in_ok-heading.heading; stop = s }) (λ e q. search rules) in
    let s = rw m.is at c.scan_states-ended.ensures in
    rw (p.1, p.2, m.gives) (search (recording_unstated, h, o, g, s))

pub returns : goal.returns
returns c =
    let h = rw (mapped_ok _ _ _ c.in_ok-heading.ensures.cases) at c.next_heading-opened.ensures in
    let o = rw (mapped_ok _ _ _ c.in_ok-start.ensures.cases) at c.scan_masks-owned.ensures in
    let g = rw (mapped_ok _ _ _ c.in_ok-gauges.ensures.cases) at c.scan_gauges.ensures in
    let s = rw (mapped_ok _ _ _ c.in_ok-map_err.ensures.cases) at c.scan_states-ended.ensures in
    search (recording_scanned, h, o, g, s)
