-- `lay_line` meets its contract: one law for each return (ScanningLaws: line_laws).
use Rattle.std.proofs.Common.{rules, Err, ◌≡◌}
use Rattle.signals.proofs.ScanningLaws.{line_laws, line_other, line_long, line_room, line_laid}
use Rattle.signals.proofs.reading.lay_line.Goals as goal

pub returns-in_default : goal.returns-in_default
returns-in_default c = search line_laws

pub returns-in_err-unless : goal.returns-in_err-unless
returns-in_err-unless c =
    let a = c.args in
    let e : c.from_residual.result ≡ Err c.in_err-unless.field-0.0 = search rules in
    rw e (line_other a.controllers a.count a.j a.s.now a.states.now c.in-Some.word.now c.in-Some.field.now c.in-Some.ensures.parts c.opens.result c.opens.ensures
    c.in_err-unless.field-0.0 c.in_err-unless.ensures)

pub returns-in_err-unless-2 : goal.returns-in_err-unless-2
returns-in_err-unless-2 c =
    let a = c.args in
    let e : c.from_residual-in_err-unless-2.result ≡ Err c.in_err-unless-2.field-0.0 = search rules in
    rw e (line_long a.controllers a.count a.j a.s.now a.states.now c.in-Some.word.now c.in-Some.field.now c.in-Some.ensures.parts c.opens.result c.opens.ensures
    c.in_ok-unless.ensures c.in_err-unless-2.field-0.0 c.in_err-unless-2.ensures)

pub overflow_shl-place : goal.overflow_shl-place
overflow_shl-place c = search line_laws

pub lay-requires : goal.lay-requires
lay-requires c =
    let a = c.args in
    line_room a.controllers a.count a.j a.s.now a.states.now c.in-Some.word.now c.in-Some.field.now c.in-Some.ensures.parts c.opens.result c.opens.ensures
    c.in_ok-unless.ensures c.in_ok-unless-2.ensures c.place.result c.place.ensures c.requires

pub returns : goal.returns
returns c =
    let a = c.args in
    line_laid a.controllers a.count a.j a.s.now a.states.now c.in-Some.word.now c.in-Some.field.now c.in-Some.ensures.parts c.opens.result c.opens.ensures
    c.in_ok-unless.ensures c.in_ok-unless-2.ensures c.place.result c.place.ensures c.requires _ c.lay.new.states c.lay.ensures
