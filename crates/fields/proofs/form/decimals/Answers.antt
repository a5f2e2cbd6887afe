-- `decimals` meets its contract: one law for each return (FormLaws).
use Rattle.definitions.specs.Lines.{decimal}
use Rattle.fields.specs.Fields.{cap}
use Rattle.fields.proofs.FormLaws.{two_none, two_first, two_second, two_read}
use Rattle.fields.proofs.form.decimals.Goals as goal

pub returns-in_err-first : goal.returns-in_err-first
returns-in_err-first c = rw c.from_residual.ensures (two_none cap decimal decimal c.args.s.now c.in_err-first.ensures.parts)

pub returns-in_err-a : goal.returns-in_err-a
returns-in_err-a c = rw c.from_residual-in_err-a.ensures (two_first cap decimal decimal c.args.s.now c.in_ok-first.first.now c.in_ok-first.second.now c.in_ok-first.ensures.parts c.in_err-a.ensures)

pub returns-in_err-b : goal.returns-in_err-b
returns-in_err-b c = rw c.from_residual-in_err-b.ensures (two_second cap decimal decimal c.args.s.now c.in_ok-first.first.now c.in_ok-first.second.now c.in_ok-first.ensures.parts c.in_ok-a.a c.in_ok-a.ensures c.in_err-b.ensures)

pub returns : goal.returns
returns c = two_read cap decimal decimal c.args.s.now c.in_ok-first.first.now c.in_ok-first.second.now c.in_ok-first.ensures.parts c.in_ok-a.a c.in_ok-a.ensures c.in_ok-b.b c.in_ok-b.ensures
