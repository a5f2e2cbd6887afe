-- `hexadecimals` meets its contract: one law for each return (FormLaws).
use Rattle.definitions.specs.Lines.{hexadecimal}
use Rattle.fields.proofs.FormLaws.{two_none, two_first, two_second, two_read}
use Rattle.fields.proofs.form.hexadecimals.Goals as goal

pub returns-in_err-one : goal.returns-in_err-one
returns-in_err-one c = rw c.from_residual.ensures (two_none (λ v. v) (hexadecimal c.args.first) (hexadecimal c.args.second) c.args.s.now c.in_err-one.ensures.parts)

pub returns-in_err-m : goal.returns-in_err-m
returns-in_err-m c = rw c.from_residual-in_err-m.ensures (two_first (λ v. v) (hexadecimal c.args.first) (hexadecimal c.args.second) c.args.s.now c.in_ok-one.one.now c.in_ok-one.two.now c.in_ok-one.ensures.parts c.in_err-m.ensures)

pub returns-in_err-n : goal.returns-in_err-n
returns-in_err-n c = rw c.from_residual-in_err-n.ensures (two_second (λ v. v) (hexadecimal c.args.first) (hexadecimal c.args.second) c.args.s.now c.in_ok-one.one.now c.in_ok-one.two.now c.in_ok-one.ensures.parts c.in_ok-m.m c.in_ok-m.ensures c.in_err-n.ensures)

pub returns : goal.returns
returns c = two_read (λ v. v) (hexadecimal c.args.first) (hexadecimal c.args.second) c.args.s.now c.in_ok-one.one.now c.in_ok-one.two.now c.in_ok-one.ensures.parts c.in_ok-m.m c.in_ok-m.ensures c.in_ok-n.n c.in_ok-n.ensures
