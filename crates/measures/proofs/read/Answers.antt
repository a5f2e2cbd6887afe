-- `read` meets its contract (MeasureLaws: read_minus, read_plain).
use Rattle.std.proofs.Common.{rules, sym, ◌∙◌}
use Rattle.measures.proofs.MeasureLaws.{read_minus, read_plain}
use Rattle.measures.proofs.read.Goals as goal

pub returns-in-Some : goal.returns-in-Some
returns-in-Some c =
    read_minus c.args.s.now c.in-Some.digits.now (search rules) (search rules) c.in_ok-n.n (sym c.in_ok-n.ensures.ok_part ∙ c.hundredths.ensures) (search rules) c.negated.result c.negated.ensures
    c.limited.result c.limited.ensures

pub returns : goal.returns
returns c =
    read_plain c.args.s.now (search rules) c.in_ok-amount.amount (sym c.in_ok-amount.ensures.ok_part ∙ c.hundredths-2.ensures) c.plain.result c.plain.ensures c.limited-2.result c.limited-2.ensures
