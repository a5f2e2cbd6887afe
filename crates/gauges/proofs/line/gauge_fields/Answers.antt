-- `gauge_fields` meets its contract (LineLaws: fields_high).
use Rattle.std.proofs.Common.{rules}
use Rattle.gauges.proofs.LineLaws.{fields_high}
use Rattle.gauges.proofs.line.gauge_fields.Goals as goal

pub returns-then-atom-ge-ATOMS : goal.returns-then-atom-ge-ATOMS
returns-then-atom-ge-ATOMS c =
    fields_high _ c.args.s.now _ _ (rw c.in_ok-first.ensures.ok_part at c.split.ensures.parts) c.in_ok-atom.atom (rw c.in_ok-atom.ensures.ok_part at c.decimal.ensures) c.in_ok-threshold.threshold c.in_ok-threshold.ensures (search rules)
