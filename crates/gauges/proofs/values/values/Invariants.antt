-- `values` meets its contract (ValuesLaws: values_laws).
use Rattle.gauges.proofs.ValuesLaws.{Valuing}
use Rattle.gauges.proofs.values.values.Given as goal

abbrev pub invariant-loop-gauge : goal.invariant-loop-gauge
invariant-loop-gauge l = Valuing l.gauges l.before l.s l.t l.tab l.finished l.gauge-index
