-- `values` meets its contract (ValuesLaws: values_more).
use Rattle.gauges.proofs.ValuesLaws.{values_laws}
use Rattle.gauges.proofs.values.values.Goals as goal

pub returns-then-tab-t : goal.returns-then-tab-t
returns-then-tab-t c = search values_laws
