-- `scan_gauges` meets its contract (ScanLaws: scan_gauges_laws).
use Rattle.gauges.proofs.ScanLaws.{GaugesLeft}
use Rattle.gauges.proofs.scan.scan_gauges.Given as goal

abbrev pub invariant-loop : goal.invariant-loop
invariant-loop l = GaugesLeft l.start l.text l.gauges l.counter
