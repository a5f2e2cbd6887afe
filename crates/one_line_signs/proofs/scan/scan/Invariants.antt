-- `scan` meets its contract (ScanLaws). The invariant: the signs before the text that is left.
use Rattle.one_line_signs.proofs.ScanLaws.{Scanning}
use Rattle.one_line_signs.proofs.scan.scan.Given as goal

abbrev pub invariant-loop-i : goal.invariant-loop-i
invariant-loop-i l = Scanning l.line l.text l.i l.signs
