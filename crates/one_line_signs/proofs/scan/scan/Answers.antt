-- `scan` meets its contract (ScanLaws).
use Rattle.std.proofs.Common.{rules, arith}
use Rattle.one_line_signs.proofs.TokenLaws.{none_told}
use Rattle.one_line_signs.proofs.ScanLaws.{scan_start, scan_none, scan_end, scan_last, scan_again}
use Rattle.one_line_signs.proofs.scan.scan.Goals as goal

pub loop-i-init : goal.loop-i-init
loop-i-init c = scan_start _ _

pub returns-in_err-sign : goal.returns-in_err-sign
returns-in_err-sign c = none_told _ c.from_residual.ensures (scan_none _ _ _ _ c.loop-i.invariant c.in_err-sign.ensures)

pub returns-then-is_empty : goal.returns-then-is_empty
returns-then-is_empty c = scan_last _ _ _ _ c.loop-i.invariant (omega arith) _ _ c.in_ok-sign.ensures (search rules)

pub loop-i-preserved : goal.loop-i-preserved
loop-i-preserved c = scan_again _ _ _ _ c.loop-i.invariant (omega arith) _ _ c.in_ok-sign.ensures (search rules) _ c.after_space-text.ensures

pub returns : goal.returns
returns c = scan_end _ _ _ _ c.loop-i.invariant (omega arith) (omega arith)
