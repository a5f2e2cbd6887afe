-- `print`: the number falls.
use Rattle.printing.proofs.+print.Given as goal

abbrev pub decreases-print : goal.decreases-print
decreases-print l = l.n
