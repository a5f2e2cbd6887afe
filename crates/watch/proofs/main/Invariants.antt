-- Each read uses up some of what may still come.
use Rattle.watch.proofs.main.Given as goal

abbrev pub decreases-loop-left : goal.decreases-loop-left
decreases-loop-left l = l.left
