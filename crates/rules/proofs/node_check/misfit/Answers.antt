-- `misfit` meets its contract (FitLaws, `misfit_refused`, `number_picked`).
use Rattle.rules.proofs.FitLaws.{misfit_refused, number_picked}
use Rattle.rules.specs.Meaning.{meaning}
use Rattle.rules.proofs.node_check.misfit.Goals as goal

pub returns : goal.returns
returns c rewritten i f = rw (c.pick.ensures, number_picked, c.takes_nodes.ensures, c.unused_clear.ensures) (misfit_refused rewritten i (meaning c.args.n) f)
