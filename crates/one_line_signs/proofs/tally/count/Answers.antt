-- `count`, a turn: one sign more (TallyLaws, `count_again`). TallyLaws, `count_laws`, carries the rest.
use Rattle.one_line_signs.proofs.TallyLaws.{count_again}
use Rattle.one_line_signs.proofs.tally.count.Goals as goal

pub loop-sign-preserved : goal.loop-sign-preserved
loop-sign-preserved c = count_again _ _ _ c.loop-sign.invariant _ _ c.loop-sign-test.true c.with-t.ensures
