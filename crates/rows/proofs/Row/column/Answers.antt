-- `Row::column` meets its contract: the states of one word, or of two (PackedLaws).
use native.Mathlib.Omega.{arith}
use Rattle.rows.proofs.PackedLaws.{column_low, column_high}
use Rattle.rows.proofs.Row.column.Goals as goal

pub returns-then-n-le-WORD_MARKS : goal.returns-then-n-le-WORD_MARKS
returns-then-n-le-WORD_MARKS c =
    let a = c.args in
    column_low a.states.now a.n a.bit c.gather.result c.gather.ensures (omega arith)

pub returns : goal.returns
returns c =
    let a = c.args in
    column_high a.states.now a.n a.bit c.gather-2.result c.gather-3.result c.gather-2.ensures c.gather-3.ensures (omega arith) c.requires.0
