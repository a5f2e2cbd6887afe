-- `Row::full` meets its contract: the marks lie in the low word, or in both (PackedLaws).
use Rattle.rows.proofs.PackedLaws.{packed_laws}
use Rattle.rows.proofs.Row.full.Goals as goal

pub returns-then-count-le-WORD_MARKS : goal.returns-then-count-le-WORD_MARKS
returns-then-count-le-WORD_MARKS c = search packed_laws

pub returns : goal.returns
returns c = search packed_laws
