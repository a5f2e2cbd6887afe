-- `Row::last` meets its contract: the last place lies in the low word, or in the high (PackedLaws).
use Rattle.rows.proofs.PackedLaws.{packed_laws}
use Rattle.rows.proofs.Row.last.Goals as goal

pub returns-then-count-le-WORD_MARKS : goal.returns-then-count-le-WORD_MARKS
returns-then-count-le-WORD_MARKS c = search packed_laws

pub returns : goal.returns
returns c = search packed_laws
