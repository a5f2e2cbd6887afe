-- `Row::push` meets its contract: the new place lies in the low word, or in the high (PackedLaws).
use Rattle.rows.proofs.PackedLaws.{push_low, push_high}
use Rattle.rows.proofs.Row.push.Goals as goal

pub returns-then-n-lt-WORD_MARKS : goal.returns-then-n-lt-WORD_MARKS
returns-then-n-lt-WORD_MARKS c = search push_low

pub returns : goal.returns
returns c = search push_high
