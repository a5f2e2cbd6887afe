-- `digit` meets its contract (WritingLaws: digit_laws).
use Rattle.signals.proofs.WritingLaws.{digit_laws}
use Rattle.signals.proofs.writing.digit.Goals as goal

pub overflow_shr-result : goal.overflow_shr-result
overflow_shr-result c = search digit_laws

pub overflow_cast-result : goal.overflow_cast-result
overflow_cast-result c = search digit_laws

pub overflow_add-result : goal.overflow_add-result
overflow_add-result c = search digit_laws

pub returns : goal.returns
returns c = search digit_laws
