-- `gather` meets its contract (WordLaws, `gathering_more`).
use Rattle.mark_words.proofs.WordLaws.{gather_laws}
use Rattle.mark_words.proofs.gather.Goals as goal

pub loop-k-init : goal.loop-k-init
loop-k-init c = search gather_laws

pub overflow_mul-word : goal.overflow_mul-word
overflow_mul-word c = search gather_laws

pub overflow_add-word : goal.overflow_add-word
overflow_add-word c = search gather_laws

pub loop-k-preserved : goal.loop-k-preserved
loop-k-preserved c = search gather_laws
