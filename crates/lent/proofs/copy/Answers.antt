-- `copy` meets its contract (LayLaws, `copying_more`, `copying_done`). The invariant: the words before i are there.
use Rattle.lent.proofs.LayLaws.{copy_laws}
use Rattle.lent.proofs.copy.Goals as goal

pub loop-i-init : goal.loop-i-init
loop-i-init c = search copy_laws

pub offset_bounds-words-i : goal.offset_bounds-words-i
offset_bounds-words-i c = search copy_laws

pub bounds-words-i : goal.bounds-words-i
bounds-words-i c = search copy_laws

pub offset_bounds-lent-i : goal.offset_bounds-lent-i
offset_bounds-lent-i c = search copy_laws

pub bounds-lent-i : goal.bounds-lent-i
bounds-lent-i c = search copy_laws

pub overflow_step-i : goal.overflow_step-i
overflow_step-i c = search copy_laws

pub loop-i-smaller : goal.loop-i-smaller
loop-i-smaller c = search copy_laws

pub loop-i-preserved : goal.loop-i-preserved
loop-i-preserved c = search copy_laws

pub shape_of-lent : goal.shape_of-lent
shape_of-lent c = search copy_laws

pub returns : goal.returns
returns c = search copy_laws
