-- `asked_by` meets its contract (AskedLaws: asked_laws).
use Rattle.program_input.proofs.AskedLaws.{asked_laws}
use Rattle.program_input.proofs.asked.asked_by.Goals as goal

pub returns-then-first-input : goal.returns-then-first-input
returns-then-first-input c = search asked_laws

pub returns-then-same : goal.returns-then-same
returns-then-same c = search asked_laws

pub returns-then-same-2 : goal.returns-then-same-2
returns-then-same-2 c = search asked_laws

pub returns : goal.returns
returns c = search asked_laws
