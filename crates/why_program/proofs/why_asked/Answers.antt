-- `why_asked` meets its contract (WhyLaws: asked_printed).
use Rattle.why_program.proofs.WhyLaws.{asked_printed}
use Rattle.why_program.proofs.why_asked.Goals as goal

pub returns : goal.returns
returns c = search asked_printed
