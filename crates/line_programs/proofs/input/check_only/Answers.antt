-- `check_only` meets its contract (PrintLaws: only_laws).
use Rattle.line_programs.proofs.PrintLaws.{only_laws}
use Rattle.line_programs.proofs.input.check_only.Goals as goal

pub returns-in_err-unless : goal.returns-in_err-unless
returns-in_err-unless c = search only_laws

pub returns : goal.returns
returns c = search only_laws
