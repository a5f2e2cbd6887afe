-- `of_session_verdicts` meets its contract (CaseLaws: case_laws).
use Rattle.c_answers.proofs.CaseLaws.{case_laws}
use Rattle.c_answers.proofs.of_session_verdicts.Goals as goal

pub returns-in-Ok-Some : goal.returns-in-Ok-Some
returns-in-Ok-Some c = search case_laws

pub returns-in-Ok-None : goal.returns-in-Ok-None
returns-in-Ok-None c = search case_laws

pub returns-in-Err : goal.returns-in-Err
returns-in-Err c = search case_laws
