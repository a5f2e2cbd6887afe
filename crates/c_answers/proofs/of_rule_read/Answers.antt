-- `of_rule_read` meets its contract (CaseLaws: case_laws).
use Rattle.c_answers.proofs.CaseLaws.{case_laws}
use Rattle.c_answers.proofs.of_rule_read.Goals as goal

pub returns-in-Ok : goal.returns-in-Ok
returns-in-Ok c = search case_laws

pub returns-in-Err : goal.returns-in-Err
returns-in-Err c = search case_laws
