-- `of_found` meets its contract: what was found, laid (CaseLaws).
use Rattle.c_answers.proofs.CaseLaws.{part_in_rule, part_in_recording, found_read, found_refused}
use Rattle.c_answers.proofs.of_found.Goals.{in-Rule, in-Recording}
use Rattle.c_answers.proofs.of_found.Goals as goal

pub returns-in-Ok : goal.returns-in-Ok
returns-in-Ok c =
    found_read c.args.found c.match-found.text
    (elim c.match-found.branch [ in-Rule w ↦ part_in_rule c.args.found _ w.in-Rule.is w.text-is | in-Recording w ↦ part_in_recording c.args.found _ w.in-Recording.is w.text-is ])
    c.in-Ok.joined c.in-Ok.is

pub returns-in-Err : goal.returns-in-Err
returns-in-Err c =
    found_refused c.args.found c.match-found.text
    (elim c.match-found.branch [ in-Rule w ↦ part_in_rule c.args.found _ w.in-Rule.is w.text-is | in-Recording w ↦ part_in_recording c.args.found _ w.in-Recording.is w.text-is ])
    c.in-Err.refusal c.in-Err.is c.number.result c.number.ensures
