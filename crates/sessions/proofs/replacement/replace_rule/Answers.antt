-- `replace_rule` meets its contract (ReplacementLaws, `replace_refused`, `replace_taken`).
use Rattle.std.proofs.Common.{rules, Err, ◌≡◌}
use Rattle.sessions.proofs.ReplacementLaws.{replace_laws}
use Rattle.sessions.proofs.replacement.replace_rule.Goals as goal

pub returns-then-nodes-lt-RULE_NODES : goal.returns-then-nodes-lt-RULE_NODES
returns-then-nodes-lt-RULE_NODES c = search replace_laws

pub returns-in_err-check_replacement : goal.returns-in_err-check_replacement
returns-in_err-check_replacement c =
    let e : c.from_residual.result ≡ Err c.in_err-check_replacement.field-0.0 = search rules in
    rw e (search (replace_laws, c.in_err-check_replacement.ensures))

pub returns : goal.returns
returns c = search (replace_laws, c.in_ok-check_replacement.ensures)
