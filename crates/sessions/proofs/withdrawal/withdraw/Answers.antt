-- `withdraw` meets its contract (WithdrawalLaws, `withdraw_taken`).
use Rattle.sessions.proofs.WithdrawalLaws.{withdraw_laws}
use Rattle.sessions.proofs.withdrawal.withdraw.Goals as goal

pub returns-then-states-lt-STATES : goal.returns-then-states-lt-STATES
returns-then-states-lt-STATES c = search withdraw_laws

pub returns-then-held-eq0 : goal.returns-then-held-eq0
returns-then-held-eq0 c = search withdraw_laws

pub returns-then-held-gt-STATES : goal.returns-then-held-gt-STATES
returns-then-held-gt-STATES c = search withdraw_laws

pub returns : goal.returns
returns c = search withdraw_laws
