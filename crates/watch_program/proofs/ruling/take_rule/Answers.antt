-- `take_rule` meets its contract (RulingLaws: rule_laws).
use Rattle.watch_program.proofs.RulingLaws.{rule_laws}
use Rattle.watch_program.proofs.ruling.take_rule.Goals as goal

pub put_refused-requires : goal.put_refused-requires
put_refused-requires c = search rule_laws

pub returns-then-text-gt-INPUT_BYTES : goal.returns-then-text-gt-INPUT_BYTES
returns-then-text-gt-INPUT_BYTES c = search rule_laws

pub returns : goal.returns
returns c = search rule_laws
