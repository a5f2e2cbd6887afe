-- `put_node` meets its contract: one law for each return (PenLaws).
use Rattle.rule_writer.proofs.PenLaws.{pen_laws}
use Rattle.rule_writer.proofs.put_node.Goals as goal

pub put_kind-after_kind-requires : goal.put_kind-after_kind-requires
put_kind-after_kind-requires c = search pen_laws

pub returns-then-uses-eq0 : goal.returns-then-uses-eq0
returns-then-uses-eq0 c = search pen_laws

pub put_field-after_first-requires : goal.put_field-after_first-requires
put_field-after_first-requires c = search pen_laws

pub returns-then-uses-eq1 : goal.returns-then-uses-eq1
returns-then-uses-eq1 c = search pen_laws

pub put_field-requires : goal.put_field-requires
put_field-requires c = search pen_laws

pub returns : goal.returns
returns c = search pen_laws
