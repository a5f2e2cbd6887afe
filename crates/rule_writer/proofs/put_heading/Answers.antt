-- `put_heading` meets its contract: one law for each return (PenLaws).
use Rattle.rule_writer.proofs.PenLaws.{heading_laws}
use Rattle.rule_writer.proofs.put_heading.Goals as goal

pub put_field-after_controller-requires : goal.put_field-after_controller-requires
put_field-after_controller-requires c = search heading_laws

pub put_field-after_count-requires : goal.put_field-after_count-requires
put_field-after_count-requires c = search heading_laws

pub returns : goal.returns
returns c = search heading_laws
