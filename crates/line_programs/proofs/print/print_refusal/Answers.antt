-- `print_refusal` meets its contract (PrintLaws: refusal_laws).
use Rattle.line_programs.proofs.PrintLaws.{refusal_laws}
use Rattle.line_programs.proofs.print.print_refusal.Goals as goal

pub put_field-after_number-requires : goal.put_field-after_number-requires
put_field-after_number-requires c = search refusal_laws

pub put_byte-end-requires : goal.put_byte-end-requires
put_byte-end-requires c = search refusal_laws

pub clear-requires : goal.clear-requires
clear-requires c = search refusal_laws

pub returns : goal.returns
returns c = search refusal_laws
