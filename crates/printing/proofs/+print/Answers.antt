-- `print`: the digits of a tenth, and then the last digit (PrintLaws: print_laws).
use Rattle.printing.proofs.PrintLaws.{print_laws}
use Rattle.printing.proofs.+print.Goals as goal

pub bounds-text-at : goal.bounds-text-at
bounds-text-at t c = search print_laws

pub returns-then-n-lt10 : goal.returns-then-n-lt10
returns-then-n-lt10 t c = search print_laws

pub print-next-requires : goal.print-next-requires
print-next-requires t c = search print_laws

pub bounds-text-next : goal.bounds-text-next
bounds-text-next t c = search print_laws

pub overflow_add-result-2 : goal.overflow_add-result-2
overflow_add-result-2 t c = search print_laws

pub returns : goal.returns
returns t c = search print_laws
