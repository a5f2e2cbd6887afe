-- `put`: the bytes passed lie in the text (PrintLaws: put_laws).
use Rattle.printing.proofs.PrintLaws.{Copied}
use Rattle.printing.proofs.put.Given as goal

abbrev pub invariant-loop-i : goal.invariant-loop-i
invariant-loop-i l = Copied l.word l.initial.text l.at l.text l.i
