-- `put_field`: a tab, then the digits (PrintLaws: field_written).
use Rattle.printing.proofs.PrintLaws.{field_written}
use borrow.Author.Rules.{rules}
use Rattle.printing.proofs.put_field.Goals as goal

pub returns : goal.returns
returns c = search (rules, field_written)
