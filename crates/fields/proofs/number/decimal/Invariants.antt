-- `decimal`: the bytes passed are the digits of the value, or of more than the largest (FieldLaws: decimal_laws).
use Rattle.fields.proofs.FieldLaws.{Counted}
use Rattle.fields.proofs.number.decimal.Given as goal

abbrev pub invariant-loop-b : goal.invariant-loop-b
invariant-loop-b l = Counted l.s l.v l.b-index
