-- `hexadecimal`: the bytes passed are the digits of the value, which is below 16 to their number (HexLaws: hex_laws).
use Rattle.fields.proofs.HexLaws.{Weighed}
use Rattle.fields.proofs.number.hexadecimal.Given as goal

abbrev pub invariant-loop-b : goal.invariant-loop-b
invariant-loop-b l = Weighed l.width l.s l.v l.b-index
