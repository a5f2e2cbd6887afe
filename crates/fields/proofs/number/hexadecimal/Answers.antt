-- `hexadecimal`: the bytes passed are the digits of the value, which is below 16 to their number (HexLaws: hex_next).
use Rattle.fields.proofs.HexLaws.{hex_next}
use Rattle.fields.proofs.number.hexadecimal.Goals as goal

pub loop-b-preserved : goal.loop-b-preserved
loop-b-preserved c = hex_next c.args.width c.args.s.now c.loop-b.v c.loop-b.b-index c.loop-b.invariant c.loop-b-test.true c.in_ok-v.field-0 c.in_ok-v.ensures
