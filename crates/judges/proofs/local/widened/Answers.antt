-- `widened` meets its contract: one word more is there, and those before it stay.
use Rattle.std.proofs.Common.{◌∙◌, ◌<◌, ◌≡◌, length, set, get_or-set_same, get_or-take, length-take, length-set, arith}
use Rattle.std.proofs.lemmas.List.{take_more_same}
use lib.Seq.{take-set-le}
use Rattle.judges.proofs.local.widened.Goals as goal

pub loop-i-preserved : goal.loop-i-preserved
loop-i-preserved c =
    let i = c.loop-i.i in
    let words = c.args.words.now in
    let states = c.loop-i.states in
    let so = c.loop-i.invariant in
    let low : i < c.args.n = omega (arith, length-take c.args.n words) in
    let there : i < length words = omega (arith, length-take c.args.n words) in
    let room : i < length states = omega (arith, so.size) in
    let longer : length (set states i c.from.result) ≡ length states = length-set states i c.from.result in
    record {
      size = longer ∙ so.size;
      taken = take_more_same (set states i c.from.result) words i 0 (omega (arith, longer)) there (take-set-le i states i c.from.result (omega arith) ∙ so.taken)
          (get_or-set_same states i c.from.result 0 room ∙ c.from.ensures ∙ get_or-take c.args.n words i 0 low);
    }
