-- `clear` meets its contract: the part that the loop went over is zero, what stands before and behind it is as it was.
use Rattle.std.proofs.Common.{◌≡◌, ◌-◌, ◌+◌, length, arith, take, drop, replicate, length-drop, sym, ◌∙◌}
use Rattle.std.proofs.lemmas.List.{take_all, drop-drop, length-take-le}
use Rattle.lent.specs.Space.{filled}
use Rattle.lent.proofs.clear.Goals as goal

pub returns : goal.returns
unfolding filled
returns g c =
    let n : length (take (c.args.to - c.args.from) (drop c.args.from c.args.entries.now)) ≡ c.args.to - c.args.from
    = length-take-le _ _ (omega (arith, length-drop c.args.from c.args.entries.now)) in
    let all : c.loop-entry.entry-index ≡ c.args.to - c.args.from = omega arith in
    let zeros : c.loop-entry.entry-items ≡ replicate (c.args.to - c.args.from) g.T.Zero.ZERO
    = sym (take_all _ _ (omega arith)) ∙ (rw all at c.loop-entry.invariant) in
    let past : c.args.from + (c.args.to - c.args.from) ≡ c.args.to = omega arith in
    rw (zeros, drop-drop, past)
