-- `count` meets its contract (TallyLaws). The invariant: what the signs before this one come to.
use Rattle.one_line_signs.proofs.TallyLaws.{Counting}
use Rattle.one_line_signs.proofs.tally.count.Given as goal

abbrev pub invariant-loop-sign : goal.invariant-loop-sign
invariant-loop-sign l = Counting l.signs l.t l.sign-index
