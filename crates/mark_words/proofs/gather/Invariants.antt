-- `gather` meets its contract (WordLaws, `gathering_more`). The invariant: the word of the states from k on.
use Rattle.mark_words.proofs.WordLaws.{Gathering}
use Rattle.mark_words.proofs.gather.Given as goal

abbrev pub invariant-loop-k : goal.invariant-loop-k
invariant-loop-k l = Gathering l.states l.from l.to l.bit l.word l.k
