-- What falls from call to call, and what the loops of `ors` and `ands` keep: what was read so far.
use Rattle.std.proofs.Common.{length}
use Rattle.definitions.specs.OneLineGrammar.{Ors, Ands}
use Rattle.one_line_readers.specs.Reading.{Read}
use Rattle.one_line_readers.proofs.ReadLaws.{measure}
use Rattle.one_line_readers.proofs.+levels.Given as goal

abbrev pub decreases-ands : goal.decreases-ands
decreases-ands l = measure l.left (length l.signs.now) 4

abbrev pub decreases-arrows : goal.decreases-arrows
decreases-arrows l = measure l.left (length l.signs.now) 6

abbrev pub decreases-ors : goal.decreases-ors
decreases-ors l = measure l.left (length l.signs.now) 5

abbrev pub decreases-prefixes : goal.decreases-prefixes
decreases-prefixes l = measure l.left (length l.signs.now) 2

abbrev pub decreases-primaries : goal.decreases-primaries
decreases-primaries l = measure l.left (length l.signs.now) 1

abbrev pub decreases-untils : goal.decreases-untils
decreases-untils l = measure l.left (length l.signs.now) 3

abbrev pub invariant-ands-loop-after : goal.invariant-ands-loop-after
invariant-ands-loop-after l = Read Ands 4 l.signs l.fn.out l.rest l.out

abbrev pub decreases-ands-loop-after : goal.decreases-ands-loop-after
decreases-ands-loop-after l = length l.rest

abbrev pub invariant-ors-loop-after : goal.invariant-ors-loop-after
invariant-ors-loop-after l = Read Ors 3 l.signs l.fn.out l.rest l.out

abbrev pub decreases-ors-loop-after : goal.decreases-ors-loop-after
decreases-ors-loop-after l = length l.rest
