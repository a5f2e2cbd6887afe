-- `ones` meets its contract: a power of two less one (WordLaws, `full_shl`).
use Rattle.std.proofs.Common.{arith}
use Rattle.mark_words.proofs.WordLaws.{full_shl}
use Rattle.mark_words.proofs.ones.Goals as goal

pub returns : goal.returns
returns c = omega (arith, full_shl c.before.args.n (omega arith))
