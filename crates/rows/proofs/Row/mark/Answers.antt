-- `Row::mark` meets its contract: a bit of one of its words (PackedLaws).
use Rattle.definitions.specs.Bounded.{bit_of}
use Rattle.rows.proofs.PackedLaws.{mark_is}
use Rattle.rows.proofs.Row.mark.Goals as goal

pub returns : goal.returns
unfolding bit_of
returns c = mark_is c.args.self c.args.i c.requires.0 c.requires.1
