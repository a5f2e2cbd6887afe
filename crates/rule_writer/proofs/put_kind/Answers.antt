-- `put_kind` meets its contract: the word that was taken is the kind's.
use Rattle.rule_writer.proofs.put_kind.Goals as goal

pub put-requires : goal.put-requires
put-requires c = rw c.word_of.ensures c.requires

pub returns : goal.returns
returns c = rw c.word_of.ensures at c.put.ensures
