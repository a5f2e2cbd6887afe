-- `Row::or` meets its contract: the words of a whole row are those of its marks (RowLaws).
use Rattle.rows.proofs.RowLaws.{or_made}
use Rattle.rows.proofs.Row.or.Goals as goal

pub returns : goal.returns
returns c =
    or_made c.args.self c.args.q c.low.result c.low-2.result c.high.result c.high-2.result c.low.ensures c.low-2.ensures c.high.ensures c.high-2.ensures
    c.requires.0 c.requires.1 c.requires.2
