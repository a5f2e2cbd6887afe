-- `until_byte`: the library's search is that of the definitions (ScanLaws, `located`).
use Rattle.std.proofs.Common.{rules}
use borrow.Author.Tests.{tests}
use lib.Dec.{eqb}
use Rattle.std.proofs.lemmas.Iterator.{YieldsList-from_slice}
use Rattle.std.proofs.lemmas.Iterator.Search.{position_from_yields_List}
use Rattle.lines.proofs.ScanLaws.{located}
use Rattle.lines.proofs.scan.until_byte.Goals as goal

pub returns : goal.returns
returns c =
    rw c.unwrap_or.ensures
    (located c.args.b c.args.s.now c.position.result
    (position_from_yields_List (λ x. eqb x c.args.b) _ _ c.position.result c.position.ensures.ran (YieldsList-from_slice c.args.s.now cc) (λ x b q k. search (rules, tests))))
