-- `among`: the library's search is that of the definitions (LineLaws, `any_among`).
use Rattle.std.proofs.Common.{rules, ◌∙◌}
use borrow.Author.Tests.{tests}
use lib.Dec.{eqb}
use Rattle.std.proofs.lemmas.Iterator.{YieldsList-from_slice}
use Rattle.std.proofs.lemmas.Iterator.Search.{any_from_yields_List}
use Rattle.gauges.proofs.LineLaws.{any_among}
use Rattle.gauges.proofs.line.among.Goals as goal

pub returns : goal.returns
returns c =
    any_from_yields_List (λ g. eqb c.args.atom g.atom) _ _ c.any.result c.any.ensures.ran (YieldsList-from_slice c.args.gauges.now cc) (λ x b q k. search (rules, tests))
    ∙ any_among c.args.atom c.args.gauges.now
