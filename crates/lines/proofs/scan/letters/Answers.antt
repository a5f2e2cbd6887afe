-- `letters`: the library's test of each byte is that of the definitions (ScanLaws, `all_letters`).
use Rattle.std.proofs.Common.{rules, ◌∙◌}
use borrow.Author.Tests.{tests}
use Rattle.definitions.specs.Bounded.{within}
use Rattle.std.proofs.lemmas.Iterator.{YieldsList-from_slice}
use Rattle.std.proofs.lemmas.Iterator.Search.{all_from_yields_List}
use Rattle.lines.proofs.ScanLaws.{all_letters}
use Rattle.lines.proofs.scan.letters.Goals as goal

pub returns : goal.returns
returns c =
    all_from_yields_List (within 97 122) _ _ c.all.result c.all.ensures.ran (YieldsList-from_slice c.args.s.now cc) (λ x b q k. search (rules, tests))
    ∙ all_letters c.args.s.now
