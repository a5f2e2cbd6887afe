-- `split`: the library's search is that of the definitions (ScanLaws: split_none, split_some), and the parts lie before and after what it found (split_counts).
use Rattle.std.proofs.Common.{rules, refl}
use borrow.Author.Tests.{tests}
use lib.Dec.{eqb}
use Rattle.std.proofs.lemmas.Iterator.{YieldsList-from_slice}
use Rattle.std.proofs.lemmas.Iterator.Search.{position_from_yields_List}
use Rattle.lines.proofs.ScanLaws.{split_none, split_some, split_counts}
use Rattle.lines.proofs.scan.split.Goals as goal

pub returns-in_err-i : goal.returns-in_err-i
returns-in_err-i c =
    let found = position_from_yields_List (λ x. eqb x c.args.b) _ _ c.position.result c.position.ensures.ran (YieldsList-from_slice c.args.s.now cc) (λ x b q k. search (rules, tests)) in
    rw c.from_residual.ensures (record { parts = split_none c.args.b c.args.s.now c.position.result found c.in_err-i.was; places = tt })

pub returns : goal.returns
returns c =
    let found = position_from_yields_List (λ x. eqb x c.args.b) _ _ c.position.result c.position.ensures.ran (YieldsList-from_slice c.args.s.now cc) (λ x b q k. search (rules, tests)) in
    record {
      parts = rw c.after-rest.ensures.reads (split_some c.args.b c.args.s.now c.position.result found c.in_ok-i.i c.in_ok-i.was);
      places = record {
        begins = refl;
        follows = rw (split_counts c.args.b c.args.s.now c.position.result found c.in_ok-i.i c.in_ok-i.was) c.after-rest.ensures;
      };
    }
