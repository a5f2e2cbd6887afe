-- `any_set`: the library's search is that of the definitions (LineLaws, `any_bit`).
use Rattle.std.proofs.Common.{rules, ◌∙◌}
use Rattle.std.proofs.lemmas.Iterator.{YieldsList-from_slice}
use Rattle.std.proofs.lemmas.Iterator.Search.{any_from_yields_List}
use Rattle.definitions.specs.Bounded.{bit_of}
use Rattle.gauges.proofs.LineLaws.{any_bit}
use Rattle.gauges.proofs.line.any_set.Goals as goal

pub returns : goal.returns
returns c =
    any_from_yields_List (λ g. bit_of c.args.w g.atom) _ _ c.any.result c.any.ensures.ran (YieldsList-from_slice c.args.gauges.now cc) (λ x b q k. search rules)
    ∙ any_bit c.args.w c.args.gauges.now
