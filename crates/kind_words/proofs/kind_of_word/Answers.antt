-- `kind_of_word` meets its contract: the library's search is that of the definition (WordLaws, `kind_found`).
use Rattle.std.proofs.Common.{rules}
use Rattle.std.proofs.lemmas.Iterator.{YieldsList-from_slice}
use Rattle.std.proofs.lemmas.Iterator.Consumers.{YieldsList-from_copied}
use Rattle.std.proofs.lemmas.Iterator.Search.{find_from_yields_List}
use Rattle.definitions.specs.Lines.{same}
use Rattle.definitions.specs.RuleText.{kind_word}
use Rattle.rules.specs.Kinds.{kind_in}
use Rattle.kind_words.proofs.WordLaws.{kinds, kind_found}
use Rattle.kind_words.proofs.kind_of_word.Goals as goal

pub returns : goal.returns
returns c =
    rw c.unwrap_or.ensures
    (kind_found c.args.w.now c.find.result
    (find_from_yields_List (λ k. same c.args.w.now (kind_word (kind_in k))) _ _ c.find.result c.find.ensures.ran (YieldsList-from_copied (YieldsList-from_slice kinds cc)) (λ x b q k. search rules)))
