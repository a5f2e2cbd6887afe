-- `last_word` meets its contract: the last mark is yes, or no mark is (WordLaws, `word_last_yes`, `word_last_no`).
use Rattle.mark_words.proofs.WordLaws.{last_laws}
use Rattle.mark_words.proofs.last_word.Goals as goal

pub returns-then-yes : goal.returns-then-yes
returns-then-yes c = search last_laws

pub returns : goal.returns
returns c = search last_laws
