-- `since_word` meets its contract: the carries of a sum (WordLaws, `since_word_lem`).
use Rattle.std.proofs.Common.{w64, Fits, refl, rules}
use Rattle.mark_words.proofs.WordLaws.{since_word_lem}
use Rattle.mark_words.proofs.since_word.Goals as goal

pub returns : goal.returns
returns c ps qs b ep eq ec h =
    let f : Fits w64 c.args.p = search rules in
    rw (ep, eq, ec) (since_word_lem b ps qs _ _ h (rw ep at f.fits) refl refl)
