-- `until_word` meets its contract: six doublings reach all 64 places (WordLaws, `window_one`, `window_more`, `window_until`).
use Rattle.std.proofs.Common.{w64, Fits, rules}
use Rattle.mark_words.proofs.WordLaws.{window_one, window_until}
use Rattle.mark_words.proofs.until_word.Goals as goal

pub returns : goal.returns
returns c ps qs ep eq h le =
    let fits : Fits w64 c.doubled-f.result.found = search rules in
    window_until ps qs c.doubled-f.result fits.fits h le
    (c.doubled-f.ensures ps qs (c.doubled-e.ensures ps qs (c.doubled-d.ensures ps qs (c.doubled-c.ensures ps qs
    (c.doubled-b.ensures ps qs (c.doubled-a.ensures ps qs (rw (ep, eq) (window_one ps qs))))))))
