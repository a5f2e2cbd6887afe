-- `doubled` meets its contract: two windows make one of twice the reach (WordLaws, `window_more`).
use Rattle.mark_words.proofs.WordLaws.{window_more}
use Rattle.mark_words.proofs.doubled.Goals as goal

pub returns : goal.returns
returns c ps qs h = window_more ps qs c.args.d c.args.w h
