-- `open_texts` meets its contract (OpeningLaws: texts_laws).
use Rattle.watch_opening.proofs.OpeningLaws.{texts_laws}
use Rattle.watch_opening.proofs.open_texts.Goals as goal

pub returns-in-Err : goal.returns-in-Err
returns-in-Err c = let refused = c.in-Err.ensures in search texts_laws

pub returns-then-lacks_lines : goal.returns-then-lacks_lines
returns-then-lacks_lines c =
    let rule = c.in-Ok.ensures in
    let lacking = c.in-Err-scan_session.ensures in
    search texts_laws

pub returns-in-Ok-scan_session : goal.returns-in-Ok-scan_session
returns-in-Ok-scan_session c =
    let heading = c.in-Ok.ensures in
    let masks = c.in-Ok-scan_session.ensures in
    search texts_laws

pub returns-else-lacks_lines : goal.returns-else-lacks_lines
returns-else-lacks_lines c =
    let read = c.in-Ok.ensures in
    let stopped = c.in-Err-scan_session.ensures in
    search texts_laws
