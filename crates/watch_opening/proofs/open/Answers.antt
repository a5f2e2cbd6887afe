-- `open` meets its contract (OpeningLaws: open_laws).
use Rattle.watch_opening.proofs.OpeningLaws.{open_laws}
use Rattle.watch_opening.proofs.open.Goals as goal

pub put_refused-requires : goal.put_refused-requires
put_refused-requires c = search open_laws

pub returns-then-text-gt-INPUT_BYTES : goal.returns-then-text-gt-INPUT_BYTES
returns-then-text-gt-INPUT_BYTES c = search open_laws

pub returns-then-ended-parts : goal.returns-then-ended-parts
returns-then-ended-parts c = search open_laws

pub returns : goal.returns
returns c = search open_laws
