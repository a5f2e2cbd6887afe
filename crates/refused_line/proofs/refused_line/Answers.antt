-- `refused_line` meets its contract (FindLaws: input_laws).
use Rattle.refused_line.proofs.FindLaws.{input_laws}
use Rattle.refused_line.proofs.refused_line.Goals as goal

pub returns-then-input-gt-INPUT_BYTES : goal.returns-then-input-gt-INPUT_BYTES
returns-then-input-gt-INPUT_BYTES c = search input_laws

pub in_texts-requires : goal.in_texts-requires
in_texts-requires c = search input_laws

pub returns : goal.returns
returns c = search input_laws
