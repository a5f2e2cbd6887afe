-- `found_row` meets its contract: one law for each return (FindLaws, `found_none`, `found_own`, `found_foreign`).
use Rattle.evidence.proofs.FindLaws.{find_laws}
use Rattle.evidence.proofs.found.found_row.Goals as goal

pub returns-in_default : goal.returns-in_default
returns-in_default c = search find_laws

pub returns-then-is_own : goal.returns-then-is_own
returns-then-is_own c = search find_laws

pub returns : goal.returns
returns c = search find_laws
