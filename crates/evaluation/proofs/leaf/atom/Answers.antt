-- `atom` meets its contract (LeafLaws, `own_atom_lem`, `foreign_atom_lem`).
use Rattle.evaluation.proofs.LeafLaws.{own_atom_lem, foreign_atom_lem}
use Rattle.evaluation.proofs.leaf.atom.Goals as goal

pub returns-then-is_own : goal.returns-then-is_own
returns-then-is_own c = rw c.both.ensures (search own_atom_lem)

pub returns : goal.returns
returns c = search foreign_atom_lem
