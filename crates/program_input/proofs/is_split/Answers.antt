-- `is_split` meets its contract (SplitLaws: dash_laws).
use Rattle.program_input.proofs.SplitLaws.{dash_laws}
use Rattle.program_input.proofs.is_split.Goals as goal

pub slice_bounds-same-end : goal.slice_bounds-same-end
slice_bounds-same-end c = search dash_laws

pub returns : goal.returns
returns c = search dash_laws
