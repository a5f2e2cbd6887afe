-- `split` meets its contract (SplitLaws: split_laws).
use Rattle.program_input.proofs.SplitLaws.{split_laws}
use Rattle.program_input.proofs.split.Goals as goal

pub slice_bounds-first_line-count : goal.slice_bounds-first_line-count
slice_bounds-first_line-count c = search split_laws

pub slice_bounds-first_line-start : goal.slice_bounds-first_line-start
slice_bounds-first_line-start c = search split_laws

pub slice_bounds-result-end : goal.slice_bounds-result-end
slice_bounds-result-end c = search split_laws

pub slice_bounds-result-count : goal.slice_bounds-result-count
slice_bounds-result-count c = search split_laws

pub slice_bounds-result-start : goal.slice_bounds-result-start
slice_bounds-result-start c = search split_laws
