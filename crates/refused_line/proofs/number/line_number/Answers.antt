-- `line_number` meets its contract (NumberLaws: number_laws).
use Rattle.refused_line.proofs.NumberLaws.{number_laws}
use Rattle.refused_line.proofs.number.line_number.Goals as goal

pub slice_bounds-line_count-end : goal.slice_bounds-line_count-end
slice_bounds-line_count-end c = search number_laws

pub line_count-requires : goal.line_count-requires
line_count-requires c = search number_laws

pub overflow_cast-result : goal.overflow_cast-result
overflow_cast-result c = search number_laws

pub overflow_add-result : goal.overflow_add-result
overflow_add-result c = search number_laws

pub returns : goal.returns
returns c = search number_laws
