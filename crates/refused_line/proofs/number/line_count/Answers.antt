-- `line_count` meets its contract (NumberLaws: count_laws, counted_none, counted_less, counted_next, counted_end).
use Rattle.refused_line.proofs.NumberLaws.{count_laws, counted_none, counted_less, counted_next, counted_end}
use Rattle.refused_line.proofs.number.line_count.Goals as goal

pub loop-at-init : goal.loop-at-init
loop-at-init c = search counted_none

pub slice_bounds-first_line-count : goal.slice_bounds-first_line-count
slice_bounds-first_line-count c = search count_laws

pub slice_bounds-first_line-start : goal.slice_bounds-first_line-start
slice_bounds-first_line-start c = search count_laws

pub slice_bounds-first_line-end : goal.slice_bounds-first_line-end
slice_bounds-first_line-end c = search count_laws

pub first_line-line-requires : goal.first_line-line-requires
first_line-line-requires c = search count_laws

pub overflow_add-at : goal.overflow_add-at
overflow_add-at c = search count_laws

pub overflow_add-count : goal.overflow_add-count
overflow_add-count c = search count_laws

pub loop-at-smaller : goal.loop-at-smaller
loop-at-smaller c = search counted_less

pub loop-at-preserved : goal.loop-at-preserved
loop-at-preserved c = search counted_next

pub returns : goal.returns
returns c = search counted_end
