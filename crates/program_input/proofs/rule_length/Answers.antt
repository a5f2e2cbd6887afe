-- `rule_length` meets its contract (SplitLaws: search_laws, searched_none, searched_open, searched_found, searched_less, searched_next, searched_end).
use Rattle.program_input.proofs.SplitLaws.{searched_none, searched_open, searched_found, searched_less, searched_next, searched_end}
use Rattle.program_input.proofs.rule_length.Goals as goal

pub loop-at-init : goal.loop-at-init
loop-at-init c = search searched_none

pub returns-then-line-t : goal.returns-then-line-t
returns-then-line-t c = search searched_open

pub returns-then-is_split : goal.returns-then-is_split
returns-then-is_split c = search searched_found

pub loop-at-smaller : goal.loop-at-smaller
loop-at-smaller c = search searched_less

pub loop-at-preserved : goal.loop-at-preserved
loop-at-preserved c = search searched_next

pub returns : goal.returns
returns c = search searched_end
