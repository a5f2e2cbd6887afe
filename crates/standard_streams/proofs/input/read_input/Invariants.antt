-- What was read lies within the space, and each read leaves less to fill.
use Rattle.std.proofs.Common.{length, ◌-◌, ◌≤◌}
use Rattle.standard_streams.proofs.input.read_input.Given as goal

abbrev pub invariant-loop-count : goal.invariant-loop-count
invariant-loop-count l = l.count ≤ length l.space

abbrev pub decreases-loop-count : goal.decreases-loop-count
decreases-loop-count l = length l.initial.space - l.count
