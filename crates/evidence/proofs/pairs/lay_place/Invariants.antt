-- `lay_place` meets its contract (LayLaws, `place_none`, `place_more`, `place_done`).
use Rattle.evidence.proofs.LayLaws.{PlaceLaying}
use Rattle.evidence.proofs.pairs.lay_place.Given as goal

abbrev pub invariant-loop-j : goal.invariant-loop-j
invariant-loop-j l = PlaceLaying l.count l.k l.found l.from l.initial.pairs l.j l.pairs l.end
