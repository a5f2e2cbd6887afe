-- `lay_places` meets its contract (LayLaws, `places_none`, `places_more`, `places_done`).
use Rattle.evidence.proofs.LayLaws.{PlacesLaying}
use Rattle.evidence.proofs.pairs.lay_places.Given as goal

abbrev pub invariant-loop-k : goal.invariant-loop-k
invariant-loop-k l = PlacesLaying l.count l.n l.found l.initial.pairs l.k l.pairs l.end
