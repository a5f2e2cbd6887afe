-- `lay`: the bytes passed are in the states, and the rest of the states is as it was (LayingLaws: lay_laws).
use Rattle.signals.proofs.LayingLaws.{lay_laws, laying_stop, laying_next}
use Rattle.signals.proofs.reading.lay.Goals as goal

pub returns-in_default : goal.returns-in_default
returns-in_default c = laying_stop _ _ _ _ _ c.loop-k.invariant c.requires c.loop-k-test.true c.in_default.ensures

pub overflow_mul-states : goal.overflow_mul-states
overflow_mul-states c = search lay_laws

pub overflow_add-states : goal.overflow_add-states
overflow_add-states c = search lay_laws

pub loop-k-preserved : goal.loop-k-preserved
loop-k-preserved c = laying_next _ _ _ _ _ c.loop-k.invariant c.requires c.loop-k-test.true c.in-Some.d c.in-Some.ensures

pub returns : goal.returns
returns c = search lay_laws
