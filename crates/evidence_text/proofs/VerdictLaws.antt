-- Laws of the line of a verdict: how long it is, and which verdict it says.
use mathlib.Core.Path.{◌≡◌, ap}
use mathlib.Core.Bool.{Bool, true, false}
use Prim.Native.Nat.{◌-◌, ◌≤◌}
use native.Mathlib.Omega.{arith}
use lib.ListN.{length}
use Rattle.definitions.specs.Tables.{Rule, nodes_in}
use Rattle.definitions.specs.Recordings.{Recording, mask_of}
use Rattle.definitions.specs.Projection.{local_trace}
use Rattle.definitions.specs.Readings as readings
use Rattle.definitions.specs.Readings.{local, verdict}
use Rattle.definitions.specs.Why.{verdict_text}
use Rattle.judges.specs.Verdicts.{meant, own_verdicts}
use Rattle.judges.specs.declared.verdicts.Verdicts.{Verdicts}
use Rattle.evidence_text.specs.Verdict.{chosen}
use Rattle.evidence_text.specs.Behind.{max_verdict_bytes}

pub verdict_length : (weak v : Bool) → length (verdict_text weak v) ≤ max_verdict_bytes
unfolding verdict_text
verdict_length true true = omega arith
verdict_length true false = omega arith
verdict_length false true = omega arith
verdict_length false false = omega arith

-- the verdict of the rule on its local trace
pub chosen_own : (weak : Bool) (r : Rule) (R : Recording) (v : Verdicts) → meant v ≡ own_verdicts r R →
    chosen weak v
    ≡ verdict (local (mask_of R r.controller) (local_trace R r.controller)) (nodes_in r.count r.nodes) (length (nodes_in r.count r.nodes) - 1) weak
chosen_own true r R v e = ap (λ (x : readings.Verdicts). x.weak) e
chosen_own false r R v e = ap (λ (x : readings.Verdicts). x.strong) e
