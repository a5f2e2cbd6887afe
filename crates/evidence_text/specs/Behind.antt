-- What is printed of an accepted rule and recording, and what that asks: space for the longest lines there can be.
use Rattle.std.specs.Prelude.{Bool, List, ℕ, ◌+◌, ◌*◌, ◌≤◌, length}
use Rattle.definitions.specs.Limits.{max_pairs}
use Rattle.definitions.specs.Tables.{Rule, nodes_in}
use Rattle.definitions.specs.Recordings.{Recording}
use Rattle.definitions.specs.Operations.{evidence_of}
use Rattle.definitions.specs.Why.{found_lines, behind_text}
use Rattle.theorems.proofs.ScheduleIndependence.{Accepted}
use Rattle.evidence_text.specs.Pairs.{max_pair_bytes}

-- the longest line of a verdict, `strong yes`
abbrev pub max_verdict_bytes : ℕ
max_verdict_bytes = 11

-- with a line for each of the most pairs that lent space can hold
abbrev pub max_behind_bytes : ℕ
max_behind_bytes = max_verdict_bytes + max_pairs * max_pair_bytes

-- a line for each reading behind the verdict
abbrev pub lines_of : (weak : Bool) (r : Rule) (R : Recording) → List ℕ
lines_of weak r R = found_lines R r.controller (nodes_in r.count r.nodes) (evidence_of r R weak)

-- the verdict, and these
abbrev pub behind_of : (weak : Bool) (r : Rule) (R : Recording) → List ℕ
behind_of weak r R = behind_text weak r.controller (nodes_in r.count r.nodes) R

-- an accepted rule and recording, and space for the longest lines
pub record BehindReady (r : Rule) (R : Recording) (text : List ℕ) : Type 0 where
  pub accepted : Accepted r R
  pub room : max_behind_bytes ≤ length text
