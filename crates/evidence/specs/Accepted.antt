-- The pairs of an accepted rule and a local trace, in lent space.
use Rattle.std.specs.Prelude.{◌≡◌, Bool, List, map, ℕ, ◌*◌, ◌≤◌, length, get_or}
use Rattle.definitions.specs.Limits.{accepted, max_rule_nodes, max_pairs, pair_words}
use Rattle.definitions.specs.Tables.{Rule, nodes_in}
use Rattle.definitions.specs.Readings.{no_rows}
use Rattle.definitions.specs.Evidence.{Found, wanted_rows, evidence, pair_word}
use Rattle.definitions.specs.Operations.{left}
use Rattle.walk.specs.Wanted.{Held}
use Rattle.judges.specs.Verdicts.{meant}
use Rattle.judges.specs.declared.verdicts.Verdicts.{Verdicts}
use Rattle.judges.specs.Local.{places_of, trace_of, verdicts_on, LocalReady}
use Rattle.judges.specs.declared.local.LocalTrace.{LocalTrace}
use Rattle.evidence.specs.declared.accepted.Explained.{Explained}

-- the pairs that decide a verdict of the rule over the local trace
abbrev pub deciding_pairs : (r : Rule) (l : LocalTrace) (weak : Bool) → List Found
deciding_pairs r l weak = evidence l.mask (places_of l) (nodes_in r.count r.nodes) weak

-- the rule's verdicts over the local trace, and the places of each node to which the walk from the rule comes
pub record WantedIs (r : Rule) (l : LocalTrace) (weak : Bool) (v : Verdicts) (exit : List ℕ) : Type 0 where
  pub verdicts : meant v ≡ verdicts_on r l
  pub room : max_rule_nodes * pair_words ≤ length exit
  pub held : Held l.count r.count exit (λ j. get_or (wanted_rows (trace_of l) (nodes_in r.count r.nodes) weak) j no_rows)

-- an accepted rule and a local trace, and lent pairs of full size
pub record EvidenceReady (r : Rule) (l : LocalTrace) (pairs : List ℕ) : Type 0 where
  pub ready : LocalReady r l
  pub full : max_pairs ≤ length pairs

-- the verdicts, how many pairs there are, and the lent pairs
pub record ExplainedIs (r : Rule) (l : LocalTrace) (weak : Bool) (entry : List ℕ) (x : Explained) (exit : List ℕ) : Type 0 where
  pub verdicts : meant x.verdicts ≡ verdicts_on r l
  pub counted : x.count ≡ length (deciding_pairs r l weak)
  pub laid : exit ≡ left accepted max_pairs (map pair_word (deciding_pairs r l weak)) entry
