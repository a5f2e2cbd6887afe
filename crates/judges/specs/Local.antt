-- The local trace of one controller as a value, and the rows and verdicts of a rule over it.
use Rattle.std.specs.Prelude.{◌≡◌, List, ℕ, ◌*◌, ◌<◌, ◌≤◌, length, take}
use Rattle.definitions.specs.Limits.{max_states, max_rule_nodes, pair_words}
use Rattle.definitions.specs.Tables.{Rule, rule_refusal, nodes_in}
use Rattle.definitions.specs.Recordings.{Recording, mask_of, recording_refusal}
use Rattle.definitions.specs.Projection.{local_trace}
use Rattle.definitions.specs.Readings.{Trace, Verdicts, local, local_verdicts, rows_of, pairs_words}
use Rattle.lent.specs.Space.{laid}
use Rattle.judges.specs.declared.local.LocalTrace.{LocalTrace}

-- its places
abbrev pub places_of : LocalTrace → List ℕ
places_of l = take l.count l.words

-- what a rule is read over
abbrev pub trace_of : LocalTrace → Trace
trace_of l = local l.mask (places_of l)

-- the verdicts of a rule over it
abbrev pub verdicts_on : Rule → LocalTrace → Verdicts
verdicts_on r l = local_verdicts (nodes_in r.count r.nodes) l.mask (places_of l)

-- an accepted recording that has the controller
pub record TraceReady (R : Recording) (c : ℕ) : Type 0 where
  pub recording : recording_refusal R ≡ 0
  pub controller : c < R.controllers

-- l is the local trace of that controller
pub record TraceIs (R : Recording) (c : ℕ) (l : LocalTrace) : Type 0 where
  pub controller : l.controller ≡ c
  pub mask : l.mask ≡ mask_of R c
  pub places : places_of l ≡ local_trace R c
  pub few : l.count ≤ max_states
  pub there : l.count ≤ length l.words

-- an accepted rule and a local trace
pub record LocalReady (r : Rule) (l : LocalTrace) : Type 0 where
  pub rule : rule_refusal r ≡ 0
  pub few : l.count ≤ max_states
  pub there : l.count ≤ length l.words

-- with space for the rows
pub record RowsReady (r : Rule) (l : LocalTrace) (rows : List ℕ) : Type 0 where
  pub ready : LocalReady r l
  pub room : max_rule_nodes * pair_words ≤ length rows

-- the rows of the rule's nodes over the local trace, over the start of what is lent
pub record LocalRows (r : Rule) (l : LocalTrace) (entry exit : List ℕ) : Type 0 where
  pub rows : exit ≡ laid (pairs_words (rows_of (trace_of l) (nodes_in r.count r.nodes))) entry
  pub room : max_rule_nodes * pair_words ≤ length exit
