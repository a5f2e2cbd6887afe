-- One law for each need of the pairs of an accepted rule and a local trace.
use mathlib.Core.Path.{◌≡◌, refl, sym, ap, subst, ◌∙◌}
use mathlib.Core.Bool.{Bool, false}
use mathlib.Core.List.{List}
use Prim.Native.Nat.{ℕ, ◌*◌, ◌-◌, ◌<◌, ◌≤◌}
use native.Mathlib.Omega.{arith}
use lib.ListN.{length, drop, get_or}
use lib.Seq.{length-take-le}
use borrow.Author.Rules.{rules}
use Rattle.definitions.specs.Limits.{max_rule_nodes, max_pairs, pair_words}
use Rattle.definitions.specs.Nodes.{Node}
use Rattle.definitions.specs.Tables.{Rule, rule_of, nodes_refusal, nodes_in}
use Rattle.definitions.specs.Readings.{Trace, Rows, no_rows, rows_of, pairs_words}
use Rattle.definitions.specs.Recordings.{Recording}
use Rattle.definitions.specs.Operations.{evidence_of}
use Rattle.definitions.specs.Evidence.{wanted_rows, decides, evidence}
use Rattle.theorems.proofs.NodeLaws.{accepted_rule}
use Rattle.theorems.proofs.RuleNodes.{rule_some, rule_few, rule_length_lem, rule_nodes_lem}
use Rattle.rows.specs.Pairs.{PairMade, pair_of_node}
use Rattle.rows.proofs.PairLaws.{rows_in_lem}
use Rattle.evaluation.proofs.EvaluateLaws.{pair_of_rows}
use Rattle.walk.specs.Wanted.{Held}
use Rattle.walk.specs.Walking.{word_node, Walkable, Walked}
use Rattle.walk.proofs.WalkLaws.{held_laid, node_at_lem}
use Rattle.evidence.specs.Finding.{found_by, places_of, pairs_of}
use Rattle.evidence.specs.Laying.{PairsReady, PairsLaid}
use Rattle.evidence.proofs.LayLaws.{found_same}
use Rattle.judges.specs.Verdicts.{Topped, tops_in}
use Rattle.judges.specs.declared.verdicts.Verdicts.{Verdicts}
use Rattle.judges.proofs.LocalLaws.{own_some, own_topped, own_judged}
use Rattle.judges.specs.Local as traces
use Rattle.judges.specs.Local.{TraceIs, LocalReady, RowsReady, LocalRows}
use Rattle.judges.specs.declared.local.LocalTrace.{LocalTrace}
use Rattle.judges.proofs.CheckedNodes.{nodes_fit, nodes_there_lem}
use Rattle.evidence.specs.Accepted.{deciding_pairs, WantedIs, EvidenceReady, ExplainedIs}

module _ (c count : ℕ) (nodes : List ℕ) (l : LocalTrace) (given : LocalReady (rule_of c count nodes) l) where
  abbrev r : Rule
  r = rule_of c count nodes

  abbrev t : Trace
  t = traces.trace_of l

  abbrev ns : List Node
  ns = nodes_in count nodes

  long : l.count ≡ length (traces.places_of l)
  long = sym (length-take-le l.count l.words given.there)

  nodes_accepted : nodes_refusal false 0 count nodes ≡ 0
  nodes_accepted = (accepted_rule r given.rule).1

  nodes_many : count ≤ length nodes
  nodes_many = nodes_there_lem false 0 count nodes nodes_accepted

  -- ---- the rows of an accepted rule over its local trace, and the walk from the rule
  module _ (entry rows : List ℕ) (own : LocalRows r l entry rows) where
    rows_held : Held l.count count rows (λ j. get_or (rows_of t ns) j no_rows)
    rows_held = record {
      pairs = λ j h.
          subst (λ (n : ℕ). PairMade (pair_of_node rows j) n (get_or (rows_of t ns) j no_rows)) (sym long)
          (pair_of_rows t ns rows (drop (length (pairs_words (rows_of t ns))) entry) (omega (arith, long, given.few)) own.rows j (omega (arith, rule_length_lem r given.rule))
          (pair_of_node rows j) refl);
    }

    module _ (wanted : List ℕ) (room : max_rule_nodes * pair_words ≤ length wanted) where
      pub rows_walkable : Walkable nodes count l.count rows wanted
      rows_walkable = record {
        counted = nodes_many;
        some = rule_some r given.rule;
        few = given.few;
        ruled = rule_nodes_lem r given.rule;
        fit = nodes_fit false count nodes nodes_accepted;
        rows_room = omega (arith, rule_few r given.rule, own.room);
        wanted_room = omega (arith, rule_few r given.rule);
        rows_laid = held_laid l.count count rows (λ j. get_or (rows_of t ns) j no_rows) rows_held;
      }

      -- `wanted_places`: the verdicts at the last node are `verdicts_on`, the rows walked are `wanted_rows`
      pub wanted_walked : (weak : Bool) (exit : List ℕ) → Walked nodes count l.count rows weak exit → length exit ≡ length wanted → (v : Verdicts) → v ≡ tops_in rows (count - 1) (count - 1) →
          WantedIs r l weak v exit
      wanted_walked weak exit walked kept v e = record {
        verdicts = own_judged c count nodes l given entry rows own v e;
        room = omega arith;
        held = walked.wants t long rows_held;
      }

    pub rows_topped : Topped rows (count - 1) (count - 1)
    rows_topped = own_topped c count nodes l given entry rows own

  -- ---- the pairs, from the wanted places
  module _ (weak : Bool) (v : Verdicts) (wanted pairs : List ℕ) (is : WantedIs r l weak v wanted) (full : max_pairs ≤ length pairs) where
    abbrev ws : List Rows
    ws = wanted_rows t ns weak

    pub pairs_ready : PairsReady r l wanted pairs
    pairs_ready = record {
      ready = λ j h. record {
        counted = omega (arith, nodes_many);
        fit = nodes_fit false count nodes nodes_accepted j h;
        few = given.few;
        room = omega (arith, rule_few r given.rule, is.room);
        pair = (held_laid l.count count wanted (λ j. get_or ws j no_rows) is.held).pairs j h;
      };
      few = rule_few r given.rule;
      places = given.few;
      full = full;
    }

    -- what is found from the wanted places is what decides
    found_decides : (j k : ℕ) → j < count → k < l.count → places_of r l wanted j k ≡ decides l.mask (traces.places_of l) ns ws j k
    unfolding places_of
    found_decides j k below h =
        ap (λ (x : Rows). found_by (word_node nodes j) l.mask l.count x k) (rows_in_lem (pair_of_node wanted j) l.count (get_or ws j no_rows) (is.held.pairs j below))
        ∙ rw (node_at_lem count nodes j below nodes_many, ← long)

    same : pairs_of r l wanted ≡ deciding_pairs r l weak
    unfolding evidence
    same =
        found_same (places_of r l wanted) (decides l.mask (traces.places_of l) ns ws) count l.count found_decides l.count 0 (omega arith)
        ∙ rw (rule_length_lem r given.rule, ← long)

    -- `evidence_accepted`: the pairs that `lay_pairs` laid are `deciding_pairs`
    pub pairs_laid : (end : ℕ) (exit : List ℕ) → PairsLaid (pairs_of r l wanted) pairs end exit → ExplainedIs r l weak pairs (record { verdicts = v; count = end }) exit
    pairs_laid end exit q = record { verdicts = is.verdicts; counted = rw same at q.counted; laid = rw same at q.laid }

module _ (c count : ℕ) (nodes : List ℕ) (l : LocalTrace) where
  pub rows_some : (wanted : List ℕ) → RowsReady (rule_of c count nodes) l wanted → 1 ≤ count
  rows_some wanted given = own_some c count nodes l given.ready

  pub rows_ready : (rows wanted : List ℕ) → RowsReady (rule_of c count nodes) l wanted → max_rule_nodes * pair_words ≤ length rows → RowsReady (rule_of c count nodes) l rows
  rows_ready rows wanted given room = record { ready = given.ready; room = room }

  pub wanted_ready : (pairs : List ℕ) → EvidenceReady (rule_of c count nodes) l pairs → (wanted : List ℕ) → max_rule_nodes * pair_words ≤ length wanted → RowsReady (rule_of c count nodes) l wanted
  wanted_ready pairs given wanted room = record { ready = given.ready; room = room }

-- the pairs that decide a verdict on a recording's local trace
pub trace_pairs : (r : Rule) (R : Recording) (l : LocalTrace) (weak : Bool) → TraceIs R r.controller l → deciding_pairs r l weak ≡ evidence_of r R weak
trace_pairs r R l weak is = rw (is.mask, is.places)

pub ruleset wanted_laws = (rules, rows_ready, rows_some, rows_walkable, rows_topped, wanted_walked)

pub ruleset accepted_laws = (rules, wanted_ready, pairs_ready, pairs_laid)
