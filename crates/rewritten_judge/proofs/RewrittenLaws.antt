-- Judging a rewritten rule: a law for each call and each return.
use mathlib.Core.Path.{◌≡◌, ap, sym, ◌∙◌}
use Prim.Native.Nat.{ℕ, ◌-◌, ◌≤◌, ◌<◌}
use native.Mathlib.Omega.{arith}
use mathlib.Core.Bool.{Bool, true, false}
use mathlib.Core.List.{List, ◌++◌, map}
use lib.ListN.{length, take, drop, get_or, replicate}
use borrow.Author.Rules.{rules}
use Rattle.definitions.specs.Limits.{max_table_nodes, max_row_words}
use Rattle.definitions.specs.Nodes.{node_word}
use Rattle.definitions.specs.Tables.{Rule, table_refusal, nodes_in, rule_of, table_of}
use Rattle.definitions.specs.Recordings.{Recording, recording_of, mask_of}
use Rattle.definitions.specs.Readings.{whole, verdicts}
use Rattle.definitions.specs.Rewriting as written
use Rattle.definitions.specs.Rewriting.{rewriting}
use Rattle.theorems.proofs.LentSpace.{left_accepted}
use Rattle.theorems.proofs.RuleNodes.{rule_nodes_lem, rule_length_lem, rule_some}
use Rattle.theorems.proofs.RewrittenAccepted.{rewritten_nodes, rewritten_accepted}
use Rattle.theorems.proofs.ScheduleIndependence.{Accepted, verdict_agrees}
use Rattle.recordings.proofs.WordLaws.{own_mask_lem}
use Rattle.judges.specs.Verdicts.{own_verdicts}
use Rattle.judges.specs.Whole.{WholeReady, WholeVerdicts}
use Rattle.judges.specs.declared.verdicts.Verdicts.{Verdicts}
use Rattle.judges.proofs.WholeLaws.{whole_ready}
use Rattle.rewriting.specs.Drafts.{Ruled}
use Rattle.rewriting.specs.Answers.{TableOf}
use Rattle.images.specs.declared.Tops.{Tops}
use Rattle.rewriting.proofs.AnswerLaws.{rule_there, ruled}
use Rattle.rewritten_judge.specs.Rewritten.{rewritten_for, RewrittenIs}

-- the verdicts of the rewritten rule over the whole recording are the rule's own
pub verdicts_agree : (short : Bool) (r : Rule) (R : Recording) → Accepted r R →
    verdicts (whole R r.controller) (rewritten_for short r R).nodes (rewritten_for short r R).weak_top (rewritten_for short r R).strong_top ≡ own_verdicts r R
verdicts_agree short r R A =
    let some : 0 < length (nodes_in r.count r.nodes) = omega (arith, rule_length_lem r A.rule, rule_some r A.rule) in
    let same = verdict_agrees short (nodes_in r.count r.nodes) some (rule_nodes_lem r A.rule) R r.controller A.recording A.controller in
    rw (same true, same false)

-- ---- what was accepted is rewritten and judged without a refusal

module _ (r : Rule) (R : Recording) (A : Accepted r R) where
  pub rule_counts : r.count ≡ length (take r.count r.nodes)
  rule_counts = rule_there r.controller r.count r.nodes (sym A.rule)

  pub rule_ruled : Ruled (take r.count r.nodes)
  rule_ruled = ruled r.controller r.count r.nodes (sym A.rule)

  module _ (table rows : List ℕ) (full : max_row_words ≤ length rows) (short : Bool) (mask : ℕ) (own : mask ≡ get_or R.masks r.controller 0) (t : Tops) (table' : List ℕ)
      (laid : TableOf (rewriting short mask (nodes_in r.count r.nodes)) table t table') where
    abbrev W : written.Rewritten
    W = rewritten_for short r R

    abbrev more : List ℕ
    more = replicate (max_table_nodes - length (map node_word W.nodes)) 0 ++ drop max_table_nodes table

    for_mask : rewriting short mask (nodes_in r.count r.nodes) ≡ W
    for_mask = ap (λ (m : ℕ). rewriting short m (nodes_in r.count r.nodes)) (own ∙ own_mask_lem R r.controller A.controller)

    held : TableOf W table t table'
    held = rw for_mask at laid

    words : table' ≡ map node_word W.nodes ++ more
    words = held.table ∙ left_accepted max_table_nodes (map node_word W.nodes) table

    -- the table that was written is the rewritten one
    given : table_of t.count table' t.weak t.strong
        ≡ table_of (length W.nodes) (map node_word W.nodes ++ more) W.weak_top W.strong_top
    given = rw (held.count, held.weak, held.strong, words)

    ready : WholeReady (table_of t.count table' t.weak t.strong) R.count R.states r.controller rows
    ready =
        whole_ready _ R r.controller rows (ap table_refusal given ∙ rewritten_accepted short r (mask_of R r.controller) more A.rule)
        A.recording A.controller full

    nodes_are : nodes_in t.count table' ≡ W.nodes
    nodes_are = rw (held.count, words) (rewritten_nodes short r (mask_of R r.controller) more A.rule)

    -- `judge_rewriting`: the count of `rewritten_for`, and the rule's `own_verdicts` (`RewrittenIs`)
    pub rewriting_judged : (v : Verdicts) (rows' : List ℕ) →
        WholeVerdicts (table_of t.count table' t.weak t.strong) R.count R.states r.controller rows v rows' →
        RewrittenIs short r R (record { count = t.count; verdicts = v })
    rewriting_judged v rows' w = record {
      count = held.count;
      verdicts = w.verdicts ∙ rw (nodes_are, held.weak, held.strong) (verdicts_agree short r R A);
    }

pub table_ready : (c k : ℕ) (nodes : List ℕ) (C N : ℕ) (masks states : List ℕ) → Accepted (rule_of c k nodes) (recording_of C N masks states) →
    (table rows : List ℕ) → max_row_words ≤ length rows →
    (short : Bool) (mask : ℕ) → mask ≡ get_or masks c 0 → (t : Tops) (table' : List ℕ) → TableOf (rewriting short mask (nodes_in k nodes)) table t table' →
    WholeReady (table_of t.count table' t.weak t.strong) N states c rows
table_ready c k nodes C N masks states A table rows full short mask own t table' laid =
    ready (rule_of c k nodes) (recording_of C N masks states) A table rows full short mask own t table' laid

pub ruleset rewriting_laws = (rules, rule_counts, rule_ruled, table_ready, rewriting_judged)
