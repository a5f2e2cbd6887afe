-- One law for each need of judging a rule on its local trace.
use Rattle.std.proofs.Common.{rules, ℕ, ◌+◌, ◌*◌, ◌-◌, ◌<◌, ◌≤◌, ◌≡◌, ◌≢◌, refl, sym, ap, ◌∙◌, false, List, [], ◌++◌, Ok, length, take, drop, get_or, set, length-append, length-drop, length-set, length-take-le, take_at, take-append-drop, get_or-set_other, get_or-set_same, ext_get_or, below_more, arith}
use Rattle.definitions.specs.Limits.{max_states, max_rule_nodes, pair_words, accepted}
use Rattle.definitions.specs.Nodes.{Node}
use Rattle.definitions.specs.Tables.{Rule, rule_of, rule_refusal, nodes_refusal, nodes_in}
use Rattle.definitions.specs.Recordings.{Recording, recording_of, mask_of, recording_refusal, controller_refusal}
use Rattle.definitions.specs.Projection.{local_trace}
use Rattle.definitions.specs.Readings as readings
use Rattle.definitions.specs.Readings.{Trace, local, rows_of, pairs_words, verdicts, local_verdicts}
use Rattle.definitions.specs.Operations.{verdict_values, judge_local_number, judge_local_answer, answer}
use Rattle.theorems.proofs.Choice.{or_else_none}
use Rattle.theorems.proofs.NodeLaws.{accepted_rule}
use Rattle.theorems.proofs.RuleNodes.{rule_some, rule_few, rule_length_lem}
use Rattle.theorems.proofs.ScheduleIndependence.{Accepted}
use Rattle.lent.specs.Space.{laid}
use Rattle.rules.specs.Refusals.{number_of}
use Rattle.rules.specs.declared.refusal.Refusal.{Refusal}
use Rattle.rules.proofs.RefusalLaws.{refusals}
use Rattle.recordings.specs.Joining.{joined_refusal}
use Rattle.recordings.proofs.NumberLaws.{refusal_alone}
use Rattle.recordings.proofs.WordLaws.{own_mask_lem}
use Rattle.projection.specs.Places.{runs_in, places_in, Projectable}
use Rattle.projection.proofs.LengthLaws.{length_of}
use Rattle.projection.proofs.PlaceLaws.{projectable, local_places, few_local}
use Rattle.evaluation.specs.Traced as leaves
use Rattle.evaluation.specs.Nodes.{Evaluable, rows_to}
use Rattle.evaluation.proofs.TableLaws.{rows_length}
use Rattle.rules.proofs.NodeLists.{nodes_length}
use Rattle.rows.proofs.StoredLaws.{pairs_length}
use Rattle.judges.specs.declared.verdicts.Verdicts.{Verdicts}
use Rattle.judges.specs.Verdicts.{meant, answer_of, own_verdicts, Topped, tops_in}
use Rattle.judges.specs.Local.{places_of, trace_of, verdicts_on, TraceReady, TraceIs, LocalReady, RowsReady, LocalRows}
use Rattle.judges.specs.declared.local.LocalTrace.{LocalTrace}
use Rattle.judges.proofs.CheckedNodes.{nodes_fit, nodes_there_lem}
use Rattle.judges.proofs.TraceLaws.{local_rows_lem}
use Rattle.judges.proofs.TopLaws.{topped, tops_verdicts}
use Rattle.judges.proofs.WholeLaws.{accepted_controller}

-- ---- the local trace of an accepted recording

module _ (C n : ℕ) (masks states : List ℕ) (c : ℕ) (ready : TraceReady (recording_of C n masks states) c) where
  abbrev R : Recording
  R = recording_of C n masks states

  pub trace_projectable : (words : List ℕ) → max_states ≤ length words → Projectable n c states words
  trace_projectable words room = projectable R c words ready.recording ready.controller room

  -- `local_trace`: the controller's mask and the projected places are `local_trace`
  pub trace_is : (mask : ℕ) → mask ≡ get_or masks c 0 → (words words' : List ℕ) → max_states ≤ length words → (count : ℕ) → count ≡ length (runs_in n c states) + 1 →
      words' ≡ laid (places_in n mask c states) words → TraceIs R c (record { controller = c; mask = mask; count = count; words = words' })
  trace_is mask me words words' room count e p =
      let content : List ℕ = places_in n mask c states in
      let size : length content ≡ count = length_of n c mask states ∙ sym e in
      let own : mask ≡ mask_of R c = me ∙ own_mask_lem R c ready.controller in
      let P : Projectable n c states words = trace_projectable words room in
      record {
        controller = refl;
        mask = own;
        places = ap (take count) p ∙ take_at content (drop (length content) words) count size ∙ ap (λ (m : ℕ). places_in n m c states) own ∙ local_places R c;
        few = omega (arith, few_local n c states words P, P.few_states);
        there = omega (arith, ap length p, length-append content (drop (length content) words), size);
      }

-- its number of places
pub trace_length : (R : Recording) (c : ℕ) (l : LocalTrace) → TraceIs R c l → l.count ≡ length (local_trace R c)
trace_length R c l is = sym (length-take-le l.count l.words is.there) ∙ ap length is.places

-- the verdicts over it are the rule's own
pub trace_verdicts : (r : Rule) (R : Recording) (l : LocalTrace) → TraceIs R r.controller l → verdicts_on r l ≡ own_verdicts r R
trace_verdicts r R l is = rw (is.mask, is.places)

-- ---- the rows of an accepted rule over a local trace

rows_same : (mask count : ℕ) (nodes content rest : List ℕ) (L : ℕ) → length content ≡ L → nodes_refusal false 0 count nodes ≡ 0 →
    rows_of (local mask content) (nodes_in count nodes) ≡ rows_to nodes count (content ++ rest) L 0 mask
rows_same mask count nodes content rest L size fine = rw (← size) (local_rows_lem mask 0 content rest count nodes fine)

module _ (c count : ℕ) (nodes : List ℕ) (l : LocalTrace) (rows : List ℕ) (ready : RowsReady (rule_of c count nodes) l rows) where
  abbrev r : Rule
  r = rule_of c count nodes

  nodes_accepted : nodes_refusal false 0 count nodes ≡ 0
  nodes_accepted = (accepted_rule r ready.ready.rule).1

  module _ (places : List ℕ) (room : max_states ≤ length places) (w : take l.count places ≡ places_of l) where
    abbrev content : List ℕ
    content = places_of l

    size : length content ≡ l.count
    size = length-take-le l.count l.words ready.ready.there

    -- the places, and what stands past them
    split : places ≡ content ++ drop l.count places
    split = sym (take-append-drop l.count places) ∙ ap (λ (p : List ℕ). p ++ drop l.count places) w

    pub rows_evaluable : Evaluable nodes count places l.count 0 rows
    rows_evaluable = record {
      counted = nodes_there_lem false 0 count nodes nodes_accepted;
      fit = nodes_fit false count nodes nodes_accepted;
      few = ready.ready.few;
      there = omega (arith, ready.ready.few);
      controller = omega arith;
      room = omega (arith, rule_few r ready.ready.rule, ready.room);
    }

    -- `local_rows`: the rows evaluated over the places are `rows_of` the local trace
    pub rows_laid_lem : (rows' : List ℕ) → rows' ≡ pairs_words (rows_to nodes count places l.count 0 l.mask) ++ drop (count * pair_words) rows → LocalRows r l rows rows'
    rows_laid_lem rows' evaluated =
        let L : ℕ = l.count in
        let mask : ℕ = l.mask in
        let same : rows_of (trace_of l) (nodes_in count nodes) ≡ rows_to nodes count places L 0 mask =
        rows_same mask count nodes content (drop L places) L size nodes_accepted ∙ ap (λ (p : List ℕ). rows_to nodes count p L 0 mask) (sym split) in
        let ns : length (nodes_in count nodes) ≡ count = nodes_length nodes count rows_evaluable.counted in
        let len : length (pairs_words (rows_to nodes count places L 0 mask)) ≡ count * pair_words =
        omega (arith, pairs_length (rows_to nodes count places L 0 mask), rows_length (leaves.trace_of places L 0 mask) (nodes_in count nodes)) in
        record {
          rows = evaluated ∙ rw (same, len);
          room =
              omega (
                arith,
                ap length evaluated,
                length-append (pairs_words (rows_to nodes count places L 0 mask)) (drop (count * pair_words) rows),
                len,
                length-drop (count * pair_words) rows,
                rule_few r ready.ready.rule,
                ready.room,
              );
        }

-- ---- the verdicts, from the rows

module _ (c count : ℕ) (nodes : List ℕ) (l : LocalTrace) (given : LocalReady (rule_of c count nodes) l) where
  pub own_ready : (rows : List ℕ) → max_rule_nodes * pair_words ≤ length rows → RowsReady (rule_of c count nodes) l rows
  own_ready rows room = record { ready = given; room = room }

  pub own_some : 1 ≤ count
  own_some = omega (arith, rule_some (rule_of c count nodes) given.rule)

  module _ (entry rows : List ℕ) (own : LocalRows (rule_of c count nodes) l entry rows) where
    abbrev t : Trace
    t = trace_of l

    abbrev ns : List Node
    ns = nodes_in count nodes

    abbrev rest : List ℕ
    rest = drop (length (pairs_words (rows_of t ns))) entry

    few : t.places ≤ max_states
    few = omega (arith, length-take-le l.count l.words given.there, given.few)

    all : length ns ≡ count
    all = rule_length_lem (rule_of c count nodes) given.rule

    below : count - 1 < length ns
    below = omega (arith, own_some, all)

    pub own_topped : Topped rows (count - 1) (count - 1)
    own_topped = topped t ns rows rest (count - 1) (count - 1) few own.rows below below

    -- `judge_accepted_locally`: the marks at the last node are `verdicts_on`
    pub own_judged : (v : Verdicts) → v ≡ tops_in rows (count - 1) (count - 1) → meant v ≡ verdicts_on (rule_of c count nodes) l
    own_judged v e =
        tops_verdicts t ns rows rest (count - 1) (count - 1) few own.rows below below v e
        ∙ ap (λ (m : ℕ). verdicts t ns (m - 1) (m - 1)) (sym all)

-- ---- the answers

module _ (c count : ℕ) (nodes : List ℕ) (C n : ℕ) (masks states : List ℕ) where
  abbrev rule : Rule
  rule = rule_of c count nodes

  abbrev recording : Recording
  recording = recording_of C n masks states

  -- `judge_local`, refused: its number alone
  pub local_refused : (e : Refusal) → number_of e ≡ judge_local_number rule recording → answer (number_of e) [] ≡ judge_local_answer rule recording
  unfolding judge_local_answer
  local_refused e r = refusal_alone e _ _ r

  module _ (none : accepted ≡ judge_local_number rule recording) where
    pub local_accepted : Accepted rule recording
    unfolding judge_local_number
    local_accepted =
        let p = or_else_none (rule_refusal rule) (joined_refusal recording c) (sym none) in
        let q = or_else_none (recording_refusal recording) (controller_refusal C c) p.1 in
        record { rule = p.0; recording = q.0; controller = accepted_controller C c q.1 }

    pub local_traced : TraceReady recording c
    local_traced = record { recording = local_accepted.recording; controller = local_accepted.controller }

    module _ (l : LocalTrace) (is : TraceIs recording c l) where
      pub local_ready : LocalReady rule l
      local_ready = record { rule = local_accepted.rule; few = is.few; there = is.there }

      -- `judge_local`, accepted: `judge_local_answer` is the two verdicts
      pub local_judged : (v : Verdicts) → meant v ≡ verdicts_on rule l → answer_of (Ok v) ≡ judge_local_answer rule recording
      unfolding judge_local_answer
      local_judged v a =
          let own : meant v ≡ own_verdicts rule recording = a ∙ trace_verdicts rule recording l is in
          rw (← none) (ap (λ (x : readings.Verdicts). answer accepted (verdict_values x)) own)

pub ruleset trace_laws = (rules, trace_projectable, trace_is)

pub ruleset rows_laws = (rules, rows_evaluable, rows_laid_lem)

pub ruleset own_laws = (rules, own_ready, own_some, own_topped, own_judged)

pub ruleset local_laws = (refusals, local_refused, local_traced, local_ready, local_judged)
