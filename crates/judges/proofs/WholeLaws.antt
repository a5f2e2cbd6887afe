-- One law for each need of judging the whole recording.
use Rattle.std.proofs.Common.{rules, ℕ, ◌*◌, ◌<◌, ◌≤◌, ◌≡◌, refl, sym, ap, ◌∙◌, true, ◌&&◌, List, [], ◌++◌, Ok, Err, length, drop, length-take, arith, ltb, leb, lt-ltb, le-ltb, ltb-true, leb-true, Fits, w64}
use Rattle.definitions.specs.Limits.{accepted, lent_short, no_controller, rule_limits, max_row_words, max_table_nodes, pair_words}
use Rattle.definitions.specs.Bounded.{pick, or_else, within}
use Rattle.definitions.specs.Tables.{Table, table_of, nodes_refusal, tops_refusal, table_refusal, nodes_in}
use Rattle.definitions.specs.Recordings.{Recording, recording_of, recording_refusal, controller_refusal}
use Rattle.definitions.specs.Readings as readings
use Rattle.definitions.specs.Readings.{whole, rows_of, pairs_words, verdicts}
use Rattle.definitions.specs.Operations.{answer, verdict_values, judge_recording_number, judge_recording_answer, judge_recording_rows}
use Rattle.theorems.proofs.Choice.{both_true, accept_yes, or_else_none}
use Rattle.theorems.proofs.RecordingLaws.{Checked, checked}
use Rattle.lent.specs.Space.{laid, cleared}
use Rattle.rows.proofs.StoredLaws.{pairs_length}
use Rattle.lent.proofs.LeftLaws.{laid_past, laid_begins, left_untouched, left_zeroed, left_filled}
use Rattle.rules.specs.Refusals.{number_of}
use Rattle.rules.specs.declared.refusal.Refusal.{Refusal}
use Rattle.rules.specs.declared.refusal.Refusal.TheVariants.{LentShort}
use Rattle.rules.proofs.RefusalLaws.{number_some}
use Rattle.recordings.specs.Joining.{joined_refusal}
use Rattle.recordings.proofs.NumberLaws.{or_else_below, table_below, joined_below, refusal_alone}
use Rattle.evaluation.specs.Traced.{every_atom}
use Rattle.evaluation.specs.Nodes.{Evaluable, rows_to}
use Rattle.evaluation.proofs.TableLaws.{rows_length}
use Rattle.rules.proofs.NodeLists.{nodes_length}
use Rattle.judges.specs.declared.verdicts.Verdicts.{Verdicts}
use Rattle.judges.specs.Verdicts.{Topped, tops_in}
use Rattle.judges.specs.Whole.{whole_in, WholeReady, WholeVerdicts, WholeJudged}
use Rattle.judges.proofs.CheckedNodes.{nodes_fit, nodes_there_lem}
use Rattle.judges.proofs.TraceLaws.{whole_rows}
use Rattle.judges.proofs.TopLaws.{topped, tops_verdicts}

-- ---- an accepted table

record AcceptedTable (t : Table) : Type 0 where
  few : t.count ≤ max_table_nodes
  nodes : nodes_refusal true 0 t.count t.nodes ≡ 0
  weak_below : t.weak_top < t.count
  strong_below : t.strong_top < t.count

accepted_table : (t : Table) → table_refusal t ≡ 0 → AcceptedTable t
unfolding table_refusal tops_refusal
accepted_table t h =
    let p = or_else_none (pick (within 1 max_table_nodes t.count) accepted rule_limits) (or_else (nodes_refusal true 0 t.count t.nodes) (tops_refusal t)) h in
    let q = or_else_none (nodes_refusal true 0 t.count t.nodes) (tops_refusal t) p.1 in
    let limits = both_true (leb 1 t.count) (leb t.count max_table_nodes) (accept_yes (within 1 max_table_nodes t.count) rule_limits (omega arith) p.0) in
    let tops = both_true (ltb t.weak_top t.count) (ltb t.strong_top t.count) (accept_yes (ltb t.weak_top t.count && ltb t.strong_top t.count) rule_limits (omega arith) q.1) in
    record {
      few = leb-true t.count max_table_nodes limits.1;
      nodes = q.0;
      weak_below = ltb-true t.weak_top t.count tops.0;
      strong_below = ltb-true t.strong_top t.count tops.1;
    }

module _ (count : ℕ) (nodes : List ℕ) (weak_top strong_top n : ℕ) (states : List ℕ) (c : ℕ) (entry : List ℕ) where
  abbrev t : Table
  t = table_of count nodes weak_top strong_top

  module _ (ready : WholeReady t n states c entry) where
    A : AcceptedTable t
    A = accepted_table t ready.table

    pub whole_evaluable : Evaluable nodes count states n c entry
    whole_evaluable = record {
      counted = nodes_there_lem true 0 count nodes A.nodes;
      fit = nodes_fit true count nodes A.nodes;
      few = ready.few;
      there = ready.there;
      controller = ready.controller;
      room = omega (arith, A.few, ready.full);
    }

    pub whole_few : count * pair_words ≤ max_row_words
    whole_few = omega (arith, A.few)

    pub whole_fits : Fits w64 (count * pair_words)
    whole_fits = record { fits = omega (arith, A.few) }

    ns_length : length (nodes_in count nodes) ≡ count
    ns_length = nodes_length nodes count whole_evaluable.counted

    weak_below_lem : weak_top < length (nodes_in count nodes)
    weak_below_lem = omega (arith, ns_length, A.weak_below)

    strong_below_lem : strong_top < length (nodes_in count nodes)
    strong_below_lem = omega (arith, ns_length, A.strong_below)

    module _ (l : List ℕ) (evaluated : l ≡ pairs_words (rows_to nodes count states n c every_atom) ++ drop (count * pair_words) entry) where
      abbrev words : List ℕ
      words = pairs_words (rows_of (whole_in n states c) (nodes_in count nodes))

      rows_laid_lem : l ≡ words ++ drop (count * pair_words) entry
      rows_laid_lem = rw (whole_rows (recording_of 0 n [] states) c count nodes A.nodes) evaluated

      pub whole_topped : Topped l weak_top strong_top
      whole_topped = topped (whole_in n states c) (nodes_in count nodes) l (drop (count * pair_words) entry) weak_top strong_top ready.few rows_laid_lem weak_below_lem strong_below_lem

      -- `judge_accepted_table`
      pub whole_verdicts : (v : Verdicts) (exit : List ℕ) → v ≡ tops_in l weak_top strong_top → exit ≡ cleared l (count * pair_words) max_row_words
          → WholeVerdicts t n states c entry v exit
      whole_verdicts v exit e x =
          let rs = rows_length (whole_in n states c) (nodes_in count nodes) in
          let len : length words ≡ count * pair_words = omega (arith, ns_length, pairs_length (rows_of (whole_in n states c) (nodes_in count nodes))) in
          let over : l ≡ laid words entry = rw len rows_laid_lem in
          record {
            verdicts = tops_verdicts (whole_in n states c) (nodes_in count nodes) l (drop (count * pair_words) entry) weak_top strong_top ready.few rows_laid_lem weak_below_lem strong_below_lem v e;
            rows = left_filled accepted max_row_words words entry l exit (laid_past max_row_words words entry l (omega (arith, A.few, len)) over)
                (count * pair_words) refl len (laid_begins (count * pair_words) words entry l len over) x;
          }

-- ---- the check

pub accepted_controller : (C c : ℕ) → controller_refusal C c ≡ 0 → c < C
unfolding controller_refusal
accepted_controller C c h = ltb-true c C (accept_yes (ltb c C) no_controller (omega arith) h)

-- what an accepted table, recording and controller grant
pub whole_ready : (t : Table) (R : Recording) (c : ℕ) (rows : List ℕ) → table_refusal t ≡ 0 → recording_refusal R ≡ 0 → c < R.controllers → max_row_words ≤ length rows
    → WholeReady t R.count R.states c rows
whole_ready t R c rows h k below full =
    let K : Checked R = checked R k in
    record {
      table = h;
      few = K.few_states;
      there = omega (arith, K.states, length-take R.count R.states);
      controller = omega (arith, K.few_controllers);
      full = full;
    }

-- ---- the answers

module _ (count : ℕ) (nodes : List ℕ) (weak_top strong_top C n : ℕ) (masks states : List ℕ) (c : ℕ) (entry : List ℕ) where
  abbrev table : Table
  table = table_of count nodes weak_top strong_top

  abbrev R : Recording
  R = recording_of C n masks states

  -- what the check comes to
  abbrev checked_number : ℕ
  checked_number = or_else (table_refusal table) (joined_refusal R c)

  -- `judge_recording`, lent space is short: 13 alone, and what was lent
  pub whole_short : length entry < max_row_words → WholeJudged table R c entry (Err LentShort) entry
  unfolding judge_recording_answer judge_recording_rows
  whole_short h =
      let short : judge_recording_number table R c entry ≡ lent_short = unfold judge_recording_number pick in rw (lt-ltb (length entry) max_row_words h) in
      record { answered = refusal_alone LentShort _ _ (sym short); rows = left_untouched _ _ _ _ short }

  module _ (room : max_row_words ≤ length entry) where
    number_is : judge_recording_number table R c entry ≡ checked_number
    unfolding judge_recording_number pick
    number_is = rw (le-ltb (length entry) max_row_words room)

    -- `judge_recording`, a refusal: its number alone, and zeros
    pub whole_refused : (e : Refusal) → number_of e ≡ checked_number → (exit : List ℕ) → exit ≡ cleared entry 0 max_row_words → WholeJudged table R c entry (Err e) exit
    unfolding judge_recording_answer judge_recording_rows
    whole_refused e r exit x =
        let number : number_of e ≡ judge_recording_number table R c entry = r ∙ sym number_is in
        let below : checked_number < lent_short = or_else_below _ _ _ (table_below table) (joined_below R c) in
        record {
          answered = refusal_alone e _ _ number;
          rows = left_zeroed _ _ _ entry entry exit refl (λ z. omega (arith, below, number_is)) (λ z. number_some e (number ∙ z)) x;
        }

    module _ (none : accepted ≡ checked_number) where
      pub whole_accepted : WholeReady table n states c entry
      whole_accepted =
          let p = or_else_none (table_refusal table) (joined_refusal R c) (sym none) in
          let q = or_else_none (recording_refusal R) (controller_refusal C c) p.1 in
          whole_ready table R c entry p.0 q.0 (accepted_controller C c q.1) room

      -- `judge_recording`, judged: the verdicts, the rows and then zeros
      pub whole_judged : (v : Verdicts) (exit : List ℕ) → WholeVerdicts table n states c entry v exit → WholeJudged table R c entry (Ok v) exit
      unfolding judge_recording_answer judge_recording_rows
      whole_judged v exit d =
          let number : judge_recording_number table R c entry ≡ accepted = number_is ∙ sym none in
          record { answered = rw number (ap (λ (x : readings.Verdicts). answer accepted (verdict_values x)) d.verdicts); rows = d.rows ∙ rw number }

pub ruleset accepted_laws = (rules, whole_evaluable, whole_few, whole_fits, whole_topped, whole_verdicts)

pub ruleset whole_laws = (rules, whole_short, whole_accepted)
