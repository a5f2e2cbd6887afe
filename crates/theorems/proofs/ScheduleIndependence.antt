-- Demand 3: the verdicts of a rewritten rule over a whole recording are those of the rule on its own local trace, whatever else was recorded.
use mathlib.Core.Path.{◌≡◌, sym, ap, ◌∙◌}
use Prim.Native.Nat.{ℕ, suc, ◌-◌, ◌≤◌, ◌<◌}
use native.Mathlib.Omega.{arith}
use mathlib.Core.Bool.{Bool, true, false}
use mathlib.Core.List.{List, ◌++◌, map}
use lib.ListN.{length, get_or, drop, replicate}
use lib.Dec.{ltb}
use borrow.Author.Tests.{lt-ltb, le-ltb}
use Rattle.definitions.specs.Limits.{max_table_nodes, max_row_words, accepted}
use Rattle.definitions.specs.Bounded.{pick, or_else, bit_of}
use Rattle.definitions.specs.Nodes.{Node, node_word}
use Rattle.definitions.specs.Tables.{Rule, Table, table_of, rule_refusal, table_refusal, nodes_in}
use Rattle.definitions.specs.Recordings.{Recording, recording_refusal, controller_refusal, mask_of, runs_at, word_at}
use Rattle.definitions.specs.Projection.{local_trace, end_at}
use Rattle.definitions.specs.Readings.{Trace, local, whole, verdict, local_verdicts}
use Rattle.definitions.specs.Rewriting.{Rewritten, rewriting}
use Rattle.definitions.specs.Operations.{Answer, answer, left, verdict_values, judge_local_number, judge_local_answer, rewritten_of, rewrite_number, rewrite_answer, rewrite_table, answered_table, judge_recording_number, judge_recording_answer}
use Rattle.theorems.proofs.Choice.{none_or_else}
use Rattle.theorems.proofs.RuleNodes.{RuleNodes, rule_nodes_lem, rule_length_lem, rule_some}
use Rattle.theorems.proofs.RewrittenAccepted.{rewritten_nodes, rewritten_accepted}
use Rattle.theorems.proofs.Semantics.{val, verdict_is}
use Rattle.theorems.proofs.Faithful.{top_of, faithful}
use Rattle.theorems.proofs.RecordingLaws.{Recorded, recorded}
use Rattle.theorems.proofs.ProjectionLaws.{last_state, law, trace_length}

-- an accepted rule, and an accepted recording that has its controller
pub record Accepted (r : Rule) (R : Recording) : Type 0 where
  pub rule : rule_refusal r ≡ 0
  pub recording : recording_refusal R ≡ 0
  pub controller : r.controller < R.controllers

module _ (short : Bool) (ns : List Node) (some : 0 < length ns) (nodes : RuleNodes 0 ns) (R : Recording) (c : ℕ)
    (good : recording_refusal R ≡ 0) (has : c < R.controllers) where
  abbrev W : Rewritten
  W = rewriting short (mask_of R c) ns

  kept : Recorded (runs_at R c) (word_at R) (mask_of R c) R.count
  kept = recorded R c good has

  trace_some : 0 < length (local_trace R c)
  trace_some = omega (arith, trace_length (runs_at R c) (word_at R) (mask_of R c) R.count kept)

  -- the local trace, its length given beside it
  abbrev local_of : ℕ → Trace
  local_of L = record {
    places = L;
    atom = λ a d i. pick (bit_of (mask_of R c) a) (bit_of (get_or (local_trace R c) i 0) a) (pick (ltb (suc i) L) (bit_of (get_or (local_trace R c) i 0) a) d);
    run = λ i. false;
    end = λ i. false;
  }

  values_agree : (d : Bool) → val (whole R c) W.nodes (top_of d W) d 0 ≡ val (local (mask_of R c) (local_trace R c)) ns (length ns - 1) d 0
  values_agree d =
      faithful (runs_at R c) (end_at (runs_at R c) R.count) (mask_of R c) (λ a k. bit_of (word_at R k) a) (λ a i. bit_of (get_or (local_trace R c) i 0) a)
      (last_state (runs_at R c) R.count) R.count (law (runs_at R c) (word_at R) (mask_of R c) R.count kept) short ns some nodes d
      ∙ ap (λ (L : ℕ). val (local_of L) ns (length ns - 1) d 0) (sym (trace_length (runs_at R c) (word_at R) (mask_of R c) R.count kept))

  -- each verdict of the rewritten rule is the rule's own
  pub verdict_agrees : (d : Bool) → verdict (whole R c) W.nodes (top_of d W) d ≡ verdict (local (mask_of R c) (local_trace R c)) ns (length ns - 1) d
  verdict_agrees d =
      verdict_is (whole R c) W.nodes (top_of d W) d kept.some
      ∙ (values_agree d ∙ sym (verdict_is (local (mask_of R c) (local_trace R c)) ns (length ns - 1) d trace_some))

-- the table that a rewriting answered, with what is lent past it
abbrev rewritten_table : Rewritten → List ℕ → Table
rewritten_table w more = table_of (length w.nodes) (map node_word w.nodes ++ more) w.weak_top w.strong_top

-- what a rewriting answers for an accepted rule
module _ (short : Bool) (r : Rule) (mask : ℕ) (table : List ℕ) (good : rule_refusal r ≡ 0) (lent : max_table_nodes ≤ length table) where
  rewrite_accepted : rewrite_number r table ≡ 0
  unfolding rewrite_number pick
  rewrite_accepted = rw (le-ltb (length table) max_table_nodes lent) good

  answered_is : answered_table short r mask table ≡ rewritten_table (rewritten_of short r mask)
      (replicate (max_table_nodes - length (map node_word (rewritten_of short r mask).nodes)) 0 ++ drop max_table_nodes table)
  unfolding rewrite_answer rewrite_table answer left pick
  answered_is = rw rewrite_accepted

pub controller_accepted : (C c : ℕ) → c < C → controller_refusal C c ≡ 0
unfolding controller_refusal pick
controller_accepted C c h = rw (lt-ltb c C h)

-- an accepted rule and recording are not refused
pub local_accepted : (r : Rule) (R : Recording) → Accepted r R → judge_local_number r R ≡ 0
unfolding judge_local_number
local_accepted r R A =
    none_or_else (rule_refusal r) (or_else (recording_refusal R) (controller_refusal R.controllers r.controller)) A.rule
    (none_or_else (recording_refusal R) (controller_refusal R.controllers r.controller) A.recording (controller_accepted R.controllers r.controller A.controller))

-- judging on the local trace answers the verdicts of the rule there
pub local_judging : (r : Rule) (R : Recording) → Accepted r R →
    judge_local_answer r R ≡ answer accepted (verdict_values (local_verdicts (nodes_in r.count r.nodes) (mask_of R r.controller) (local_trace R r.controller)))
unfolding judge_local_answer
local_judging r R A = rw (local_accepted r R A)

-- and so depends on the recording only through the controller's local trace and mask
pub local_judging_same : (r : Rule) (R S : Recording) → Accepted r R → Accepted r S →
    local_trace R r.controller ≡ local_trace S r.controller → mask_of R r.controller ≡ mask_of S r.controller → judge_local_answer r R ≡ judge_local_answer r S
local_judging_same r R S A B places mask = rw (local_judging r R A, local_judging r S B, places, mask)

table_judging : (short : Bool) (r : Rule) (R : Recording) (more rows : List ℕ) → Accepted r R → max_row_words ≤ length rows →
    judge_recording_answer (rewritten_table (rewritten_of short r (mask_of R r.controller)) more) R r.controller rows ≡ judge_local_answer r R
unfolding judge_recording_answer judge_recording_number pick
table_judging short r R more rows A lent =
    let c : ℕ = r.controller in
    let mask : ℕ = mask_of R c in
    let ns : List Node = nodes_in r.count r.nodes in
    let some : 0 < length ns = omega (arith, rule_length_lem r A.rule, rule_some r A.rule) in
    let agrees = verdict_agrees short ns some (rule_nodes_lem r A.rule) R c A.recording A.controller in
    let t : Table = rewritten_table (rewritten_of short r mask) more in
    let number : or_else (table_refusal t) (or_else (recording_refusal R) (controller_refusal R.controllers c)) ≡ 0
    = none_or_else (table_refusal t) (or_else (recording_refusal R) (controller_refusal R.controllers c)) (rewritten_accepted short r mask more A.rule)
    (none_or_else (recording_refusal R) (controller_refusal R.controllers c) A.recording (controller_accepted R.controllers c A.controller)) in
    rw (
      le-ltb (length rows) max_row_words lent,
      number,
      rewritten_nodes short r mask more A.rule,
      agrees true,
      agrees false,
      local_judging r R A,
    )

-- judging the whole recording by the table that a rewriting answered answers what judging on the local trace answers
pub rewritten_judging : (short : Bool) (r : Rule) (R : Recording) (table rows : List ℕ) → Accepted r R → max_table_nodes ≤ length table → max_row_words ≤ length rows →
    judge_recording_answer (answered_table short r (mask_of R r.controller) table) R r.controller rows ≡ judge_local_answer r R
rewritten_judging short r R table rows A lent_table lent_rows =
    let mask : ℕ = mask_of R r.controller in
    let w : Rewritten = rewritten_of short r mask in
    let more : List ℕ = replicate (max_table_nodes - length (map node_word w.nodes)) 0 ++ drop max_table_nodes table in
    ap (λ (t : Table). judge_recording_answer t R r.controller rows) (answered_is short r mask table A.rule lent_table)
    ∙ table_judging short r R more rows A lent_rows

-- the lent space that judging a rewritten rule takes
pub record Lent : Type 0 where
  pub table : List ℕ
  pub rows : List ℕ
  pub full_table : max_table_nodes ≤ length table
  pub full_rows : max_row_words ≤ length rows

-- what the judge answers over the recording R by the table of r, plain or short, in the lent space
abbrev pub rewritten_answer : Bool → Rule → Recording → Lent → Answer
rewritten_answer short r R l = judge_recording_answer (answered_table short r (mask_of R r.controller) l.table) R r.controller l.rows

-- the four answers over two recordings, and the rule's own verdicts on the local trace
pub record OneAnswer (r : Rule) (R S : Recording) (l₁ l₂ l₃ l₄ : Lent) (own : Answer) : Type 0 where
  pub plain_first : rewritten_answer false r R l₁ ≡ own
  pub short_first : rewritten_answer true r R l₂ ≡ own
  pub plain_second : rewritten_answer false r S l₃ ≡ own
  pub short_second : rewritten_answer true r S l₄ ≡ own
  pub local_first : judge_local_answer r R ≡ own
  pub local_second : judge_local_answer r S ≡ own

-- Any accepted rule, any two accepted recordings that have its controller, with the same local trace and the same own mask for it: rewritten plain or
-- short and judged over the one or the other, in any lent space of full size, the rule gets the same two verdicts all four times, and they are the
-- weak and the strong verdict of the rule itself on that local trace.
pub schedule_independence : (r : Rule) (R S : Recording) → Accepted r R → Accepted r S →
    local_trace R r.controller ≡ local_trace S r.controller → mask_of R r.controller ≡ mask_of S r.controller → (l₁ l₂ l₃ l₄ : Lent) →
    OneAnswer r R S l₁ l₂ l₃ l₄ (answer accepted (verdict_values (local_verdicts (nodes_in r.count r.nodes) (mask_of R r.controller) (local_trace R r.controller))))
schedule_independence r R S A B places mask l₁ l₂ l₃ l₄ =
    let own = local_judging r R A in
    let other = sym (local_judging_same r R S A B places mask) ∙ own in
    record {
      plain_first = rewritten_judging false r R l₁.table l₁.rows A l₁.full_table l₁.full_rows ∙ own;
      short_first = rewritten_judging true r R l₂.table l₂.rows A l₂.full_table l₂.full_rows ∙ own;
      plain_second = rewritten_judging false r S l₃.table l₃.rows B l₃.full_table l₃.full_rows ∙ other;
      short_second = rewritten_judging true r S l₄.table l₄.rows B l₄.full_table l₄.full_rows ∙ other;
      local_first = own;
      local_second = other;
    }
