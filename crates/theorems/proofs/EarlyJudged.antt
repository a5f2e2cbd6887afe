-- "Verdicts that may be announced early" (document 02), for each way of judging: on the local trace, and over the whole recording, plain and short.
use mathlib.Core.Path.{◌≡◌, refl, sym, ap, ◌∙◌}
use Prim.Native.Nat.{ℕ, suc, ◌-◌, ◌≤◌, ◌<◌}
use native.Mathlib.Omega.{arith}
use mathlib.Core.Bool.{Bool, true, false, not, ◌&&◌, ◌||◌, true≢false}
use mathlib.Core.List.{List, [], ◌∷◌}
use lib.ListN.{length}
use lib.Dec.{ltb}
use borrow.Author.Tests.{ltb-true, not-true}
use Rattle.definitions.specs.Limits.{accepted}
use Rattle.definitions.specs.Bounded.{pick, bit, bit_of}
use Rattle.definitions.specs.Nodes.{Node, node_at}
use Rattle.definitions.specs.Tables.{Rule, nodes_in, is_atom}
use Rattle.definitions.specs.Recordings.{Recording, first_states, mask_of}
use Rattle.definitions.specs.Projection.{local_trace}
use Rattle.definitions.specs.Readings.{local, read_from, verdict, Verdicts, local_verdicts}
use Rattle.definitions.specs.Evidence.{wanted_rows, decides, evidence}
use Rattle.definitions.specs.Early.{begins, begins_for, announced}
use Rattle.definitions.specs.Operations.{answer, verdict_values, judge_local_answer, evidence_of}
use Rattle.theorems.proofs.Choice.{by_test, both_true, bit_injective}
use Rattle.theorems.proofs.RuleNodes.{rule_nodes_lem}
use Rattle.theorems.proofs.RecordingLaws.{checked}
use Rattle.theorems.proofs.Beginnings.{first_beginning, first_states_accepted}
use Rattle.theorems.proofs.ScheduleIndependence.{Accepted, local_judging, Lent, rewritten_answer, rewritten_judging}
use Rattle.theorems.proofs.EvidencePairs.{all_from}
use Rattle.theorems.proofs.EvidencePromise.{SameBit, SameBits, promise_longer}
use Rattle.theorems.proofs.EvidenceJudged.{chosen, nodes_some, places_some}
use Rattle.theorems.proofs.Early.{Kept, GoesOn, own_bit, verdict_stays, strong_verdict_is_weak}
use Rattle.theorems.proofs.EarlyRecordings.{begins_for_lem, begins_each, beginning_begins, local_trace_goes_on}

-- the verdict of a rule on the local trace of its controller, weak or strong
abbrev pub own : Rule → Recording → Bool → Bool
own r R weak =
    verdict (local (mask_of R r.controller) (local_trace R r.controller)) (nodes_in r.count r.nodes) (length (nodes_in r.count r.nodes) - 1) weak

-- both
abbrev pub verdicts_on : Rule → Recording → Verdicts
verdicts_on r R = local_verdicts (nodes_in r.count r.nodes) (mask_of R r.controller) (local_trace R r.controller)

-- every way of judging r over B answers `value` for both verdicts
pub record Stays (r : Rule) (B : Recording) (l₁ l₂ : Lent) (value : ℕ) : Type 0 where
  pub locally : judge_local_answer r B ≡ answer accepted (value ∷ value ∷ [])
  pub plain : rewritten_answer false r B l₁ ≡ answer accepted (value ∷ value ∷ [])
  pub short : rewritten_answer true r B l₂ ≡ answer accepted (value ∷ value ∷ [])

chosen_is : (weak : Bool) (f : Bool → Bool) → chosen weak (answer accepted (bit (f true) ∷ bit (f false) ∷ [])) ≡ bit (f weak)
unfolding answer pick
chosen_is true f = refl
chosen_is false f = refl

-- a strong yes is a weak yes, so a weak no is a strong no: a settled verdict settles both
both_settled : (f : Bool → Bool) → (f false ≡ true → f true ≡ true) → (weak : Bool) → f weak ≡ not weak → (d : Bool) → f d ≡ not weak
both_settled f h true e true = e
both_settled f h true e false = by_test (f false) (λ z. absurd (true≢false (sym (h z) ∙ e))) (λ z. z)
both_settled f h false e true = h e
both_settled f h false e false = e

module _ (r : Rule) (R : Recording) (good : Accepted r R) where
  -- a strong yes is a weak yes
  pub own_strong_is_weak : own r R false ≡ true → own r R true ≡ true
  own_strong_is_weak =
      strong_verdict_is_weak (mask_of R r.controller) (local_trace R r.controller) (nodes_in r.count r.nodes) (length (nodes_in r.count r.nodes) - 1)
      (places_some r R good true)

  chosen_own : (weak : Bool) → chosen weak (judge_local_answer r R) ≡ bit (own r R weak)
  chosen_own weak = ap (chosen weak) (local_judging r R good) ∙ chosen_is weak (own r R)

  settled_both : (weak : Bool) → own r R weak ≡ not weak → (d : Bool) → own r R d ≡ not weak
  settled_both = both_settled (own r R) own_strong_is_weak

  settled_local : (weak : Bool) → own r R weak ≡ not weak → judge_local_answer r R ≡ answer accepted (bit (not weak) ∷ bit (not weak) ∷ [])
  settled_local weak e = local_judging r R good ∙ rw (settled_both weak e true, settled_both weak e false)

  settled_each : (weak : Bool) → own r R weak ≡ not weak → (l₁ l₂ : Lent) → Stays r R l₁ l₂ (bit (not weak))
  settled_each weak e l₁ l₂ =
      let a = settled_local weak e in
      record {
        locally = a;
        plain = rewritten_judging false r R l₁.table l₁.rows good l₁.full_table l₁.full_rows ∙ a;
        short = rewritten_judging true r R l₂.table l₂.rows good l₂.full_table l₂.full_rows ∙ a;
      }

-- ---- recordings that begin alike
module _ (r : Rule) (A B : Recording) (good_a : Accepted r A) (good_b : Accepted r B) (b : begins_for r.controller A B ≡ true) where
  goes_on_lem : GoesOn (mask_of A r.controller) (local_trace A r.controller) (local_trace B r.controller)
  goes_on_lem =
      local_trace_goes_on A B r.controller good_a.recording good_b.recording good_a.controller good_b.controller (begins_for_lem r.controller A B b)

  pub own_stays : (weak : Bool) → Kept weak (own r A weak) (own r B weak)
  own_stays weak e =
      ap (λ (m : ℕ). verdict (local m (local_trace B r.controller)) (nodes_in r.count r.nodes) (length (nodes_in r.count r.nodes) - 1) weak)
      (sym (begins_for_lem r.controller A B b).mask)
      ∙ verdict_stays (mask_of A r.controller) (local_trace A r.controller) (local_trace B r.controller) goes_on_lem
      (nodes_in r.count r.nodes) (length (nodes_in r.count r.nodes) - 1) weak (places_some r A good_a true) e

  settled_own : (weak : Bool) → chosen weak (judge_local_answer r A) ≡ bit (not weak) → own r B weak ≡ not weak
  settled_own weak e = own_stays weak (bit_injective (own r A weak) (not weak) (sym (chosen_own r A good_a weak) ∙ e))

  -- for either reading: a strong yes or a weak no
  pub settled_stays : (weak : Bool) → chosen weak (judge_local_answer r A) ≡ bit (not weak) → (l₁ l₂ : Lent) → Stays r B l₁ l₂ (bit (not weak))
  settled_stays weak e = settled_each r B good_b weak (settled_own weak e)

  -- the same, on the local trace alone
  pub settled_stays_locally : (weak : Bool) → chosen weak (judge_local_answer r A) ≡ bit (not weak) → judge_local_answer r B ≡ answer accepted (bit (not weak) ∷ bit (not weak) ∷ [])
  settled_stays_locally weak e = settled_local r B good_b weak (settled_own weak e)

  -- verdicts that may be announced are those of every such recording
  pub announced_same : announced (verdicts_on r A) ≡ true → verdicts_on r B ≡ verdicts_on r A
  announced_same e =
      let same : (weak : Bool) → own r A weak ≡ not weak → verdicts_on r B ≡ verdicts_on r A
      = λ weak h. let h' = own_stays weak h in
      rw (settled_both r A good_a weak h true, settled_both r A good_a weak h false, settled_both r B good_b weak h' true, settled_both r B good_b weak h' false) in
      by_test (own r A false) (same false) (λ z. same true (not-true (own r A true) (rw z at e)))

  pub announced_stays : announced (verdicts_on r A) ≡ true → judge_local_answer r B ≡ judge_local_answer r A
  announced_stays e =
      local_judging r B good_b ∙ (ap (λ (v : Verdicts). answer accepted (verdict_values v)) (announced_same e) ∙ sym (local_judging r A good_a))

-- ---- what document 02 asks of the longer recording is enough for each controller
module _ (r : Rule) (A B : Recording) (good_a : Accepted r A) (good_b : Accepted r B) (b : begins A B ≡ true) where
  begins_controller : begins_for r.controller A B ≡ true
  begins_controller = begins_each r.controller A B b (checked A good_a.recording).some_state good_a.controller

  -- "a strong yes on the first K states stays a strong yes on every accepted longer recording": both verdicts are yes there, however it is judged
  pub strong_yes_stays_lem : chosen false (judge_local_answer r A) ≡ 1 → (l₁ l₂ : Lent) → Stays r B l₁ l₂ 1
  strong_yes_stays_lem = settled_stays r A B good_a good_b begins_controller false

  -- "a weak no stays a weak no alike": both verdicts are no
  pub weak_no_stays_lem : chosen true (judge_local_answer r A) ≡ 0 → (l₁ l₂ : Lent) → Stays r B l₁ l₂ 0
  weak_no_stays_lem = settled_stays r A B good_a good_b begins_controller true

-- ---- one recording, and its first K states
module _ (r : Rule) (R : Recording) (K : ℕ) (good : Accepted r R) (some : 0 < K) (few : K ≤ R.count) where
  pub first_accepted : Accepted r (first_states K R)
  first_accepted = record { rule = good.rule; recording = first_states_accepted R K good.recording some few; controller = good.controller }

  -- what may be announced after K states is what the whole recording gets
  pub first_states_settle : announced (verdicts_on r (first_states K R)) ≡ true → judge_local_answer r R ≡ judge_local_answer r (first_states K R)
  first_states_settle = announced_stays r (first_states K R) R first_accepted good (beginning_begins (first_states K R) R (first_beginning R K some few) r.controller)

-- ---- what it has to do with the readings behind a verdict
-- B has the own mask of A, no fewer steps, and "those bits": in the readings that decide the weak or the strong verdict on A
pub record HasEvidence (weak : Bool) (r : Rule) (A B : Recording) : Type 0 where
  pub mask : mask_of B r.controller ≡ mask_of A r.controller
  pub long : length (local_trace A r.controller) ≤ length (local_trace B r.controller)
  pub bits : SameBits (nodes_in r.count r.nodes) (local_trace A r.controller) (local_trace B r.controller) (evidence_of r A weak)

module _ (weak : Bool) (r : Rule) (A B : Recording) (good_a : Accepted r A) (good_b : Accepted r B) where
  -- a strong yes or a weak no stays on every recording with no fewer steps that has the readings behind it
  pub evidence_settles : HasEvidence weak r A B → chosen weak (judge_local_answer r A) ≡ bit (not weak) → (l₁ l₂ : Lent) → Stays r B l₁ l₂ (bit (not weak))
  evidence_settles E e =
      settled_each r B good_b weak
      (ap (λ (m : ℕ). verdict (local m (local_trace B r.controller)) (nodes_in r.count r.nodes) (length (nodes_in r.count r.nodes) - 1) weak) E.mask
      ∙ promise_longer (mask_of A r.controller) (local_trace A r.controller) (local_trace B r.controller) (nodes_in r.count r.nodes) weak
      (rule_nodes_lem r good_a.rule) (nodes_some r A good_a weak) (places_some r A good_a weak) E.long E.bits
      (bit_injective (own r A weak) (not weak) (sym (chosen_own r A good_a weak) ∙ e)))

  -- and every recording that begins like A is such a one
  pub begins_has_evidence : begins_for r.controller A B ≡ true → HasEvidence weak r A B
  unfolding evidence
  begins_has_evidence b =
      let c : ℕ = r.controller in
      let ns : List Node = nodes_in r.count r.nodes in
      let ws : List ℕ = local_trace A c in
      let G : GoesOn (mask_of A c) ws (local_trace B c) = goes_on_lem r A B good_a good_b b in
      let wanted = wanted_rows (local (mask_of A c) ws) ns weak in
      record {
        mask = sym (begins_for_lem c A B b).mask;
        long = G.longer;
        bits = all_from (SameBit ns ws (local_trace B c)) (decides (mask_of A c) ws ns wanted) (length ns) (length ws)
            (λ j k m l e.
            let (read, w) = both_true (bit_of (mask_of A c) (node_at ns j).first || ltb (suc k) (length ws)) (read_from wanted j true k || read_from wanted j false k)
            (both_true (is_atom (node_at ns j).kind) ((bit_of (mask_of A c) (node_at ns j).first || ltb (suc k) (length ws)) && (read_from wanted j true k || read_from wanted j false k)) e).1 in
            by_test (bit_of (mask_of A c) (node_at ns j).first)
            (λ o. sym (own_bit (mask_of A c) ws (local_trace B c) G k (node_at ns j).first l o))
            (λ o. ap (λ (x : ℕ). bit_of x (node_at ns j).first) (sym (G.before k (ltb-true (suc k) (length ws) (rw o at read)))))) (length ws) 0 (omega arith);
      }
