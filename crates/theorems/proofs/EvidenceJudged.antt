-- The readings behind a verdict of an accepted rule on an accepted recording: their number, and their promise for each way of judging.
use mathlib.Core.Path.{◌≡◌, sym, ap, ◌∙◌}
use Prim.Native.Nat.{ℕ, zero, suc, ◌-◌, ◌*◌, ◌≤◌, ◌<◌}
use native.Mathlib.Nat.{mul-le-mul_right}
use native.Mathlib.Omega.{arith}
use mathlib.Core.Bool.{Bool, true, false}
use mathlib.Core.List.{List, [], ◌∷◌}
use lib.ListN.{length, get_or}
use Rattle.definitions.specs.Limits.{accepted, max_rule_nodes, max_states, max_pairs}
use Rattle.definitions.specs.Bounded.{pick, bit}
use Rattle.definitions.specs.Nodes.{Node}
use Rattle.definitions.specs.Tables.{Rule, nodes_in}
use Rattle.definitions.specs.Recordings.{Recording, mask_of, runs_at, word_at}
use Rattle.definitions.specs.Projection.{local_trace}
use Rattle.definitions.specs.Readings.{local, verdict}
use Rattle.definitions.specs.Operations.{Answer, answer, judge_local_answer, evidence_of}
use Rattle.theorems.proofs.RuleNodes.{rule_nodes_lem, rule_length_lem, rule_some, rule_few}
use Rattle.theorems.proofs.Walk.{count}
use Rattle.theorems.proofs.RecordingLaws.{checked, recorded}
use Rattle.theorems.proofs.ProjectionLaws.{last_state, law, trace_length}
use Rattle.theorems.proofs.ScheduleIndependence.{Accepted, local_judging, Lent, rewritten_answer, rewritten_judging}
use Rattle.theorems.proofs.EvidencePairs.{Each, each_so, evidence_few, AtomAt, evidence_atoms}
use Rattle.theorems.proofs.EvidencePromise.{SameBits, promise}

count_few : (run : ℕ → Bool) (n : ℕ) → count run n ≤ n
unfolding pick
count_few run zero = omega arith
count_few run (suc n) = go (run n) (count_few run n)
  where
    go : (c : Bool) → count run n ≤ n → pick c (suc (count run n)) (count run n) ≤ suc n
    go true h = omega arith
    go false h = omega arith

few_pairs : (x y : ℕ) → x ≤ max_states → y ≤ max_rule_nodes → x * y ≤ max_pairs
few_pairs x y a b = let h : x * y ≤ max_states * y = mul-le-mul_right y a in omega arith

-- the nodes of a rule
abbrev rule_nodes : Rule → List Node
rule_nodes r = nodes_in r.count r.nodes

-- the local trace of its controller
abbrev places : Rule → Recording → List ℕ
places r R = local_trace R r.controller

-- S has the controller's own mask and local length of R, and the bits of its local trace that decide
pub record SameEvidence (weak : Bool) (r : Rule) (R S : Recording) : Type 0 where
  pub mask : mask_of S r.controller ≡ mask_of R r.controller
  pub long : length (places r R) ≡ length (places r S)
  pub bits : SameBits (rule_nodes r) (places r R) (places r S) (evidence_of r R weak)

-- the verdict that was chosen, of those that a judge answers
abbrev pub chosen : Bool → Answer → ℕ
chosen true a = get_or a.values 0 0
chosen false a = get_or a.values 1 0

chosen_answered : (weak : Bool) (f g : Bool → Bool) → f weak ≡ g weak →
    chosen weak (answer accepted (bit (f true) ∷ bit (f false) ∷ [])) ≡ chosen weak (answer accepted (bit (g true) ∷ bit (g false) ∷ []))
unfolding answer pick
chosen_answered true f g e = ap bit e
chosen_answered false f g e = ap bit e

module _ (r : Rule) (R : Recording) (good : Accepted r R) (weak : Bool) where
  pub nodes_some : 0 < length (rule_nodes r)
  nodes_some = omega (arith, rule_length_lem r good.rule, rule_some r good.rule)

  pub places_some : 0 < length (places r R)
  places_some =
      omega (arith, trace_length (runs_at R r.controller) (word_at R) (mask_of R r.controller) R.count (recorded R r.controller good.recording good.controller))

  nodes_few_lem : length (rule_nodes r) ≤ max_rule_nodes
  nodes_few_lem = omega (arith, rule_length_lem r good.rule, rule_few r good.rule)

  places_few : length (places r R) ≤ max_states
  places_few =
      let c : ℕ = r.controller in
      let K = recorded R c good.recording good.controller in
      omega (
        arith,
        trace_length (runs_at R c) (word_at R) (mask_of R c) R.count K,
        count_few (runs_at R c) (last_state (runs_at R c) R.count),
        (law (runs_at R c) (word_at R) (mask_of R c) R.count K).inside,
        (checked R good.recording).few_states,
      )

  -- "Lent space for fewer than 8,192 pairs is refused": more there never are
  pub pairs_few : length (evidence_of r R weak) ≤ max_pairs
  pairs_few =
      omega (
        arith,
        evidence_few (mask_of R r.controller) (places r R) (rule_nodes r) weak,
        few_pairs (length (places r R)) (length (rule_nodes r)) places_few nodes_few_lem,
      )

  pub pairs_low : Each (λ j k. j < max_rule_nodes) (evidence_of r R weak)
  pairs_low =
      each_so (AtomAt (rule_nodes r) (length (places r R))) (λ j k. j < max_rule_nodes) (λ j k a. omega (arith, a.node, nodes_few_lem)) (evidence_of r R weak)
      (evidence_atoms (mask_of R r.controller) (places r R) (rule_nodes r) weak)

  -- "Every local trace of the same length and own mask with those bits must get the same verdict"
  pub trace_promise : (us : List ℕ) → length (places r R) ≡ length us → SameBits (rule_nodes r) (places r R) us (evidence_of r R weak) →
      verdict (local (mask_of R r.controller) us) (rule_nodes r) (length (rule_nodes r) - 1) weak
      ≡ verdict (local (mask_of R r.controller) (places r R)) (rule_nodes r) (length (rule_nodes r) - 1) weak
  trace_promise us q bits =
      promise (mask_of R r.controller) (places r R) us (rule_nodes r) weak (rule_nodes_lem r good.rule) nodes_some places_some q bits

  -- so every accepted recording whose local trace is such a one is judged the same on it
  pub local_promise : (S : Recording) → Accepted r S → SameEvidence weak r R S → chosen weak (judge_local_answer r S) ≡ chosen weak (judge_local_answer r R)
  local_promise S good_s E =
      let own : ℕ → Recording → Bool → Bool = λ mask M d. verdict (local mask (places r M)) (rule_nodes r) (length (rule_nodes r) - 1) d in
      let same : own (mask_of S r.controller) S weak ≡ own (mask_of R r.controller) R weak
      = ap (λ (mask : ℕ). own mask S weak) E.mask ∙ trace_promise (places r S) E.long E.bits in
      ap (chosen weak) (local_judging r S good_s)
      ∙ (chosen_answered weak (own (mask_of S r.controller) S) (own (mask_of R r.controller) R) same
      ∙ sym (ap (chosen weak) (local_judging r R good)))

-- the chosen verdict of r over S, by each way of judging
pub record SameChosen (weak : Bool) (r : Rule) (R S : Recording) (l₁ l₂ : Lent) : Type 0 where
  pub locally : chosen weak (judge_local_answer r S) ≡ chosen weak (judge_local_answer r R)
  pub plain : chosen weak (rewritten_answer false r S l₁) ≡ chosen weak (judge_local_answer r R)
  pub short : chosen weak (rewritten_answer true r S l₂) ≡ chosen weak (judge_local_answer r R)

-- any accepted recording with the evidence of another one is judged as that one is: on the local trace, and over the whole recording, plain and short
pub same_evidence_same_verdict : (weak : Bool) (r : Rule) (R S : Recording) → Accepted r R → Accepted r S → SameEvidence weak r R S → (l₁ l₂ : Lent) →
    SameChosen weak r R S l₁ l₂
same_evidence_same_verdict weak r R S A B E l₁ l₂ =
    let own = local_promise r R A weak S B E in
    record {
      locally = own;
      plain = ap (chosen weak) (rewritten_judging false r S l₁.table l₁.rows B l₁.full_table l₁.full_rows) ∙ own;
      short = ap (chosen weak) (rewritten_judging true r S l₂.table l₂.rows B l₂.full_table l₂.full_rows) ∙ own;
    }
