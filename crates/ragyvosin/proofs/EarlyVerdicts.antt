-- Verdicts that may be announced while the recording runs, for a caller of the face, from the contracts in src/lib.rt alone.
use mathlib.Core.Path.{◌≡◌, sym, ap, ◌∙◌}
use mathlib.Core.Bool.{Bool, true, false, not}
use mathlib.Core.List.{List}
use Prim.Native.Nat.{ℕ, ◌≤◌}
use lib.ListN.{length}
use Rattle.definitions.specs.Tables.{Rule, nodes_in}
use Rattle.definitions.specs.Recordings.{Recording, mask_of}
use Rattle.definitions.specs.Projection.{local_trace}
use Rattle.definitions.specs.Early.{begins_for, announced}
use Rattle.theorems.proofs.RuleNodes.{rule_nodes_lem}
use Rattle.theorems.proofs.ScheduleIndependence.{Accepted, local_judging}
use Rattle.theorems.proofs.EvidencePromise.{promise_longer}
use Rattle.theorems.proofs.EvidenceJudged.{nodes_some, places_some}
use Rattle.theorems.proofs.EarlyJudged.{announced_stays}
use Rattle.judges.specs.Verdicts.{meant}
use Rattle.std.specs.Prelude.{Ok, Err}
use Rattle.ragyvosin.specs.Results.{Judgement, Explanation}
use Rattle.ragyvosin.proofs.SameVerdicts.{JudgedWhole, JudgedLocally, own_verdicts, judged_is, judged_whole_lem, judged_locally_lem}
use Rattle.ragyvosin.proofs.SameEvidence.{Explained, count_by, BitsAt, bits_of, own_verdict, Gets, gets}

-- a judge answered verdicts that may be announced: a strong yes or a weak no
abbrev pub may_announce : Judgement → Bool
may_announce (Ok v) = announced (meant v)
may_announce (Err refusal) = false

-- what a judge answered is what every call answers over another recording
pub record StaysOver (answered local_b plain_b short_b : Judgement) : Type 0 where
  pub locally : local_b ≡ answered
  pub plain : plain_b ≡ answered
  pub short : short_b ≡ answered

-- Take any accepted rule, and a judge's answer over an accepted recording A of K states, on the local trace or over the whole of it (`judged_whole_lem`).
-- If it is a strong yes or a weak no, then over every accepted recording B that begins like A as far as the controller goes, every call answers the
-- same two verdicts: on the local trace, and over the whole recording, plain or short.
pub announced_verdicts_stay : (r : Rule) (A B : Recording) → Accepted r A → Accepted r B → begins_for r.controller A B ≡ true →
    (answered : Judgement) → JudgedLocally r A answered → may_announce answered ≡ true →
    (local_b plain_b short_b : Judgement) → JudgedLocally r B local_b → JudgedWhole false r B plain_b → JudgedWhole true r B short_b →
    StaysOver answered local_b plain_b short_b
announced_verdicts_stay r A B good_a good_b b answered a may local_b plain_b short_b l p s =
    let own = own_verdicts r (mask_of A r.controller) (local_trace A r.controller) in
    let is : answered ≡ Ok own = judged_locally_lem r A answered good_a a in
    let same = announced_stays r A B good_a good_b b (sym (ap may_announce is) ∙ may) ∙ local_judging r A good_a in
    let other : (v : Judgement) → JudgedLocally r B v → v ≡ answered = λ v e. judged_is v own (e ∙ same) ∙ sym is in
    record {
      locally = other local_b l;
      plain = other plain_b (judged_whole_lem false r B plain_b good_b p);
      short = other short_b (judged_whole_lem true r B short_b good_b s);
    }

-- B has the own mask of A, no fewer steps, and the bits of A at the pairs
pub record GoesOnAt (r : Rule) (A B : Recording) (count : ℕ) (pairs : List ℕ) : Type 0 where
  pub mask : mask_of B r.controller ≡ mask_of A r.controller
  pub long : length (local_trace A r.controller) ≤ length (local_trace B r.controller)
  pub bits : BitsAt r A B count pairs

-- the chosen verdict, by every call
pub record Settled (weak value : Bool) (local_b plain_b short_b : Judgement) : Type 0 where
  pub locally : Gets weak value local_b
  pub plain : Gets weak value plain_b
  pub short : Gets weak value short_b

-- The same with the pairs that `evidence` leaves: a strong yes or a weak no of A stays over every accepted recording in which the controller has the
-- same own mask, no fewer steps, and at those pairs the same bits.
pub same_bits_settle : (weak : Bool) (r : Rule) (A B : Recording) → Accepted r A → Accepted r B →
    (e : Explanation) (pairs : List ℕ) → Explained weak r A e pairs → GoesOnAt r A B (count_by e) pairs →
    own_verdict weak r (mask_of A r.controller) (local_trace A r.controller) ≡ not weak →
    (local_b plain_b short_b : Judgement) → JudgedLocally r B local_b → JudgedWhole false r B plain_b → JudgedWhole true r B short_b →
    Settled weak (not weak) local_b plain_b short_b
same_bits_settle weak r A B good_a good_b e pairs x g settled local_b plain_b short_b l p s =
    let stays : own_verdict weak r (mask_of B r.controller) (local_trace B r.controller) ≡ not weak
    = ap (λ (mask : ℕ). own_verdict weak r mask (local_trace B r.controller)) g.mask
    ∙ promise_longer (mask_of A r.controller) (local_trace A r.controller) (local_trace B r.controller) (nodes_in r.count r.nodes) weak
    (rule_nodes_lem r good_a.rule) (nodes_some r A good_a weak) (places_some r A good_a weak) g.long (bits_of weak r A e pairs good_a x B g.bits) settled in
    record {
      locally = gets weak r B local_b (not weak) good_b l stays;
      plain = gets weak r B plain_b (not weak) good_b (judged_whole_lem false r B plain_b good_b p) stays;
      short = gets weak r B short_b (not weak) good_b (judged_whole_lem true r B short_b good_b s) stays;
    }
