-- Verdicts that a session announced stay as long as no state that it had then is withdrawn: "Verdicts that may be announced early" for "the rack as it
-- runs" (document 02).
use mathlib.Core.Path.{◌≡◌, refl, sym, ap, ◌∙◌}
use Prim.Native.Nat.{ℕ, ◌-◌, ◌≤◌, ◌<◌}
use native.Mathlib.Omega.{arith}
use mathlib.Core.Bool.{Bool, true, false, not}
use mathlib.Core.List.{List, [], ◌∷◌}
use lib.ListN.{length, take}
use lib.Seq.{take-length, take-append-le, take-take, length-take-le}
use Rattle.definitions.specs.Limits.{accepted}
use Rattle.definitions.specs.Bounded.{pick, bit}
use Rattle.definitions.specs.Tables.{Rule}
use Rattle.definitions.specs.Operations.{answer, judge_local_answer}
use Rattle.definitions.specs.Sessions.{Space, Held, recording_held, Call, Open, Arrive, Withdraw, Replace, leaves_all, verdicts_answer, one_more, one_less, admits, held_after, held_after_all, Sound, Made}
use Rattle.theorems.proofs.Beginnings.{Beginning}
use Rattle.theorems.proofs.ScheduleIndependence.{Accepted}
use Rattle.theorems.proofs.EvidenceJudged.{chosen}
use Rattle.theorems.proofs.EarlyRecordings.{beginning_begins}
use Rattle.theorems.proofs.EarlyJudged.{settled_stays_locally}
use Rattle.theorems.proofs.SessionChecks.{held_rule, held_controller}
use Rattle.theorems.proofs.SessionCalls.{Steps, steps_unopened, unopened_masks, steps_rule}
use Rattle.theorems.proofs.SessionVerdicts.{Holds, made_holds}

-- none of these calls leaves fewer than n states
abbrev pub NeverBelow : (n : ℕ) (cs : List Call) (a : Held) → Type 0
NeverBelow n [] a = Unit {0}
NeverBelow n (c ∷ cs) a = (n ≤ length (held_after c a).states) × NeverBelow n cs (held_after c a)

-- ---- then the first n states are as they were
module _ (n : ℕ) where
  arrival_keeps : (t : Bool) (s : ℕ) (a : Held) → n ≤ length a.states → take n (pick t (one_more s a) a).states ≡ take n a.states
  unfolding pick
  arrival_keeps true s a l = take-append-le n a.states (s ∷ []) l
  arrival_keeps false s a l = refl

  withdrawal_keeps : (a : Held) → n ≤ length (one_less a).states → take n (one_less a).states ≡ take n a.states
  withdrawal_keeps a l =
      take-take n (length a.states - 1) a.states (omega (arith, length-take-le (length a.states - 1) a.states (omega arith)))

  steps_begin : (cs : List Call) → Steps cs → (a : Held) → n ≤ length a.states → NeverBelow n cs a →
      (n ≤ length (held_after_all cs a).states) × (take n (held_after_all cs a).states ≡ take n a.states)
  unfolding held_after_all held_after
  steps_begin [] t a l v = (l, refl)
  steps_begin (Open C masks r ∷ cs) t a l v = absurd t
  steps_begin (Arrive s ∷ cs) t a l v =
      let b : Held = pick (admits s a) (one_more s a) a in
      let (m, e) = steps_begin cs t b v.0 v.1 in
      (m, e ∙ arrival_keeps (admits s a) s a l)
  steps_begin (Withdraw ∷ cs) t a l v =
      let (m, e) = steps_begin cs t (one_less a) v.0 v.1 in
      (m, e ∙ withdrawal_keeps a v.0)
  steps_begin (Replace r ∷ cs) t a l v = absurd t

-- a session whose states go on from those of another with the same masks and the same rule
module _ (a b : Held) (masks : b.masks ≡ a.masks) (rule : b.rule ≡ a.rule) (few : length a.states ≤ length b.states)
    (first : take (length a.states) b.states ≡ a.states) (k : Sound a) (l : Sound b) (p : 0 < length a.states) where
  held_begins : Beginning (recording_held a) (recording_held b)
  held_begins = record {
    some = p;
    few = few;
    controllers = sym (ap length masks);
    masks = take-length a.masks ∙ (sym masks ∙ sym (take-length b.masks));
    states = take-length a.states ∙ (sym first ∙ sym (ap (take (length a.states)) (take-length b.states)));
  }

  good_a_lem : Accepted a.rule (recording_held a)
  good_a_lem = record { rule = held_rule a k; recording = k.states p; controller = held_controller a k }

  good_b_lem : Accepted a.rule (recording_held b)
  good_b_lem = record { rule = rw rule at (held_rule b l); recording = l.states (omega arith); controller = rw rule at (held_controller b l) }

  -- a strong yes or a weak no of the one is that of the other
  held_settled : (weak : Bool) → chosen weak (judge_local_answer a.rule (recording_held a)) ≡ bit (not weak) →
      judge_local_answer b.rule (recording_held b) ≡ answer accepted (bit (not weak) ∷ bit (not weak) ∷ [])
  held_settled weak e =
      ap (λ (r : Rule). judge_local_answer r (recording_held b)) rule
      ∙ settled_stays_locally a.rule (recording_held a) (recording_held b) good_a_lem good_b_lem (beginning_begins (recording_held a) (recording_held b) held_begins a.rule.controller) weak e

-- a strong yes or a weak no that a session answers stays, for every further list of arrivals and withdrawals that never leaves fewer states than it had then
pub announced_in_a_session_stays : (g : Space) (m : Made g) → 0 < length m.held.states → (cs : List Call) → Steps cs → NeverBelow (length m.held.states) cs m.held →
    (weak : Bool) → chosen weak (verdicts_answer g) ≡ bit (not weak) → verdicts_answer (leaves_all cs g) ≡ answer accepted (bit (not weak) ∷ bit (not weak) ∷ [])
unfolding held_after_all leaves_all
announced_in_a_session_stays g m p cs t v weak e =
    let a : Held = m.held in
    let b : Held = held_after_all cs a in
    let (few, first) = steps_begin (length a.states) cs t a (omega arith) v in
    let now : Holds a g g = made_holds g m [] in
    let later : Holds b g (leaves_all cs g) = made_holds g m cs in
    later.verdicts (omega arith)
    ∙ held_settled a b (unopened_masks cs (steps_unopened cs t) a) (steps_rule cs t a) few (first ∙ take-length a.states) m.sound later.sound p weak
    (ap (chosen weak) (sym (now.verdicts p)) ∙ e)
