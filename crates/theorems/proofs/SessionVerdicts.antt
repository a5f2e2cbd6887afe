-- "After every list of arrivals and withdrawals from an empty session, refused ones included, both verdicts equal those of judging the remaining states
-- from the start. An empty session has no verdict, and its answer says so" (document 02); with new rules among them, by the rule in force.
use mathlib.Core.Path.{◌≡◌, refl, sym, ap, ◌∙◌}
use Prim.Native.Nat.{ℕ, suc, ◌<◌}
use native.Mathlib.Omega.{arith}
use mathlib.Core.Bool.{Bool, true, false, ◌&&◌}
use mathlib.Core.List.{List, [], ◌∷◌, map}
use lib.ListN.{length, take, get_or}
use lib.Seq.{take-length, take_all, take-take}
use lib.Dec.{eqb, ltb}
use borrow.Author.Tests.{ne_eqb}
use Rattle.definitions.specs.Limits.{accepted}
use Rattle.definitions.specs.Bounded.{pick}
use Rattle.definitions.specs.Nodes.{node_of}
use Rattle.definitions.specs.Tables.{Rule, rule_of, rule_refusal}
use Rattle.definitions.specs.Recordings.{Recording, recording_of, atoms_of, marked, masks_of, states_of, recording_refusal}
use Rattle.definitions.specs.Projection.{run_states, places_of}
use Rattle.definitions.specs.Readings.{local_verdicts}
use Rattle.definitions.specs.Operations.{Answer, answer, left, verdict_values, judge_local_number, judge_local_answer}
use Rattle.definitions.specs.Sessions.{Space, Held, recording_held, space_of, held_in, session_rule, session_recording, open_number, rule_read, opened, replacement_refusal, Call, Open, Arrive, Withdraw, Replace, leaves, leaves_all, verdicts_answer, with_rule, one_more, one_less, admits, held_after, held_after_all, Sound, Made}
use Rattle.theorems.proofs.Choice.{pick_false}
use Rattle.theorems.proofs.RecordingLaws.{checked}
use Rattle.theorems.proofs.Beginnings.{Beginning, beginnings_accepted}
use Rattle.theorems.proofs.ScheduleIndependence.{Accepted, local_accepted, local_judging}
use Rattle.theorems.proofs.RoundTrips.{same_accepted}
use Rattle.theorems.proofs.SessionChecks.{one_state, open_accepts, rule_read_lem, held_rule, held_controller, opened_sound}
use Rattle.theorems.proofs.Sessions.{space_held, space_masks, space_nodes, space_states, space_made}
use Rattle.theorems.proofs.SessionCalls.{accepted_leaves_lem, calls_sound, calls_space, open_parts, Unopened, pick_same, unopened_masks}

-- an accepted rule and recording are judged by their entries up to the counts
unfoldable judged_on : (c : ℕ) (nodes masks states : List ℕ) (N : ℕ) → Answer
judged_on c nodes masks states N =
    let mask = get_or masks c 0 in
    answer accepted
    (verdict_values (local_verdicts (map node_of nodes) mask
    (places_of (λ k. atoms_of (get_or states k 0)) mask (run_states (λ k. ltb (suc k) N && marked c (get_or states k 0)) N))))

judged_on_lem : (r : Rule) (R : Recording) → Accepted r R → judge_local_answer r R ≡ judged_on r.controller (take r.count r.nodes) (masks_of R) (states_of R) R.count
unfolding judged_on
judged_on_lem r R A = local_judging r R A

same_judged : (r q : Rule) (R S : Recording) → Accepted r R → Accepted q S → r.controller ≡ q.controller →
    take r.count r.nodes ≡ take q.count q.nodes → R.count ≡ S.count → masks_of R ≡ masks_of S → states_of R ≡ states_of S →
    judge_local_answer r R ≡ judge_local_answer q S
same_judged r q R S A B c ns n ms ss = rw (judged_on_lem r R A, judged_on_lem q S B, c, ns, ms, ss, n)

verdicts_some : (h : Space) → eqb (held_in h) 0 ≡ false → verdicts_answer h ≡ judge_local_answer (session_rule h) (session_recording h)
unfolding verdicts_answer
verdicts_some h e = pick_false (eqb (held_in h) 0) (answer accepted []) (judge_local_answer (session_rule h) (session_recording h)) e

module _ (a : Held) (h : Space) (k : Sound a) where
  -- the rule and the recording that the contents are
  abbrev rule_there : Rule
  rule_there = rule_of a.rule.controller a.rule.count (space_of a h).nodes

  abbrev recording_there : Recording
  recording_there = recording_of (length a.masks) (length a.states) (space_of a h).masks (space_of a h).states

  rule_there_lem : session_rule (space_of a h) ≡ rule_there
  unfolding space_of left pick
  rule_there_lem = refl

  recording_there_lem : session_recording (space_of a h) ≡ recording_there
  unfolding space_of left pick
  recording_there_lem = refl

  module _ (p : 0 < length a.states) where
    there_begins : Beginning recording_there (recording_held a)
    there_begins = record {
      some = p;
      few = omega arith;
      controllers = refl;
      masks = space_masks a h ∙ sym (take-length a.masks);
      states = space_states a h ∙ sym (ap (take (length a.states)) (take-length a.states) ∙ take-length a.states);
    }

    there_accepted : recording_refusal recording_there ≡ 0
    there_accepted = beginnings_accepted recording_there (recording_held a) there_begins (k.states p)

    -- the recording that the contents are is accepted
    pub contents_accepted : recording_refusal (session_recording (space_of a h)) ≡ 0
    contents_accepted = rw recording_there_lem there_accepted

    held : Accepted a.rule (recording_held a)
    held = record { rule = held_rule a k; recording = k.states p; controller = held_controller a k }

    there : Accepted rule_there recording_there
    there = record {
      rule = same_accepted a.rule (space_of a h).nodes (space_nodes a h k.nodes) (held_rule a k);
      recording = there_accepted;
      controller = held_controller a k;
    }

    -- and so are the rule and the recording of the remaining states
    pub held_number : judge_local_number a.rule (recording_held a) ≡ 0
    held_number = local_accepted a.rule (recording_held a) held

    same_answer : judge_local_answer rule_there recording_there ≡ judge_local_answer a.rule (recording_held a)
    same_answer =
        let n : take a.rule.count a.rule.nodes ≡ a.rule.nodes = take_all a.rule.count a.rule.nodes (omega (arith, k.nodes)) in
        same_judged rule_there a.rule recording_there (recording_held a) there held refl (space_nodes a h k.nodes ∙ sym n) refl
        (space_masks a h ∙ sym (take-length a.masks)) (space_states a h ∙ sym (take-length a.states))

    -- "both verdicts equal those of judging the remaining states from the start"
    pub verdicts_held : verdicts_answer (space_of a h) ≡ judge_local_answer a.rule (recording_held a)
    verdicts_held =
        let z : eqb (held_in (space_of a h)) 0 ≡ false = rw (space_held a h) (ne_eqb (length a.states) 0 (λ e. omega arith)) in
        verdicts_some (space_of a h) z
        ∙ (ap (λ (r : Rule). judge_local_answer r (session_recording (space_of a h))) rule_there_lem ∙ (ap (judge_local_answer rule_there) recording_there_lem ∙ same_answer))

  -- "An empty session has no verdict, and its answer says so"
  pub verdicts_none : length a.states ≡ 0 → verdicts_answer (space_of a h) ≡ answer accepted []
  unfolding verdicts_answer pick
  verdicts_none z = rw (space_held a h, z)

-- ---- the promise

-- the contents g in the lent space h hold these masks, this rule and these states, and answer as judging them from the start does
pub record Holds (a : Held) (h g : Space) : Type 0 where
  pub contents : g ≡ space_of a h
  pub sound : Sound a
  pub accepted : 0 < length a.states → recording_refusal (recording_held a) ≡ 0
  pub read : 0 < length a.states → recording_refusal (session_recording g) ≡ 0
  pub judged : 0 < length a.states → judge_local_number a.rule (recording_held a) ≡ 0
  pub verdicts : 0 < length a.states → verdicts_answer g ≡ judge_local_answer a.rule (recording_held a)
  pub none : length a.states ≡ 0 → verdicts_answer g ≡ answer 0 []

space_holds : (a : Held) (h g : Space) → Sound a → g ≡ space_of a h → Holds a h g
space_holds a h g k e = record {
  contents = e;
  sound = k;
  accepted = k.states;
  read = λ p. rw e (contents_accepted a h k p);
  judged = held_number a h k;
  verdicts = λ p. rw e (verdicts_held a h k p);
  none = λ z. rw e (verdicts_none a h k z);
}

-- an accepted opening, then any calls, refused ones and openings among them
pub session : (C : ℕ) (masks : List ℕ) (r : Rule) (h : Space) → open_number C masks r h ≡ 0 → (cs : List Call) →
    Holds (held_after_all cs (opened C masks r)) h (leaves_all (Open C masks r ∷ cs) h)
unfolding leaves_all
session C masks r h e cs =
    let (f, z) = open_parts C masks r h e in
    let k = opened_sound C masks r z in
    space_holds (held_after_all cs (opened C masks r)) h (leaves_all cs (leaves (Open C masks r) h)) (calls_sound cs (opened C masks r) k)
    (ap (leaves_all cs) (accepted_leaves_lem (Open C masks r) h e) ∙ calls_space cs (opened C masks r) h k f)

-- what it leaves is "made by its own calls"
pub session_made : (C : ℕ) (masks : List ℕ) (r : Rule) (h : Space) → open_number C masks r h ≡ 0 → (cs : List Call) → Made (leaves_all (Open C masks r ∷ cs) h)
session_made C masks r h e cs =
    let s = session C masks r h e cs in
    rw s.contents (space_made (held_after_all cs (opened C masks r)) h s.sound (open_parts C masks r h e).0)

-- on contents made by a session's own calls, whichever they were, any calls do the same
pub made_holds : (h : Space) (m : Made h) (cs : List Call) → Holds (held_after_all cs m.held) h (leaves_all cs h)
made_holds h m cs =
    space_holds (held_after_all cs m.held) h (leaves_all cs h) (calls_sound cs m.held m.sound)
    (ap (leaves_all cs) m.is ∙ calls_space cs m.held h m.sound m.full)

-- ---- in the requests' own words: arrivals, withdrawals and new rules, on the masks and the rules as they were given

-- the rule in force after these calls: "A rule refused with 2, 3, 4 or 11 leaves the former one in force"
unfoldable pub in_force : (C : ℕ) (r : Rule) (cs : List Call) → Rule
in_force C r [] = r
in_force C r (Open D masks q ∷ cs) = in_force C r cs
in_force C r (Arrive s ∷ cs) = in_force C r cs
in_force C r (Withdraw ∷ cs) = in_force C r cs
in_force C r (Replace q ∷ cs) = in_force C (pick (eqb (replacement_refusal C q) accepted) q r) cs

replaced_rule : (t : Bool) (q r : Rule) (a : Held) → a.rule ≡ rule_read r → (pick t (with_rule a (rule_read q)) a).rule ≡ rule_read (pick t q r)
unfolding pick
replaced_rule true q r a e = refl
replaced_rule false q r a e = e

-- it is the rule that is held
held_in_force : (cs : List Call) → Unopened cs → (C : ℕ) (r : Rule) (a : Held) → length a.masks ≡ C → a.rule ≡ rule_read r →
    (held_after_all cs a).rule ≡ rule_read (in_force C r cs)
unfolding held_after_all held_after in_force
held_in_force [] u C r a n e = e
held_in_force (Open D masks q ∷ cs) u C r a n e = absurd u
held_in_force (Arrive s ∷ cs) u C r a n e =
    held_in_force cs u C r (pick (admits s a) (one_more s a) a)
    (pick_same (λ x. length x.masks) (admits s a) (one_more s a) a refl ∙ n) (pick_same (λ x. x.rule) (admits s a) (one_more s a) a refl ∙ e)
held_in_force (Withdraw ∷ cs) u C r a n e = held_in_force cs u C r (one_less a) n e
held_in_force (Replace q ∷ cs) u C r a n e =
    let z : eqb (replacement_refusal (length a.masks) q) accepted ≡ eqb (replacement_refusal C q) accepted = rw n in
    let b : Held = pick (eqb (replacement_refusal (length a.masks) q) accepted) (with_rule a (rule_read q)) a in
    held_in_force cs u C (pick (eqb (replacement_refusal C q) accepted) q r) b
    (pick_same (λ x. length x.masks) (eqb (replacement_refusal (length a.masks) q) accepted) (with_rule a (rule_read q)) a refl ∙ n)
    (replaced_rule (eqb (replacement_refusal (length a.masks) q) accepted) q r a e ∙ ap (λ (t : Bool). rule_read (pick t q r)) z)

-- the states that remain of an opened session after these calls
abbrev pub remaining : (C : ℕ) (masks : List ℕ) (r : Rule) (cs : List Call) → List ℕ
remaining C masks r cs = (held_after_all cs (opened C masks r)).states

-- their recording
abbrev pub remaining_recording : (C : ℕ) (masks : List ℕ) (r : Rule) (cs : List Call) → Recording
remaining_recording C masks r cs = recording_of C (length (remaining C masks r cs)) masks (remaining C masks r cs)

-- what is said of the contents g after them
pub record Running (C : ℕ) (masks : List ℕ) (r : Rule) (cs : List Call) (g : Space) : Type 0 where
  pub held : held_in g ≡ length (remaining C masks r cs)
  pub accepts : 0 < length (remaining C masks r cs) → Accepted (in_force C r cs) (remaining_recording C masks r cs)
  pub verdicts : 0 < length (remaining C masks r cs) → verdicts_answer g ≡ judge_local_answer (in_force C r cs) (remaining_recording C masks r cs)
  pub none : length (remaining C masks r cs) ≡ 0 → verdicts_answer g ≡ answer 0 []

module _ (C : ℕ) (masks : List ℕ) (r : Rule) (h : Space) (e : open_number C masks r h ≡ 0) (cs : List Call) (unopened : Unopened cs) where
  abbrev a : Held
  a = held_after_all cs (opened C masks r)

  abbrev q : Rule
  q = in_force C r cs

  holds : Holds a h (leaves_all (Open C masks r ∷ cs) h)
  holds = session C masks r h e cs

  given : Accepted r (one_state C masks)
  given = open_accepts C masks r (open_parts C masks r h e).1

  given_masks : length (take C masks) ≡ C
  given_masks = (checked (one_state C masks) given.recording).masks

  same_masks : a.masks ≡ take C masks
  same_masks = unopened_masks cs unopened (opened C masks r)

  same_rule : a.rule ≡ rule_read q
  same_rule = held_in_force cs unopened C r (opened C masks r) given_masks refl

  count_masks : length a.masks ≡ C
  count_masks = ap length same_masks ∙ given_masks

  masks_read : take C masks ≡ take (length a.masks) a.masks
  masks_read = sym same_masks ∙ sym (take-length a.masks)

  nodes_read_lem : take a.rule.count a.rule.nodes ≡ take q.count q.nodes
  nodes_read_lem = ap (λ (x : Rule). take x.count x.nodes) same_rule ∙ take-take q.count q.count q.nodes (omega arith)

  module _ (p : 0 < length a.states) where
    remaining_accepted : recording_refusal (remaining_recording C masks r cs) ≡ 0
    remaining_accepted =
        let B : Beginning (remaining_recording C masks r cs) (recording_held a)
        = record { some = p; few = omega arith; controllers = sym count_masks; masks = masks_read; states = sym (ap (take (length a.states)) (take-length a.states)) } in
        beginnings_accepted (remaining_recording C masks r cs) (recording_held a) B (holds.accepted p)

    rule_accepted : Accepted q (remaining_recording C masks r cs)
    rule_accepted =
        let below : q.controller < length a.masks = rw same_rule at (held_controller a holds.sound) in
        record {
          rule = sym (rule_read_lem q) ∙ (sym (ap rule_refusal same_rule) ∙ held_rule a holds.sound);
          recording = remaining_accepted;
          controller = omega (arith, below, count_masks);
        }

    remaining_judged : verdicts_answer (leaves_all (Open C masks r ∷ cs) h) ≡ judge_local_answer q (remaining_recording C masks r cs)
    remaining_judged =
        holds.verdicts p
        ∙ same_judged a.rule q (recording_held a) (remaining_recording C masks r cs)
        (record { rule = held_rule a holds.sound; recording = holds.accepted p; controller = held_controller a holds.sound })
        rule_accepted
        (ap (λ (x : Rule). x.controller) same_rule) nodes_read_lem refl (sym masks_read) refl

  pub the_rack_as_it_runs : Running C masks r cs (leaves_all (Open C masks r ∷ cs) h)
  the_rack_as_it_runs = record { held = ap held_in holds.contents ∙ space_held a h; accepts = rule_accepted; verdicts = remaining_judged; none = holds.none }
