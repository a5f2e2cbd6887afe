-- "The rack as it runs" and "A new rule without stopping the rack" for a caller of the face, from the contracts in src/lib.rt alone: whatever answers and
-- leaves what they say.
use mathlib.Core.Path.{◌≡◌, refl, sym, ap, ◌∙◌}
use mathlib.Core.Bool.{Bool, true, false, not, true≢false}
use mathlib.Core.List.{List, [], ◌∷◌, map}
use Prim.Native.Nat.{ℕ, ◌<◌}
use native.Mathlib.Omega.{arith}
use lib.Dec.{eqb}
use lib.ListN.{length, get_or}
use borrow.Author.Tests.{ne_eqb, eq-eqb}
use Rattle.definitions.specs.Limits.{accepted}
use Rattle.definitions.specs.Bounded.{bit}
use Rattle.definitions.specs.Tables.{Rule}
use Rattle.definitions.specs.Recordings.{Recording, mask_of}
use Rattle.definitions.specs.Projection.{local_trace}
use Rattle.definitions.specs.Operations.{answer}
use Rattle.definitions.specs.Sessions.{Space, lent_space, open_number, replace_number, Call, Open, Arrive, Withdraw, Replace, leaves, leaves_all, held_in, verdicts_answer, Made}
use Rattle.theorems.proofs.ScheduleIndependence.{Accepted, local_judging}
use Rattle.theorems.proofs.EvidenceJudged.{chosen}
use Rattle.theorems.proofs.SessionCalls.{arrival_unlent, withdrawal_unlent, replacement_unlent, Unopened, Steps}
use Rattle.theorems.proofs.SessionVerdicts.{in_force, remaining, remaining_recording, Running, the_rack_as_it_runs}
use Rattle.theorems.proofs.MadeSessions.{replaced_from_there}
use Rattle.theorems.proofs.SessionEarly.{NeverBelow, announced_in_a_session_stays}
use Rattle.judges.specs.declared.verdicts.Verdicts.{Verdicts}
use Rattle.std.specs.Prelude.{Some, None, Ok, Err}
use Rattle.ragyvosin.specs.Results.{Judgement, SessionVerdicts}
use Rattle.sessions.specs.Answers.{session_answer as session_judged, says_none}
use Rattle.ragyvosin.proofs.SameVerdicts.{JudgedWhole, JudgedLocally, own_verdicts, judged_is, judged_whole_lem, judged_locally_lem}

-- ---- a call of the face in the space h leaves the space g: what its contract says of each place that it is lent; it is lent no other

-- `open_session`
pub record Opened (C : ℕ) (owned : List ℕ) (r : Rule) (h g : Space) : Type 0 where
  pub heading : g.heading ≡ (leaves (Open C owned r) (lent_space h.heading h.masks h.nodes h.states)).heading
  pub masks : g.masks ≡ (leaves (Open C owned r) (lent_space h.heading h.masks h.nodes h.states)).masks
  pub nodes : g.nodes ≡ (leaves (Open C owned r) (lent_space h.heading h.masks h.nodes h.states)).nodes
  pub states : g.states ≡ (leaves (Open C owned r) (lent_space h.heading h.masks h.nodes h.states)).states

-- `arrive`
pub record Arrived (s : ℕ) (h g : Space) : Type 0 where
  pub heading : g.heading ≡ (leaves (Arrive s) (lent_space h.heading h.masks [] h.states)).heading
  pub masks : g.masks ≡ h.masks
  pub nodes : g.nodes ≡ h.nodes
  pub states : g.states ≡ (leaves (Arrive s) (lent_space h.heading h.masks [] h.states)).states

-- `withdraw`
pub record Withdrawn (h g : Space) : Type 0 where
  pub heading : g.heading ≡ (leaves Withdraw (lent_space h.heading [] [] h.states)).heading
  pub masks : g.masks ≡ h.masks
  pub nodes : g.nodes ≡ h.nodes
  pub states : g.states ≡ (leaves Withdraw (lent_space h.heading [] [] h.states)).states

-- `replace_rule`
pub record Replaced (r : Rule) (h g : Space) : Type 0 where
  pub heading : g.heading ≡ (leaves (Replace r) (lent_space h.heading [] h.nodes [])).heading
  pub masks : g.masks ≡ h.masks
  pub nodes : g.nodes ≡ (leaves (Replace r) (lent_space h.heading [] h.nodes [])).nodes
  pub states : g.states ≡ h.states

abbrev pub Called : (c : Call) (h g : Space) → Type 0
Called (Open C owned r) h g = Opened C owned r h g
Called (Arrive s) h g = Arrived s h g
Called Withdraw h g = Withdrawn h g
Called (Replace r) h g = Replaced r h g

-- calls, one after the other
pub data CalledAll : (cs : List Call) (h g : Space) → Type 0 where
  done : (h : Space) → CalledAll [] h h
  next : (c : Call) (cs : List Call) (h between g : Space) → Called c h between → CalledAll cs between g → CalledAll (c ∷ cs) h g

-- ---- they leave what the definitions say

-- a space is its four parts
by_parts : (g : Space) (heading masks nodes states : List ℕ) → g.heading ≡ heading → g.masks ≡ masks → g.nodes ≡ nodes → g.states ≡ states → g ≡ lent_space heading masks nodes states
by_parts g heading masks nodes states a b c d = rw (← a, ← b, ← c, ← d)

pub called_leaves : (c : Call) (h g : Space) → Called c h g → g ≡ leaves c h
called_leaves (Open C owned r) h g k = by_parts g _ _ _ _ k.heading k.masks k.nodes k.states
called_leaves (Arrive s) h g k =
    by_parts g _ h.masks h.nodes _ k.heading k.masks k.nodes k.states ∙ (arrival_unlent s h.heading h.masks h.nodes h.states).1
called_leaves Withdraw h g k =
    by_parts g _ h.masks h.nodes _ k.heading k.masks k.nodes k.states ∙ (withdrawal_unlent h.heading h.masks h.nodes h.states).1
called_leaves (Replace r) h g k =
    by_parts g _ h.masks _ h.states k.heading k.masks k.nodes k.states ∙ (replacement_unlent r h.heading h.masks h.nodes h.states).1

pub called_all : (cs : List Call) (h g : Space) → CalledAll cs h g → g ≡ leaves_all cs h
unfolding leaves_all
called_all cs h g (done x) = refl
called_all cs h g (next c ds x between y k ks) = called_all ds between y ks ∙ ap (leaves_all ds) (called_leaves c x between k)

-- ---- what `session_verdicts` answers in the space g
pub record Queried (g : Space) (v : SessionVerdicts) : Type 0 where
  pub answered : session_judged v ≡ verdicts_answer (lent_space g.heading g.masks g.nodes g.states)
  pub none : says_none v ≡ eqb (get_or g.heading 3 0) 0

-- the case of a judge's answer
abbrev same_case : Judgement → SessionVerdicts
same_case (Ok v) = Ok (Some v)
same_case (Err number) = Err number

none_is : (v : SessionVerdicts) → says_none v ≡ true → v ≡ Ok None
none_is (Ok None) e = refl
none_is (Ok (Some u)) e = absurd (true≢false (sym e))
none_is (Err number) e = absurd (true≢false (sym e))

-- an answer of two verdicts is the case of them
judged_case : (v : SessionVerdicts) (u : Verdicts) → says_none v ≡ false → session_judged v ≡ answer accepted (bit u.weak ∷ bit u.strong ∷ []) → v ≡ Ok (Some u)
judged_case (Ok None) u n e = absurd (true≢false n)
judged_case (Ok (Some w)) u n e = ap same_case (judged_is (Ok w) u e)
judged_case (Err number) u n e = ap same_case (judged_is (Err number) u e)

-- ---- "After every list of arrivals and withdrawals from an empty session, refused ones included, both verdicts equal those of judging the remaining
-- states from the start": on the local trace, plain and short, and by the rule in force where new rules are among them. "An empty session has no verdict,
-- and its answer says so"
pub record AsFromTheStart (r : Rule) (R : Recording) (v : SessionVerdicts) : Type 0 where
  pub accepted : Accepted r R
  pub session : v ≡ Ok (Some (own_verdicts r (mask_of R r.controller) (local_trace R r.controller)))
  pub locally : (j : Judgement) → JudgedLocally r R j → j ≡ Ok (own_verdicts r (mask_of R r.controller) (local_trace R r.controller))
  pub plain : (j : Judgement) → JudgedWhole false r R j → j ≡ Ok (own_verdicts r (mask_of R r.controller) (local_trace R r.controller))
  pub short : (j : Judgement) → JudgedWhole true r R j → j ≡ Ok (own_verdicts r (mask_of R r.controller) (local_trace R r.controller))

pub record RunsOn (C : ℕ) (masks : List ℕ) (r : Rule) (cs : List Call) (v : SessionVerdicts) : Type 0 where
  pub some : 0 < length (remaining C masks r cs) → AsFromTheStart (in_force C r cs) (remaining_recording C masks r cs) v
  pub none : length (remaining C masks r cs) ≡ 0 → v ≡ Ok None

pub runs_as_from_the_start : (C : ℕ) (masks : List ℕ) (r : Rule) (h g : Space) → open_number C masks r h ≡ 0 → (cs : List Call) → Unopened cs →
    CalledAll (Open C masks r ∷ cs) h g → (v : SessionVerdicts) → Queried g v → RunsOn C masks r cs v
runs_as_from_the_start C masks r h g e cs unopened calls v q =
    let run : Running C masks r cs g = rw (called_all (Open C masks r ∷ cs) h g calls) (the_rack_as_it_runs C masks r h e cs unopened) in
    record {
      some = λ p.
          let R = remaining_recording C masks r cs in
          let n : Rule = in_force C r cs in
          let A = run.accepts p in
          let said : says_none v ≡ false = q.none ∙ ne_eqb (held_in g) 0 (λ z. omega (arith, run.held)) in
          record {
            accepted = A;
            session = judged_case v (own_verdicts n (mask_of R n.controller) (local_trace R n.controller)) said (q.answered ∙ (run.verdicts p ∙ local_judging n R A));
            locally = λ j l. judged_locally_lem n R j A l;
            plain = λ j w. judged_locally_lem n R j A (judged_whole_lem false n R j A w);
            short = λ j w. judged_locally_lem n R j A (judged_whole_lem true n R j A w);
          };
      none = λ z. none_is v (q.none ∙ eq-eqb (held_in g) 0 (run.held ∙ z));
    }

-- ---- a strong yes or a weak no that a session answers stays, for every further list of arrivals and withdrawals that never leaves fewer states than
-- it had then
pub session_verdict_stays : (h g : Space) (m : Made h) → 0 < length m.held.states → (cs : List Call) → Steps cs → NeverBelow (length m.held.states) cs m.held →
    (v w : SessionVerdicts) → Queried h v → CalledAll cs h g → Queried g w → (weak : Bool) → chosen weak (session_judged v) ≡ bit (not weak) →
    session_judged w ≡ answer accepted (bit (not weak) ∷ bit (not weak) ∷ [])
session_verdict_stays h g m p cs steps never v w q calls later weak e =
    later.answered
    ∙ (ap verdicts_answer (called_all cs h g calls)
    ∙ announced_in_a_session_stays h m p cs steps never weak (ap (chosen weak) (sym q.answered) ∙ e))

-- ---- "From there its answers are those of a session that had the new rule from the first state": after an accepted `replace_rule` and any calls the
-- contents are, entry by entry, those of a session that was opened with the new rule in the same space, took the same states and then these calls
pub replaced_as_opened : (r : Rule) (h : Space) (m : Made h) → replace_number r h ≡ 0 → (cs : List Call) (g before f : Space) → CalledAll (Replace r ∷ cs) h g →
    CalledAll (Open (length m.held.masks) m.held.masks r ∷ map Arrive m.held.states) h before → CalledAll cs before f → g ≡ f
replaced_as_opened r h m e cs g before f calls opened later =
    called_all (Replace r ∷ cs) h g calls
    ∙ (replaced_from_there r h m e cs ∙ sym (called_all cs before f later ∙ ap (leaves_all cs) (called_all _ h before opened)))
