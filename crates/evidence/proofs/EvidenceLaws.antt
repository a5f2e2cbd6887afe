-- The readings behind a verdict as an operation: a law for each return.
use Rattle.std.specs.Prelude.{Ok, Err}
use mathlib.Core.Path.{◌≡◌, refl, sym, ap, ◌∙◌}
use mathlib.Core.Bool.{Bool}
use mathlib.Core.List.{List, map}
use Prim.Native.Nat.{ℕ, ◌≤◌, ◌<◌}
use native.Mathlib.Omega.{arith}
use lib.ListN.{length}
use borrow.Author.Rules.{rules}
use borrow.Author.Tests.{lt-ltb, le-ltb}
use Rattle.definitions.specs.Limits.{accepted, lent_short, max_pairs}
use Rattle.definitions.specs.Bounded.{pick}
use Rattle.definitions.specs.Tables.{Rule, rule_of, rule_refusal}
use Rattle.definitions.specs.Recordings.{Recording, recording_of, recording_refusal, controller_refusal}
use Rattle.definitions.specs.Evidence.{Found, pair_word}
use Rattle.definitions.specs.Operations.{left, judge_local_number, evidence_of, evidence_number, evidence_answer, evidence_pairs}
use Rattle.theorems.proofs.RefusalBounds.{or_else_low, rule_low, recording_low, controller_low}
use Rattle.theorems.proofs.ScheduleIndependence.{Accepted}
use Rattle.lent.specs.Space.{cleared}
use Rattle.lent.proofs.LeftLaws.{left_untouched, left_zeroed}
use Rattle.judges.specs.Local.{TraceReady, TraceIs}
use Rattle.judges.specs.declared.local.LocalTrace.{LocalTrace}
use Rattle.judges.proofs.LocalLaws.{local_accepted}
use Rattle.rules.specs.Refusals.{number_of}
use Rattle.rules.specs.declared.refusal.Refusal.{Refusal}
use Rattle.rules.specs.declared.refusal.Refusal.TheVariants.{LentShort}
use Rattle.rules.proofs.RefusalLaws.{number_some}
use Rattle.recordings.proofs.NumberLaws.{refusal_alone}
use Rattle.evidence.specs.Accepted.{deciding_pairs, EvidenceReady, ExplainedIs}
use Rattle.evidence.specs.declared.accepted.Explained.{Explained}
use Rattle.evidence.proofs.AcceptedLaws.{trace_pairs}
use Rattle.evidence.specs.Answers.{EvidenceIs}

-- the check on the local trace never refuses with 13
local_low : (r : Rule) (R : Recording) → judge_local_number r R < lent_short
unfolding judge_local_number
local_low r R =
    or_else_low (rule_refusal r) _ lent_short (rule_low r)
    (or_else_low (recording_refusal R) (controller_refusal R.controllers r.controller) lent_short (recording_low R) (controller_low R.controllers r.controller))

module _ (c count : ℕ) (nodes : List ℕ) (C n : ℕ) (masks states : List ℕ) (weak : Bool) (entry : List ℕ) where
  abbrev r : Rule
  r = rule_of c count nodes

  abbrev R : Recording
  R = recording_of C n masks states

  abbrev content : List ℕ
  content = map pair_word (evidence_of r R weak)

  -- `evidence`, 13: the lent pairs are what they were
  pub evidence_short : length entry < max_pairs → EvidenceIs r R weak entry (Err LentShort) entry
  unfolding evidence_number evidence_answer evidence_pairs pick
  evidence_short h =
      let e : lent_short ≡ evidence_number r R entry = rw (lt-ltb (length entry) max_pairs h) in
      record { answered = refusal_alone LentShort _ _ e; pairs = left_untouched (evidence_number r R entry) max_pairs content entry (sym e) }

  module _ (room : max_pairs ≤ length entry) where
    number_is : evidence_number r R entry ≡ judge_local_number r R
    unfolding evidence_number pick
    number_is = rw (le-ltb (length entry) max_pairs room)

    -- `evidence`, refused: the lent pairs are zero over their full size
    pub evidence_refused : (k : Refusal) → number_of k ≡ judge_local_number r R → (exit : List ℕ) → exit ≡ cleared entry 0 max_pairs → EvidenceIs r R weak entry (Err k) exit
    unfolding evidence_answer evidence_pairs
    evidence_refused k e exit x =
        let is : number_of k ≡ evidence_number r R entry = e ∙ sym number_is in
        record {
          answered = refusal_alone k _ _ is;
          pairs = rw (← is) (left_zeroed (number_of k) max_pairs content entry entry exit refl (λ q. omega (arith, q, e, local_low r R)) (number_some k) x);
        }

    module _ (none : accepted ≡ judge_local_number r R) where
      both : Accepted r R
      both = local_accepted c count nodes C n masks states none

      pub evidence_traced : TraceReady R c
      evidence_traced = record { recording = both.recording; controller = both.controller }

      module _ (l : LocalTrace) (is : TraceIs R c l) where
        pub evidence_ready : EvidenceReady r l entry
        evidence_ready = record { ready = record { rule = both.rule; few = is.few; there = is.there }; full = room }

        same : deciding_pairs r l weak ≡ evidence_of r R weak
        same = trace_pairs r R l weak is

        -- `evidence`, accepted: `evidence_answer` is the count, `evidence_pairs` the pairs and then zeros
        pub evidence_laid : (x : Explained) (exit : List ℕ) → ExplainedIs r l weak entry x exit → EvidenceIs r R weak entry (Ok x.count) exit
        unfolding evidence_answer evidence_pairs
        evidence_laid x exit q =
            let z : evidence_number r R entry ≡ accepted = number_is ∙ sym none in
            let many : x.count ≡ length (evidence_of r R weak) = q.counted ∙ ap length same in
            let laid : exit ≡ left accepted max_pairs content entry = q.laid ∙ ap (λ (fs : List Found). left accepted max_pairs (map pair_word fs) entry) same in
            record { answered = rw (z, many); pairs = laid ∙ rw z }

pub ruleset evidence_laws = (rules, evidence_short, evidence_refused, evidence_traced, evidence_ready, evidence_laid)
