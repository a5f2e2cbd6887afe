-- One law for each need of printing the verdict and what is behind it.
use mathlib.Core.Path.{◌≡◌, sym, ap, ◌∙◌}
use mathlib.Core.Bool.{Bool}
use mathlib.Core.List.{List, map}
use Prim.Native.Nat.{ℕ, ◌+◌, ◌≤◌}
use native.Mathlib.Omega.{arith}
use lib.ListN.{length, take, length-map, length-take}
use lib.Seq.{take_at}
use borrow.Author.Rules.{rules}
use Rattle.definitions.specs.Limits.{max_pairs}
use Rattle.definitions.specs.Tables.{Rule}
use Rattle.definitions.specs.Recordings.{Recording}
use Rattle.definitions.specs.Evidence.{Found, pair_word}
use Rattle.definitions.specs.Operations.{evidence_of}
use Rattle.definitions.specs.Why.{verdict_text, behind_text}
use Rattle.theorems.proofs.LentSpace.{left_accepted}
use Rattle.printing.specs.Printing.{Printed}
use Rattle.printing.proofs.PrintLaws.{printed_seq}
use Rattle.judges.specs.Verdicts.{meant, own_verdicts}
use Rattle.judges.specs.declared.verdicts.Verdicts.{Verdicts}
use Rattle.judges.specs.Local.{TraceReady, TraceIs}
use Rattle.judges.specs.declared.local.LocalTrace.{LocalTrace}
use Rattle.judges.proofs.LocalLaws.{trace_verdicts}
use Rattle.evidence.specs.Accepted.{deciding_pairs, EvidenceReady, ExplainedIs}
use Rattle.evidence.specs.declared.accepted.Explained.{Explained}
use Rattle.evidence.proofs.AcceptedLaws.{trace_pairs}
use Rattle.evidence_text.specs.Pairs.{pairs_in, PairsReady}
use Rattle.evidence_text.specs.Verdict.{chosen}
use Rattle.evidence_text.specs.Behind.{max_verdict_bytes, lines_of, behind_of, BehindReady}
use Rattle.evidence_text.proofs.VerdictLaws.{verdict_length, chosen_own}
use Rattle.evidence_text.proofs.FoundLaws.{evidence_lines, evidence_short, evidence_ready}

-- ---- `put_verdict`
-- the line of a verdict has room
pub verdict_room : (text : List ℕ) (weak : Bool) (v : Verdicts) (line : List ℕ) → line ≡ verdict_text weak (chosen weak v) → max_verdict_bytes ≤ length text → 0 + length line ≤ length text
verdict_room text weak v line e room = rw e (omega (arith, verdict_length weak (chosen weak v)))

pub ruleset put_verdict_laws = (rules, verdict_room)

-- ---- `put_behind`
module _ (weak : Bool) (r : Rule) (R : Recording) (text : List ℕ) (ready : BehindReady r R text) where
  pub behind_traced : TraceReady R r.controller
  behind_traced = record { recording = ready.accepted.recording; controller = ready.accepted.controller }

  pub behind_room : max_verdict_bytes ≤ length text
  behind_room = omega (arith, ready.room)

  module _ (l : LocalTrace) (of : TraceIs R r.controller l) where
    pub behind_ready : (pairs : List ℕ) → max_pairs ≤ length pairs → EvidenceReady r l pairs
    behind_ready pairs full = record { ready = record { rule = ready.accepted.rule; few = of.few; there = of.there }; full = full }

    module _ (pairs : List ℕ) (x : Explained) (pairs' : List ℕ) (found : ExplainedIs r l weak pairs x pairs') where
      abbrev fs : List Found
      fs = evidence_of r R weak

      same : deciding_pairs r l weak ≡ fs
      same = trace_pairs r R l weak of

      counted : x.count ≡ length fs
      counted = found.counted ∙ ap length same

      numbers_counted : length (map pair_word fs) ≡ x.count
      numbers_counted = length-map fs pair_word ∙ sym counted

      numbers_are : take x.count pairs' ≡ map pair_word fs
      numbers_are = rw (found.laid, same, left_accepted max_pairs (map pair_word fs) pairs) (take_at (map pair_word fs) _ x.count numbers_counted)

      pub pairs_counted : x.count ≡ length (take x.count pairs')
      pairs_counted = sym (ap length numbers_are ∙ numbers_counted)

      pub pairs_within : x.count ≤ length pairs'
      pairs_within = omega (arith, pairs_counted, length-take x.count pairs')

      lines_are : pairs_in r l R (take x.count pairs') ≡ lines_of weak r R
      lines_are = ap (pairs_in r l R) numbers_are ∙ sym (evidence_lines r R ready.accepted l of weak)

      module _ (text₁ : List ℕ) (p : ℕ) (one : Printed (verdict_text weak (chosen weak x.verdicts)) text 0 p text₁) where
        pub pairs_ready : length text₁ ≡ length text → PairsReady r l R (take x.count pairs') p text₁
        pairs_ready kept = record {
          each = λ i h. rw (← numbers_are) at (evidence_ready r R ready.accepted l of weak i (omega (arith, pairs_counted, counted)));
          room = omega (arith, one.next, verdict_length weak (chosen weak x.verdicts), ap length lines_are, evidence_short r R ready.accepted l of weak, ready.room);
        }

        -- `put_behind`: the verdict and the lines of the pairs are `behind_of`
        pub behind_printed : (text₂ : List ℕ) (e : ℕ) → Printed (pairs_in r l R (take x.count pairs')) text₁ p e text₂ → Printed (behind_of weak r R) text 0 e text₂
        unfolding behind_text
        behind_printed text₂ e two =
            let own : meant x.verdicts ≡ own_verdicts r R = found.verdicts ∙ trace_verdicts r R l of in
            let verdict_fits : 0 + length (verdict_text weak (chosen weak x.verdicts)) ≤ length text = omega (arith, verdict_length weak (chosen weak x.verdicts), ready.room) in
            rw (← chosen_own weak r R x.verdicts own)
            (printed_seq (verdict_text weak (chosen weak x.verdicts)) (lines_of weak r R) text text₁ text₂ 0 p e verdict_fits one (rw lines_are at two))

pub ruleset behind_laws = (rules, behind_traced, behind_room, behind_ready, pairs_counted, pairs_within, pairs_ready, behind_printed)
