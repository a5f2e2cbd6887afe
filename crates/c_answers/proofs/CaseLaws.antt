-- One law for what is accepted, by the answer, one for every refusal, and two for what the joint reading found.
use Rattle.std.proofs.Common.{rules, ◌≡◌, refl, sym, ap, Bool, true, false, ℕ, ◌-◌, List, [], ◌∷◌, ◌++◌, Option, Some, None, Result, Ok, Err}
use lib.ListN.{replicate}
use native.Mathlib.Nat.{sub-zero}
use borrow.Author.Tests.{ne_eqb}
use mir.Val.{bool_byte}
use Rattle.definitions.specs.Limits.{accepted}
use Rattle.definitions.specs.Bounded.{pick, bit}
use Rattle.definitions.specs.Operations.{answer}
use Rattle.images.specs.declared.Tops.{Tops}
use Rattle.judges.specs.Verdicts.{answer_of as judged}
use Rattle.judges.specs.declared.verdicts.Verdicts.{Verdicts}
use Rattle.sessions.specs.Answers.{session_answer as session_judged}
use Rattle.recordings.specs.declared.heading.RecordingHeading.{RecordingHeading}
use Rattle.recording_reader.specs.Reading.{read_answer as recording_read}
use Rattle.rule_reader.specs.Reading.{read_answer as rule_read}
use Rattle.rules.specs.Answers.{answer_of}
use Rattle.rules.specs.Refusals.{number_of}
use Rattle.rules.specs.declared.refusal.Refusal.{Refusal}
use Rattle.rules.specs.declared.rule.RuleHeading.{RuleHeading}
use Rattle.rules.proofs.RefusalLaws.{number_some}
use Rattle.joint_reading.specs.declared.scan.Found.{Found}
use Rattle.joint_reading.specs.declared.scan.Joined.{Joined}
use Rattle.joint_reading.specs.declared.scan.Text.TheVariants.{Rule, Recording}
use Rattle.joint_reading.specs.Scanning.{part_of}
use Rattle.joint_reading.specs.Joining.{heading_of}
use Rattle.c_answers.specs.Values.{counted, rewritten, heading, session_values, part_values}

-- ---- what is accepted: a number, 0, and the values
-- `of_count`: a length, or how many there are
pub count_laid : (w : Result ℕ Refusal) (k n : ℕ) (v : List ℕ) → w ≡ Ok k → n ≡ accepted → v ≡ k ∷ [] → n ∷ v ≡ heading 1 (counted w)
unfolding heading answer pick
count_laid w k n v e a b = rw (e, a, b)

-- `of_rule_read`: controller and count
pub rule_laid : (w : Result RuleHeading Refusal) (h : RuleHeading) (n : ℕ) (v : List ℕ) → w ≡ Ok h → n ≡ accepted → v ≡ h.controller ∷ h.count ∷ [] → n ∷ v ≡ heading 2 (rule_read w)
unfolding heading answer pick
rule_laid w h n v e a b = rw (e, a, b)

-- `of_recording_read`: C and N
pub recording_laid : (w : Result RecordingHeading Refusal) (h : RecordingHeading) (n : ℕ) (v : List ℕ) → w ≡ Ok h → n ≡ accepted → v ≡ h.controllers ∷ h.count ∷ []
    → n ∷ v ≡ heading 2 (recording_read w)
unfolding heading answer pick
recording_laid w h n v e a b = rw (e, a, b)

-- a cast of a bool is its bit
cast_bit : (z : Bool) → bool_byte z ≡ bit z
cast_bit true = refl
cast_bit false = refl

-- `of_judgement`: weak and strong verdict
pub judgement_laid : (w : Result Verdicts Refusal) (u : Verdicts) (n : ℕ) (v : List ℕ) → w ≡ Ok u → n ≡ accepted → v ≡ bool_byte u.weak ∷ bool_byte u.strong ∷ [] → n ∷ v ≡ heading 2 (judged w)
unfolding heading answer pick
judgement_laid w u n v e a b = rw (e, a, b, cast_bit u.weak, cast_bit u.strong)

-- `of_rewriting`: the count and the two tops
pub rewriting_laid : (w : Result Tops Refusal) (t : Tops) (n : ℕ) (v : List ℕ) → w ≡ Ok t → n ≡ accepted → v ≡ t.count ∷ t.weak ∷ t.strong ∷ [] → n ∷ v ≡ heading 3 (rewritten w)
unfolding heading answer pick
rewriting_laid w t n v e a b = rw (e, a, b)

-- `of_session_verdicts`: 1 and the two verdicts
pub session_laid : (w : Result (Option Verdicts) Refusal) (u : Verdicts) (n : ℕ) (v : List ℕ) → w ≡ Ok (Some u) → n ≡ accepted → v ≡ 1 ∷ bool_byte u.weak ∷ bool_byte u.strong ∷ []
    → n ∷ v ≡ session_values (session_judged w)
unfolding session_values answer pick
session_laid w u n v e a b = rw (e, a, b, cast_bit u.weak, cast_bit u.strong)

-- `of_session_verdicts`, no state is held: zeros
pub session_none : (w : Result (Option Verdicts) Refusal) (n : ℕ) (v : List ℕ) → w ≡ Ok None → n ≡ accepted → v ≡ 0 ∷ 0 ∷ 0 ∷ [] → n ∷ v ≡ session_values (session_judged w)
unfolding session_values answer pick
session_none w n v e a b = rw (e, a, b)

-- ---- what is refused: "a refusal carries its number alone"
alone : (e : Refusal) → (answer (number_of e) []).values ≡ []
unfolding answer pick
alone e = rw (ne_eqb (number_of e) 0 (number_some e))

number_alone : (e : Refusal) → (answer (number_of e) []).number ≡ number_of e
unfolding answer
number_alone e = refl

-- every function but the next: the number and zeros are `heading` of the answer
pub refused : {A : Type 0} (f : A → List ℕ) (w : Result A Refusal) (e : Refusal) (width n : ℕ) (v : List ℕ) → w ≡ Err e → n ≡ number_of e → v ≡ replicate width 0
    → n ∷ v ≡ heading width (answer_of f w)
unfolding heading
refused f w e width n v is a b = rw (is, number_alone e, alone e, a, b, sub-zero)

-- `of_session_verdicts`: the number and zeros are `session_values` of the answer
pub session_refused : (w : Result (Option Verdicts) Refusal) (e : Refusal) (n : ℕ) (v : List ℕ) → w ≡ Err e → n ≡ number_of e → v ≡ replicate 3 0 → n ∷ v ≡ session_values (session_judged w)
unfolding session_values
session_refused w e n v is a b = rw (is, number_alone e, alone e, a, b)

-- ---- what the joint reading found
pub part_in_rule : (f : Found) (t : ℕ) → f.text ≡ Rule → t ≡ 0 → part_values (part_of f) ≡ t ∷ f.from ∷ f.len ∷ []
unfolding part_values pick
part_in_rule f t e z = rw (e, z)

pub part_in_recording : (f : Found) (t : ℕ) → f.text ≡ Recording → t ≡ 1 → part_values (part_of f) ≡ t ∷ f.from ∷ f.len ∷ []
unfolding part_values pick
part_in_recording f t e z = rw (e, z)

module _ (f : Found) (t : ℕ) (p : part_values (part_of f) ≡ t ∷ f.from ∷ f.len ∷ []) where
  -- `of_found`, both were read
  pub found_read : (j : Joined) → f.read ≡ Ok j
      → ◌≡◌ {A = List ℕ} (0 ∷ j.rule.controller ∷ j.rule.count ∷ j.recording.controllers ∷ j.recording.count ∷ t ∷ f.from ∷ f.len ∷ []) (heading_of f ++ part_values (part_of f))
  found_read j e = rw (p, e)

  -- `of_found`, a refusal
  pub found_refused : (e : Refusal) → f.read ≡ Err e → (n : ℕ) → n ≡ number_of e
      → ◌≡◌ {A = List ℕ} (n ∷ 0 ∷ 0 ∷ 0 ∷ 0 ∷ t ∷ f.from ∷ f.len ∷ []) (heading_of f ++ part_values (part_of f))
  found_refused e is n a = rw (p, is, a)

pub ruleset case_laws = (rules, count_laid, rule_laid, recording_laid, judgement_laid, rewriting_laid, session_laid, session_none, refused, session_refused)
