-- The first refusal, as `?` passes it on.
use Rattle.std.proofs.Common.{rules, ℕ, ◌≡◌}
use native.Mathlib.Omega.{arith}
use borrow.Author.Tests.{ne_eqb}
use Rattle.definitions.specs.Limits.{accepted}
use Rattle.definitions.specs.Bounded.{pick, or_else}
use Rattle.rules.specs.Refusals.{number_of}
use Rattle.rules.specs.declared.refusal.Refusal.{Refusal}
use Rattle.rules.specs.declared.refusal.Refusal.TheVariants.{RuleForm, RuleLimits, RuleOperand, RuleLines, RecordingForm, RecordingLimits, MasksMeet, RecordingLines}
use Rattle.rules.specs.declared.refusal.Refusal.TheVariants.{OutputRule, NoController, LentShort, InputLong, LineForm, BracketsDeep, SessionFull, SessionEmpty, SecondGauge, GaugeBitSet}

-- every refusal has a number of its own, and none has that of what is accepted
pub number_some : (e : Refusal) → number_of e ≡ accepted → ⊥
number_some RuleForm z = omega arith
number_some RuleLimits z = omega arith
number_some RuleOperand z = omega arith
number_some RuleLines z = omega arith
number_some RecordingForm z = omega arith
number_some RecordingLimits z = omega arith
number_some MasksMeet z = omega arith
number_some RecordingLines z = omega arith
number_some OutputRule z = omega arith
number_some NoController z = omega arith
number_some LentShort z = omega arith
number_some InputLong z = omega arith
number_some LineForm z = omega arith
number_some BracketsDeep z = omega arith
number_some SessionFull z = omega arith
number_some SessionEmpty z = omega arith
number_some SecondGauge z = omega arith
number_some GaugeBitSet z = omega arith

-- a check that refuses is the first refusal, whatever comes after it
pub first_refusal : (e : Refusal) (first other : ℕ) → number_of e ≡ first → number_of e ≡ or_else first other
unfolding or_else pick
first_refusal e first other h = rw (← h, ne_eqb (number_of e) 0 (number_some e))

-- after a check that accepts, the first refusal is that of what comes after it
pub next_refusal : (first other k : ℕ) → accepted ≡ first → k ≡ other → k ≡ or_else first other
unfolding or_else pick
next_refusal first other k z h = rw (← z) h

pub ruleset refusals = (rules, first_refusal, next_refusal)
