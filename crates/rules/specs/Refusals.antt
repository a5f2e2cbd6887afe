-- The numbers of refusals, and what a check comes to as a number.
use Rattle.std.specs.Prelude.{ℕ, Result, Ok, Err}
use Rattle.definitions.specs.Limits.{accepted, rule_form, rule_limits, rule_operand, rule_lines, recording_form, recording_limits, masks_meet, recording_lines}
use Rattle.definitions.specs.Limits.{output_rule, no_controller, lent_short, input_long, line_form, brackets_deep, session_full, session_empty, second_gauge, gauge_bit_set}
use Rattle.rules.specs.declared.refusal.Refusal.{Refusal}
use Rattle.rules.specs.declared.refusal.Refusal.TheVariants.{RuleForm, RuleLimits, RuleOperand, RuleLines, RecordingForm, RecordingLimits, MasksMeet, RecordingLines}
use Rattle.rules.specs.declared.refusal.Refusal.TheVariants.{OutputRule, NoController, LentShort, InputLong, LineForm, BracketsDeep, SessionFull, SessionEmpty, SecondGauge, GaugeBitSet}

-- the number of a refusal
abbrev pub number_of : Refusal → ℕ
number_of RuleForm = rule_form
number_of RuleLimits = rule_limits
number_of RuleOperand = rule_operand
number_of RuleLines = rule_lines
number_of RecordingForm = recording_form
number_of RecordingLimits = recording_limits
number_of MasksMeet = masks_meet
number_of RecordingLines = recording_lines
number_of OutputRule = output_rule
number_of NoController = no_controller
number_of LentShort = lent_short
number_of InputLong = input_long
number_of LineForm = line_form
number_of BracketsDeep = brackets_deep
number_of SessionFull = session_full
number_of SessionEmpty = session_empty
number_of SecondGauge = second_gauge
number_of GaugeBitSet = gauge_bit_set

-- what a check comes to as a number: `accepted` where nothing is refused
abbrev pub refusal_in : {A : Type 0} → Result A Refusal → ℕ
refusal_in (Ok a) = accepted
refusal_in (Err refusal) = number_of refusal
