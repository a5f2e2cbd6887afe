-- What the code answers of a field of a signed number.
use Rattle.std.specs.Prelude.{ℤ, Result, Ok, Err}
use Rattle.definitions.specs.Bounded.{pick}
use Rattle.definitions.specs.Lines.{Parsed, formed, malformed}
use Rattle.definitions.specs.Measures.{in_limits}
use Rattle.rules.specs.declared.refusal.Refusal.{Refusal}
use Rattle.rules.specs.declared.refusal.Refusal.TheVariants.{RecordingForm, RecordingLimits}
use Rattle.measures.specs.declared.Flaw.{Flaw}
use Rattle.measures.specs.declared.Flaw.TheVariants.{Outside, Malformed}

-- a number against its limits
unfoldable pub limited_to : ℤ → Result ℤ Flaw
limited_to z = pick (in_limits z) (Ok z) (Err Outside)

-- a field against its limits
unfoldable pub limited : Parsed ℤ → Result ℤ Flaw
limited (formed z) = limited_to z
limited malformed = Err Malformed

-- how a recording is refused for a flaw of one of its numbers
abbrev pub refusal_for : Flaw → Refusal
refusal_for Outside = RecordingLimits
refusal_for Malformed = RecordingForm
