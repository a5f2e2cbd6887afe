-- A state in its turn.
use Rattle.std.specs.Prelude.{ℕ, Bool, not, ltb}
use Rattle.definitions.specs.Limits.{recording_limits, output_rule, accepted}
use Rattle.definitions.specs.Bounded.{pick, or_else}

-- the number of a state: its word is below the limit, and it keeps the output rule
unfoldable pub step_refusal : ℕ → ℕ → Bool → ℕ
step_refusal limit s broken = or_else (pick (ltb s limit) accepted recording_limits) (pick (not broken) accepted output_rule)
