-- The line of a session.
use Rattle.std.specs.Prelude.{ℕ, ◌+◌}
use Rattle.definitions.specs.Limits.{max_input_bytes}

-- the longest output: the word `refused`, a number of three digits, two tabs, byte 10 and a line that is all of the longest opening
abbrev pub max_printed : ℕ
max_printed = max_input_bytes + 13
