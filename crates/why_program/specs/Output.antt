-- What the program prints.
use Rattle.std.specs.Prelude.{ℕ, ◌≤◌, List, length}
use Rattle.definitions.specs.Limits.{max_input_bytes}
use Rattle.report.specs.ReadTables.{TextsRoom}
use Rattle.evidence_text.specs.Behind.{max_behind_bytes}

-- the longest output: that of an accepted rule and recording; a refusal has fewer bytes
abbrev pub max_why_bytes : ℕ
max_why_bytes = max_behind_bytes

-- two texts of one input, and space for what is printed of them
pub record WhyRoom (rule recording text : List ℕ) : Type 0 where
  pub texts : TextsRoom rule recording text
  pub room : max_why_bytes ≤ length text

-- the input of the program `judge`, and space for what is printed of it
pub record InputRoom (input text : List ℕ) : Type 0 where
  pub fits : length input ≤ max_input_bytes
  pub room : max_why_bytes ≤ length text
