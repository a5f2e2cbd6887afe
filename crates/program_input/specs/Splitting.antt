-- The two texts that an input is split into.
use Rattle.std.specs.Prelude.{◌≡◌, ℕ, ◌≤◌, List, length}
use Rattle.definitions.specs.Limits.{max_input_bytes}
use Rattle.definitions.specs.Program.{rule_text_in, recording_text_in}
use Rattle.program_input.specs.declared.Parts.{Parts}

-- the parts of the input are its two texts
pub record SplitIs (input : List ℕ) (p : Parts) : Type 0 where
  pub rule : p.rule.now ≡ rule_text_in input
  pub recording : p.recording.now ≡ recording_text_in input
  pub rule_inside : length p.rule.now ≤ length input
  pub recording_inside : length p.recording.now ≤ length input

-- two texts of one input that is not too long
pub record Texts (rule recording : List ℕ) : Type 0 where
  pub rule_fits : length rule ≤ max_input_bytes
  pub recording_fits : length recording ≤ max_input_bytes
