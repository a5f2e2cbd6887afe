-- What the reader of a line's signs answers.
use Rattle.std.specs.Prelude.{◌≡◌, ℕ, ◌≤◌, List, length, take}
use Rattle.definitions.specs.Lines.{formed}
use Rattle.definitions.specs.OneLineSigns as grammar
use Rattle.definitions.specs.OneLineReading.{signs_of}
use Rattle.one_line_signs.specs.Signs.{signs_in, capped_signs}
use Rattle.one_line_signs.specs.declared.sign.Sign.{Sign}

-- the line's signs lie in the first n places
pub record Spelt (line : List ℕ) (n : ℕ) (signs : List Sign) : Type 0 where
  pub said : List grammar.Sign
  pub read : signs_of line ≡ formed said
  pub told : signs_in (take n signs) ≡ capped_signs said
  pub within : n ≤ length signs
