-- What the reader of one sign answers.
use Rattle.std.specs.Borrow.{Bor}
use Rattle.std.specs.Prelude.{◌≡◌, ℕ, ◌<◌, List, length, Option, MatchOption}
use Rattle.definitions.specs.Lines.{Parsed, formed, malformed}
use Rattle.definitions.specs.OneLineSigns as grammar
use Rattle.definitions.specs.OneLineReading.{Taken, taken}
use Rattle.one_line_signs.specs.Signs.{sign_in, capped}
use Rattle.one_line_signs.specs.declared.sign.Sign.{Sign}

-- a reader of the definitions takes a sign from a text, and the rest follows it
pub record Took (reader : List ℕ → Parsed Taken) (text : List ℕ) (x : Sign) (rest : List ℕ) : Type 0 where
  pub named : grammar.Sign
  pub read : reader text ≡ formed (taken named rest)
  pub told : sign_in x ≡ capped named
  pub shorter : length rest < length text

-- it takes a sign, or none
abbrev pub Takes : (reader : List ℕ → Parsed Taken) (text : List ℕ) → Option (Sign × Bor (List ℕ)) → Type 0
Takes reader text r = MatchOption r (reader text ≡ malformed) (λ t. Took reader text t.0 t.1.now)
