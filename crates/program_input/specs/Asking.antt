-- What the first line of the input asks for.
use Rattle.std.specs.Prelude.{Bool, true, false, List, ℕ, Result, Ok, Err}
use Rattle.std.specs.Borrow.{Bor}
use Rattle.definitions.specs.Bounded.{pick}
use Rattle.definitions.specs.Lines.{line_of, rest_of}
use Rattle.definitions.specs.Why.{asks}
use Rattle.program_input.specs.declared.asked.Asked.{Asked}

-- a reading, weak or strong, and the texts after that line; or the line, which asks for nothing
unfoldable pub asked_in : List ℕ → Result (Bool × List ℕ) (List ℕ)
asked_in input =
    pick (asks true input) (Ok (true, rest_of input))
    (pick (asks false input) (Ok (false, rest_of input)) (Err (line_of input)))

-- an answer of the code, by what its parts of the input read
abbrev pub told : Result Asked (Bor (List ℕ)) → Result (Bool × List ℕ) (List ℕ)
told (Ok asked) = Ok (asked.weak, asked.texts.now)
told (Err line) = Err line.now
