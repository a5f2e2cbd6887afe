-- What is told of the next line of a text: what it was read as or the number of its refusal, and nothing of the text after it.
use Rattle.std.specs.Prelude.{ℕ, Result, Ok, Err}
use Rattle.definitions.specs.Lines.{NextLine, refused, read}
use Rattle.rules.specs.Refusals.{number_of}
use Rattle.rules.specs.declared.refusal.Refusal.{Refusal}

-- an answer of the code, its refusal by its number
abbrev pub told : {T : Type 0} → Result T Refusal → Result T ℕ
told (Ok value) = Ok value
told (Err refusal) = Err (number_of refusal)

-- the next line of the definitions: what f makes of what was read, or the refusal
unfoldable pub next_told : {A T : Type 0} → (A → T) → NextLine A → Result T ℕ
next_told f (refused number) = Err number
next_told f (read a rest) = Ok (f a)
