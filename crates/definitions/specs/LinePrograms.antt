-- The programs of document 02 that read one line and print a rule's text: how their input is refused, and what they print of a refusal.
use Rattle.std.specs.Prelude.{ℕ, ◌&&◌, List, [], ◌∷◌, ◌++◌, length, eqb, ltb}
use Rattle.definitions.specs.Limits.{accepted, max_input_bytes, rule_form, input_long}
use Rattle.definitions.specs.Bounded.{pick}
use Rattle.definitions.specs.Lines.{tab, newline, is_empty, is_closed, rest_of, digits}
use Rattle.definitions.specs.Program.{refused_word}

-- "14 for over 16,384 bytes", "1 for other input that isn't one .. line": a line, its end, and nothing after it
unfoldable pub input_refusal : (input : List ℕ) → ℕ
input_refusal input =
    pick (ltb max_input_bytes (length input)) input_long
    (pick (is_closed input && is_empty (rest_of input)) accepted rule_form)

-- "one line, word and number parted by a tab, no line field"
unfoldable pub refusal_text : (number : ℕ) → List ℕ
refusal_text number = refused_word ++ (tab ∷ (digits number ++ (newline ∷ [])))

-- a refusal, or the text where there is none
unfoldable pub refusal_or : (number : ℕ) (text : List ℕ) → List ℕ
refusal_or number text = pick (eqb number accepted) text (refusal_text number)
