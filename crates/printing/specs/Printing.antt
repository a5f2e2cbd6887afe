-- Bytes written into a text.
use Rattle.std.specs.Prelude.{◌≡◌, ℕ, ◌+◌, ◌≤◌, List, [], ◌∷◌, ◌++◌, length, take, drop}
use Rattle.definitions.specs.Lines.{tab, newline, digits}

-- a text with a word laid over it from a place on
unfoldable pub laid_at : ℕ → List ℕ → List ℕ → List ℕ
laid_at at word text = take at text ++ (word ++ drop (at + length word) text)

-- a word was written at a place, nothing else changed, and r is the place after it
pub record Printed (word text : List ℕ) (at r : ℕ) (text' : List ℕ) : Type 0 where
  pub next : r ≡ at + length word
  pub lies : text' ≡ laid_at at word text

-- a word, a number, and how the line ends
unfoldable pub counted_line : List ℕ → ℕ → List ℕ → List ℕ
counted_line word number end = word ++ (tab ∷ (digits number ++ end))

-- an output begins with the bytes that are printed, and r is their count; no other byte of it is touched
pub record OutputIs (printed output : List ℕ) (r : ℕ) (output' : List ℕ) : Type 0 where
  pub count : r ≡ length printed
  pub lies : output' ≡ printed ++ drop (length printed) output
  pub within : r ≤ length output'

-- lines, each closed by byte 10
unfoldable pub lines_text : List (List ℕ) → List ℕ
lines_text [] = []
lines_text (l ∷ ls) = l ++ (newline ∷ lines_text ls)
