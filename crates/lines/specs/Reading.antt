-- Where the next line of a text ends, how it is refused for that, and what a reading of lines leaves.
use Rattle.std.specs.Prelude.{◌≡◌, ℕ, ◌<◌, ◌≤◌, List, ◌++◌, length, drop, Result, Ok, Err}
use Rattle.definitions.specs.Limits.{accepted}
use Rattle.definitions.specs.Bounded.{pick}
use Rattle.definitions.specs.Lines.{newline, before, is_empty, line_length, is_closed, rest_of, Scan}
use Rattle.lines.specs.declared.Line.{Line}
use Rattle.lines.specs.declared.Stop.{Stop}
use Rattle.lines.specs.declared.CutShort.{CutShort}
use Rattle.rules.specs.Refusals.{number_of}

-- the first line is closed by the byte 10 at `end`
pub record Ending (t : List ℕ) (end : ℕ) : Type 0 where
  pub stands : end ≡ before newline t
  pub inside : end < length t

-- the first line of a text, and where the text after it and its ending begins
pub record FirstLine (t : List ℕ) (l : Line) : Type 0 where
  pub length_is : l.len ≡ line_length t
  pub within : l.len ≤ length t
  pub inside : l.next ≤ length t
  pub rest : drop l.next t ≡ rest_of t

-- the next line is missing, it is not closed, or it ends as it should
unfoldable pub end_refusal : (missing unclosed : ℕ) → List ℕ → ℕ
end_refusal missing unclosed t = pick (is_empty t) missing (pick (is_closed t) accepted unclosed)

-- the number of the refusal that a reading stopped for: `accepted` where it was read to its end
abbrev pub stopped_number : {A : Type 0} → Result A Stop → ℕ
stopped_number (Ok a) = accepted
stopped_number (Err stop) = number_of stop.refusal

-- where the text goes on after what was read, or where the reading stopped
abbrev pub stopped_at : Result ℕ Stop → ℕ
stopped_at (Ok at) = at
stopped_at (Err stop) = stop.at

-- what was read: all of it, or what stood before the line that the reading stopped at
abbrev pub read_of : {A : Type 0} → Result A (CutShort A) → A
read_of (Ok a) = a
read_of (Err cut) = cut.read

-- lines of a text were read as s says: its words are laid over the start of lent space
pub record LinesScanned (s : Scan) (text entry : List ℕ) (r : Result ℕ Stop) (exit : List ℕ) : Type 0 where
  pub number : stopped_number r ≡ s.number
  pub inside : stopped_at r ≤ length text
  pub rest : drop (stopped_at r) text ≡ s.rest
  pub words : exit ≡ s.words ++ drop (length s.words) entry
