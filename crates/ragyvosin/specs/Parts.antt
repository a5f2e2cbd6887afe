-- The line that the joint reading hands back, "as a part of the text it came from".
use Rattle.std.specs.Prelude.{List, ℕ, ◌+◌, take, drop}
use Rattle.std.specs.Borrow.{Bor}
use Rattle.definitions.specs.Bounded.{pick}
use Rattle.definitions.specs.RecordingText.{Part}

-- the text that a part is of
abbrev pub text_of : Bor (List ℕ) → Bor (List ℕ) → Part → Bor (List ℕ)
text_of rule recording part = pick part.of_rule rule recording

-- where it lies: in that text, so many bytes on
abbrev pub place_in : Bor (List ℕ) → Bor (List ℕ) → Part → ℕ × ℕ
place_in rule recording part = ((text_of rule recording part).ref_ptr.0, part.from + (text_of rule recording part).ref_ptr.1)

-- the bytes of that text there
abbrev pub bytes_in : Bor (List ℕ) → Bor (List ℕ) → Part → List ℕ
bytes_in rule recording part = take part.count (drop part.from (text_of rule recording part).now)
