-- What each direction answers, and what it leaves in lent space.
use Rattle.std.specs.Prelude.{◌≡◌, ℕ, Bool, List, [], ◌∷◌, length, Result}
use Rattle.definitions.specs.Limits.{lent_short, max_archive_bytes}
use Rattle.definitions.specs.Bounded.{pick}
use Rattle.definitions.specs.Operations.{Answer, answer, too_short, left, to_archive_answer, to_archive_text, from_archive_answer, from_archive_text}
use Rattle.rules.specs.Answers.{answer_of}
use Rattle.rules.specs.declared.refusal.Refusal.{Refusal}
use Rattle.archives.specs.Reading.{scan_text}
use Rattle.archives.specs.Writing.{text_from}

-- "the length", or the refusal's number alone
abbrev pub text_answer : Result ℕ Refusal → Answer
text_answer = answer_of (λ n. n ∷ [])

-- 13, then the refusal of the text that is read
unfoldable pub convert_number : (back : Bool) (text space : List ℕ) → ℕ
convert_number back text space = pick (too_short max_archive_bytes space) lent_short (scan_text back text).number

-- the whole answer, and all of the lent space
pub record Converted (back : Bool) (text space : List ℕ) (r : Result ℕ Refusal) (space' : List ℕ) : Type 0 where
  pub answered : text_answer r ≡ answer (convert_number back text space) (length (text_from back (scan_text back text)) ∷ [])
  pub holds : space' ≡ left (convert_number back text space) max_archive_bytes (text_from back (scan_text back text)) space

-- the whole answer, and all of the lent archive text
pub record ToArchive (text archive : List ℕ) (r : Result ℕ Refusal) (archive' : List ℕ) : Type 0 where
  pub answered : text_answer r ≡ to_archive_answer text archive
  pub archive_left : archive' ≡ to_archive_text text archive

-- the whole answer, and all of the lent recording text
pub record FromArchive (archive text : List ℕ) (r : Result ℕ Refusal) (text' : List ℕ) : Type 0 where
  pub answered : text_answer r ≡ from_archive_answer archive text
  pub text_left : text' ≡ from_archive_text archive text
