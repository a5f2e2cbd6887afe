-- The contracts of `to_archive` and `from_archive` undo each other: the bytes that one direction left, handed to the other, come back with byte 10 at each line.
use mathlib.Core.Path.{◌≡◌, ap, sym, subst, ◌∙◌}
use mathlib.Core.List.{List, [], ◌∷◌, ◌++◌}
use Prim.Native.Nat.{ℕ, ◌-◌, ◌≤◌}
use native.Mathlib.Omega.{arith}
use lib.ListN.{length, take, drop, replicate}
use Rattle.definitions.specs.Limits.{max_archive_bytes}
use Rattle.definitions.specs.Bounded.{pick}
use Rattle.definitions.specs.Lines.{carriage_return, with_newlines}
use Rattle.definitions.specs.Archive.{archived, restored}
use Rattle.definitions.specs.Operations.{Answer, answer, to_archive_number, to_archive_answer, to_archive_text, from_archive_number, from_archive_answer, from_archive_text}
use Rattle.theorems.proofs.SplitLaws.{Without}
use Rattle.theorems.proofs.EndingLaws.{plain_same}
use Rattle.theorems.proofs.ArchiveRoundTrips as theorem
use Rattle.archives.specs.Converting.{text_answer, ToArchive, FromArchive}
use Rattle.std.specs.Prelude.{Ok, Err}
use Rattle.rules.proofs.RefusalLaws.{number_some}
use Rattle.ragyvosin.specs.Results.{TextWritten}

-- an accepted answer: its number is 0, and its value the length of the text
record Answered (number n : ℕ) (text : List ℕ) : Type 0 where
  fine : number ≡ 0
  long : n ≡ length text

accepted_is : (number n : ℕ) (text : List ℕ) → text_answer (Ok n) ≡ answer number (length text ∷ []) → Answered number n text
unfolding answer pick
accepted_is number n text e =
    let z : 0 ≡ number = ap (λ (x : Answer). x.number) e in
    let v : n ∷ [] ≡ length text ∷ [] = ap (λ (x : Answer). x.values) e ∙ rw (← z) in
    let q : n ≡ length text = cc in
    record { fine = sym z; long = q }

empty_cons : {P : Type 0} (x : ℕ) (l : List ℕ) → [] ≡ x ∷ l → P
empty_cons x l e = let z : ◌≡◌ {A = ℕ} 0 1 = cc in absurd (omega arith)

is_length : (w : TextWritten) (n : ℕ) → text_answer w ≡ answer 0 (n ∷ []) → w ≡ Ok n
unfolding answer pick
is_length (Ok m) n e =
    let v : m ∷ [] ≡ n ∷ [] = ap (λ (x : Answer). x.values) e in
    let q : m ≡ n = cc in
    ap Ok q
is_length (Err refusal) n e = absurd (number_some refusal (ap (λ (x : Answer). x.number) e))

-- a text is handed back: its length is answered, lent space holds it, then zeros, then what was lent past its full size
pub record TextBack (text buffer : List ℕ) (w : TextWritten) (buffer' : List ℕ) : Type 0 where
  pub length_is : w ≡ Ok (length text)
  pub holds : buffer' ≡ text ++ (replicate (max_archive_bytes - length text) 0 ++ drop max_archive_bytes buffer)

-- "the inverse gives the recording text back": the archive text that was left, restored
pub recording_back : (text archive archive' buffer buffer' : List ℕ) (n : ℕ) (w : TextWritten) → ToArchive text archive (Ok n) archive'
    → max_archive_bytes ≤ length buffer → FromArchive (take n archive') buffer w buffer' → TextBack (with_newlines text) buffer w buffer'
unfolding to_archive_answer
recording_back text archive archive' buffer buffer' n w a h b =
    let s = accepted_is (to_archive_number text archive) n (archived text) a.answered in
    let t : take n archive' ≡ take (length (archived text)) (to_archive_text text archive) = rw (s.long, a.archive_left) in
    let l = theorem.to_and_from text archive buffer s.fine h in
    record {
      length_is = is_length w (length (with_newlines text)) (b.answered ∙ (ap (λ (x : List ℕ). from_archive_answer x buffer) t ∙ l.answers));
      holds = b.text_left ∙ (ap (λ (x : List ℕ). from_archive_text x buffer) t ∙ l.holds);
    }

-- "byte for byte", where the recording text has no byte 13
pub plain_recording_back : (text archive archive' buffer buffer' : List ℕ) (n : ℕ) (w : TextWritten) → Without carriage_return text → ToArchive text archive (Ok n) archive'
    → max_archive_bytes ≤ length buffer → FromArchive (take n archive') buffer w buffer' → TextBack text buffer w buffer'
plain_recording_back text archive archive' buffer buffer' n w p a h b =
    subst (λ (t : List ℕ). TextBack t buffer w buffer') (plain_same text p) (recording_back text archive archive' buffer buffer' n w a h b)

-- and the other composition: the recording text that was left, archived
pub archive_back : (text archive archive' buffer buffer' : List ℕ) (n : ℕ) (w : TextWritten) → FromArchive text archive (Ok n) archive'
    → max_archive_bytes ≤ length buffer → ToArchive (take n archive') buffer w buffer' → TextBack (with_newlines text) buffer w buffer'
unfolding from_archive_answer
archive_back text archive archive' buffer buffer' n w a h b =
    let s = accepted_is (from_archive_number text archive) n (restored text) a.answered in
    let t : take n archive' ≡ take (length (restored text)) (from_archive_text text archive) = rw (s.long, a.text_left) in
    let l = theorem.from_and_to text archive buffer s.fine h in
    record {
      length_is = is_length w (length (with_newlines text)) (b.answered ∙ (ap (λ (x : List ℕ). to_archive_answer x buffer) t ∙ l.answers));
      holds = b.archive_left ∙ (ap (λ (x : List ℕ). to_archive_text x buffer) t ∙ l.holds);
    }

pub plain_archive_back : (text archive archive' buffer buffer' : List ℕ) (n : ℕ) (w : TextWritten) → Without carriage_return text → FromArchive text archive (Ok n) archive'
    → max_archive_bytes ≤ length buffer → ToArchive (take n archive') buffer w buffer' → TextBack text buffer w buffer'
plain_archive_back text archive archive' buffer buffer' n w p a h b =
    subst (λ (t : List ℕ). TextBack t buffer w buffer') (plain_same text p) (archive_back text archive archive' buffer buffer' n w a h b)
