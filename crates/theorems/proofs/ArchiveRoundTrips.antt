-- Archiving and its inverse undo each other: as texts, and through the operations over lent space.
use mathlib.Core.Path.{◌≡◌, refl, ap, sym, ◌∙◌}
use Prim.Native.Nat.{ℕ, ◌-◌, ◌≤◌}
use native.Mathlib.Omega.{arith}
use mathlib.Core.List.{List, [], ◌∷◌, ◌++◌}
use lib.ListN.{length, take, drop, replicate}
use lib.Seq.{take_at}
use borrow.Author.Tests.{le-ltb}
use Rattle.definitions.specs.Limits.{lent_short, max_archive_bytes}
use Rattle.definitions.specs.Bounded.{pick}
use Rattle.definitions.specs.Lines.{carriage_return, with_newlines}
use Rattle.definitions.specs.RecordingText.{RecordingScan, scan_plain}
use Rattle.definitions.specs.Archive.{archive_text, scan_archive, archived, restored}
use Rattle.definitions.specs.Operations.{Answer, answer, too_short, to_archive_number, to_archive_answer, to_archive_text, from_archive_number, from_archive_answer, from_archive_text}
use Rattle.theorems.proofs.Choice.{pick_other, pick_false}
use Rattle.theorems.proofs.LentSpace.{left_accepted}
use Rattle.theorems.proofs.SplitLaws.{Without}
use Rattle.theorems.proofs.EndingLaws.{plain_same}
use Rattle.theorems.proofs.RecordingTexts.{Held, held_scan, recording_back, recording_forth}
use Rattle.theorems.proofs.ArchiveTexts.{archive_back, archive_forth}
use Rattle.theorems.proofs.ArchiveLengths.{recording_fits_lem, archive_fits}

-- ---- as texts
-- for an accepted recording text
module _ (t : List ℕ) (e : (scan_plain t).number ≡ 0) where
  -- its archive text reads as the same recording
  pub archived_reads : scan_archive (archived t) ≡ held_scan (scan_plain t).controllers (scan_plain t).count (scan_plain t).masks (scan_plain t).states
  unfolding archived
  archived_reads = archive_forth _ _ _ _ (recording_back t e).held

  -- the inverse gives it back with byte 10 at each line
  pub archived_restored : restored (archived t) ≡ with_newlines t
  unfolding restored
  archived_restored = rw archived_reads (recording_back t e).text

-- "For a text whose lines end in byte 10 alone the inverse gives the recording text back byte for byte"
pub recording_comes_back : (t : List ℕ) → (scan_plain t).number ≡ 0 → Without carriage_return t → restored (archived t) ≡ t
recording_comes_back t e w = archived_restored t e ∙ plain_same t w

-- for an accepted archive text
module _ (a : List ℕ) (e : (scan_archive a).number ≡ 0) where
  pub restored_reads : scan_plain (restored a) ≡ held_scan (scan_archive a).controllers (scan_archive a).count (scan_archive a).masks (scan_archive a).states
  unfolding restored
  restored_reads = recording_forth _ _ _ _ (archive_back a e).held

  pub restored_archived : archived (restored a) ≡ with_newlines a
  unfolding archived
  restored_archived = rw restored_reads (archive_back a e).text

-- and so the other composition
pub archive_comes_back : (a : List ℕ) → (scan_archive a).number ≡ 0 → Without carriage_return a → archived (restored a) ≡ a
archive_comes_back a e w = restored_archived a e ∙ plain_same a w

-- "two recordings with equal archive texts are equal"
pub equal_archives : (C N : ℕ) (masks states : List ℕ) (C' N' : ℕ) (masks' states' : List ℕ) → Held C N masks states → Held C' N' masks' states'
    → archive_text C N masks states ≡ archive_text C' N' masks' states' → held_scan C N masks states ≡ held_scan C' N' masks' states'
equal_archives C N masks states C' N' masks' states' h k e =
    sym (archive_forth C N masks states h) ∙ (ap scan_archive e ∙ archive_forth C' N' masks' states' k)

-- as texts: accepted recording texts with equal archive texts are equal, with byte 10 at each line
pub equal_archived : (t u : List ℕ) → (scan_plain t).number ≡ 0 → (scan_plain u).number ≡ 0 → archived t ≡ archived u → with_newlines t ≡ with_newlines u
equal_archived t u e f q = sym (archived_restored t e) ∙ (ap restored q ∙ archived_restored u f)

-- ---- through the operations
-- what an accepted operation leaves: the length of a text, the text, zeros, and what was lent past 8,192 bytes
pub record Leaves (answered : Answer) (lent lent' text : List ℕ) : Type 0 where
  pub answers : answered ≡ answer 0 (length text ∷ [])
  pub holds : lent' ≡ text ++ (replicate (max_archive_bytes - length text) 0 ++ drop max_archive_bytes lent)
  pub fits : length text ≤ max_archive_bytes

-- lent space is not short: the number is the reader's
enough : (number : ℕ) (lent : List ℕ) → max_archive_bytes ≤ length lent → pick (too_short max_archive_bytes lent) lent_short number ≡ number
enough number lent h = pick_false (too_short max_archive_bytes lent) lent_short number (le-ltb (length lent) max_archive_bytes h)

read_of : (number : ℕ) (lent : List ℕ) → pick (too_short max_archive_bytes lent) lent_short number ≡ 0 → number ≡ 0
read_of number lent e = (pick_other 0 (too_short max_archive_bytes lent) lent_short number e (λ q. omega arith)).1

-- the first bytes of lent space, as many as were answered, are the text
pub answered_bytes : (a : Answer) (lent lent' text : List ℕ) → Leaves a lent lent' text → take (length text) lent' ≡ text
answered_bytes a lent lent' text l = rw l.holds (take_at text _ (length text) refl)

pub to_archive_leaves : (t lent : List ℕ) → to_archive_number t lent ≡ 0 → Leaves (to_archive_answer t lent) lent (to_archive_text t lent) (archived t)
unfolding to_archive_number to_archive_answer to_archive_text archived
to_archive_leaves t lent e =
    let n = read_of (scan_plain t).number lent e in
    record {
      answers = rw e;
      holds = rw e (left_accepted max_archive_bytes (archived t) lent);
      fits = omega (arith, archive_fits _ _ _ _ (recording_back t n).held);
    }

pub from_archive_leaves : (a lent : List ℕ) → from_archive_number a lent ≡ 0 → Leaves (from_archive_answer a lent) lent (from_archive_text a lent) (restored a)
unfolding from_archive_number from_archive_answer from_archive_text restored
from_archive_leaves a lent e =
    let n = read_of (scan_archive a).number lent e in
    record {
      answers = rw e;
      holds = rw e (left_accepted max_archive_bytes (restored a) lent);
      fits = omega (arith, recording_fits_lem _ _ _ _ (archive_back a n).held);
    }

-- an accepted recording text, archived and restored: the length, the text with byte 10 at each line, zeros, and what was lent past the full size
pub to_and_from : (t lent other : List ℕ) → to_archive_number t lent ≡ 0 → max_archive_bytes ≤ length other
    → Leaves (from_archive_answer (take (length (archived t)) (to_archive_text t lent)) other) other (from_archive_text (take (length (archived t)) (to_archive_text t lent)) other) (with_newlines t)
unfolding to_archive_number from_archive_number
to_and_from t lent other e h =
    let n = read_of (scan_plain t).number lent e in
    let b = answered_bytes _ lent (to_archive_text t lent) (archived t) (to_archive_leaves t lent e) in
    let z : from_archive_number (archived t) other ≡ 0 = enough (scan_archive (archived t)).number other h ∙ ap (λ (s : RecordingScan). s.number) (archived_reads t n) in
    rw b (rw (archived_restored t n) at (from_archive_leaves (archived t) other z))

-- an accepted archive text, restored and archived
pub from_and_to : (a lent other : List ℕ) → from_archive_number a lent ≡ 0 → max_archive_bytes ≤ length other
    → Leaves (to_archive_answer (take (length (restored a)) (from_archive_text a lent)) other) other (to_archive_text (take (length (restored a)) (from_archive_text a lent)) other) (with_newlines a)
unfolding to_archive_number from_archive_number
from_and_to a lent other e h =
    let n = read_of (scan_archive a).number lent e in
    let b = answered_bytes _ lent (from_archive_text a lent) (restored a) (from_archive_leaves a lent e) in
    let z : to_archive_number (restored a) other ≡ 0 = enough (scan_plain (restored a)).number other h ∙ ap (λ (s : RecordingScan). s.number) (restored_reads a n) in
    rw b (rw (restored_archived a n) at (to_archive_leaves (restored a) other z))
