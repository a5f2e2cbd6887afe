-- Laws of both directions: one for each return, and for what each call asks.
use Rattle.std.specs.Prelude.{Ok, Err, Result}
use mathlib.Core.Path.{◌≡◌, refl, ap, sym, ◌∙◌}
use mathlib.Core.Bool.{Bool, true, false}
use mathlib.Core.List.{List}
use Prim.Native.Nat.{ℕ, ◌+◌, ◌<◌, ◌≤◌}
use native.Mathlib.Omega.{arith}
use lib.ListN.{length, take, replicate, length-replicate, get_or-replicate}
use lib.Seq.{length-take-le}
use borrow.Author.Rules.{rules}
use borrow.Author.Tests.{lt-ltb, le-ltb}
use Rattle.definitions.specs.Limits.{accepted, lent_short, max_controllers, max_states, max_archive_bytes}
use Rattle.definitions.specs.Bounded.{pick}
use Rattle.definitions.specs.Recordings.{Recording, recording_of}
use Rattle.definitions.specs.Archive.{archived, restored}
use Rattle.definitions.specs.Operations.{to_archive_number, to_archive_answer, to_archive_text, from_archive_number, from_archive_answer, from_archive_text}
use Rattle.theorems.proofs.RecordingTexts.{recording_back}
use Rattle.theorems.proofs.ArchiveTexts.{archive_back}
use Rattle.theorems.proofs.ArchiveLengths.{recording_fits_lem, archive_fits}
use Rattle.lent.specs.Space.{laid, cleared}
use Rattle.lent.proofs.LeftLaws.{laid_past, laid_begins, left_untouched, left_zeroed, left_filled}
use Rattle.printing.specs.Printing.{laid_at, Printed}
use Rattle.rules.specs.Refusals.{number_of}
use Rattle.rules.specs.declared.refusal.Refusal.{Refusal}
use Rattle.rules.specs.declared.refusal.Refusal.TheVariants.{LentShort}
use Rattle.rules.proofs.RefusalLaws.{number_some}
use Rattle.recordings.proofs.NumberLaws.{refusal_alone}
use Rattle.lines.specs.declared.Stop.{Stop}
use Rattle.recordings.specs.declared.heading.RecordingHeading.{RecordingHeading}
use Rattle.archives.specs.Reading.{scan_text, TextRoom, TextRead, TextStopped}
use Rattle.archives.specs.Writing.{text_of, text_from, WriteRoom}
use Rattle.archives.specs.Converting.{convert_number, Converted, ToArchive, FromArchive}

-- ---- space for masks and states
some_room : (M N : ℕ) → max_controllers ≤ M → max_states ≤ N → TextRoom (replicate M 0) (replicate N 0)
some_room M N h k = record {
  masks_room = omega (arith, length-replicate {A = ℕ} M 0);
  states_room = omega (arith, length-replicate {A = ℕ} N 0);
  zeros = λ j l. get_or-replicate {A = ℕ} N j 0 0 (omega arith);
}

pub local_room : TextRoom (replicate 11 0) (replicate 128 0)
local_room = some_room 11 128 (omega arith) (omega arith)

-- ---- every text that is written fits
pub text_fits : (back : Bool) (t : List ℕ) → accepted ≡ (scan_text back t).number → length (text_from back (scan_text back t)) ≤ 5933
unfolding scan_text text_of pick
text_fits true t e = omega (arith, recording_fits_lem _ _ _ _ (archive_back t (sym e)).held)
text_fits false t e = archive_fits _ _ _ _ (recording_back t (sym e)).held

-- ---- a recording that was read, as it is written
module _ (back : Bool) (text : List ℕ) (h : RecordingHeading) (masks states : List ℕ) (s : TextRead (scan_text back text) h masks states) where
  abbrev R : Recording
  R = recording_of h.controllers h.count (take h.controllers masks) (take h.count states)

  same_text : text_of back R ≡ text_from back (scan_text back text)
  same_text = rw (s.masks, s.states, s.controllers, s.count)

  fits_in : length (text_from back (scan_text back text)) ≤ 5933
  fits_in = text_fits back text s.number

  pub read_write_room : (o : List ℕ) → 5933 ≤ length o → WriteRoom back R o
  read_write_room o l = record { few = s.few; short = s.short; room = omega (arith, ap length same_text, fits_in) }

  -- what is written is the text of what was read
  pub read_written : (o : List ℕ) (e : ℕ) (o' : List ℕ) → Printed (text_of back R) o 0 e o' → Printed (text_from back (scan_text back text)) o 0 e o'
  read_written o e o' p = rw same_text at p

  -- the parts of masks and states that are written
  pub read_masks_counts : h.controllers ≡ length (take h.controllers masks)
  read_masks_counts = sym (length-take-le h.controllers masks s.masks_there)

  pub read_states_counts : h.count ≡ length (take h.count states)
  read_states_counts = sym (length-take-le h.count states s.states_there)

-- ---- `convert`
module _ (back : Bool) (text o : List ℕ) where
  abbrev content : List ℕ
  content = text_from back (scan_text back text)

  -- `convert`, 13: lent space is what it was
  pub convert_short : length o < max_archive_bytes → Converted back text o (Err LentShort) o
  unfolding convert_number pick
  convert_short h =
      let e : lent_short ≡ convert_number back text o = rw (lt-ltb (length o) max_archive_bytes h) in
      record { answered = refusal_alone LentShort _ _ e; holds = left_untouched (convert_number back text o) max_archive_bytes content o (sym e) }

  module _ (long : max_archive_bytes ≤ length o) where
    number_is : convert_number back text o ≡ (scan_text back text).number
    unfolding convert_number pick
    number_is = rw (le-ltb (length o) max_archive_bytes long)

    -- `convert`, another refusal: lent space is zero over its full size
    pub convert_refused : (stop : Stop) → TextStopped (scan_text back text) text stop → (o' : List ℕ) → o' ≡ cleared o 0 max_archive_bytes → Converted back text o (Err stop.refusal) o'
    convert_refused stop s o' x =
        let is : number_of stop.refusal ≡ convert_number back text o = s.number ∙ sym number_is in
        record {
          answered = refusal_alone stop.refusal _ _ is;
          holds = rw (← is) (left_zeroed (number_of stop.refusal) max_archive_bytes content o o o' refl (λ q. omega (arith, q, s.low)) (number_some stop.refusal) x);
        }

    module _ (h : RecordingHeading) (masks states : List ℕ) (s : TextRead (scan_text back text) h masks states) where
      pub convert_room : WriteRoom back (R back text h masks states s) o
      convert_room = read_write_room back text h masks states s o (omega arith)

      module _ (e : ℕ) (o' : List ℕ) (p : Printed (text_of back (R back text h masks states s)) o 0 e o') where
        whole : Printed content o 0 e o'
        whole = read_written back text h masks states s o e o' p

        short : length content ≤ max_archive_bytes
        short = omega (arith, text_fits back text s.number)

        pub convert_ends : e ≤ max_archive_bytes
        convert_ends = omega (arith, whole.next, short)

        over : o' ≡ laid content o
        unfolding laid_at
        over = let m : 0 + length content ≡ length content = omega arith in whole.lies ∙ rw m

        -- `convert`, accepted: the answer is the length, lent space the text and then zeros
        pub convert_accepted : (o'' : List ℕ) → o'' ≡ cleared o' e max_archive_bytes → Converted back text o (Ok e) o''
        convert_accepted o'' x =
            let l : length content ≡ e = omega (arith, whole.next) in
            let n : convert_number back text o ≡ accepted = number_is ∙ sym s.number in
            record {
              answered = rw (n, l);
              holds = left_filled (convert_number back text o) max_archive_bytes content o o' o'' (laid_past max_archive_bytes content o o' short over) e n l (laid_begins e content o o' l over) x;
            }

pub ruleset convert_laws = (rules, local_room, convert_short, convert_refused, convert_room, convert_ends, convert_accepted, read_masks_counts, read_states_counts)

-- ---- `to_archive`, `from_archive`
-- `to_archive`: there, both equations are those of the definitions
pub to_archive_lem : (text o : List ℕ) (r : Result ℕ Refusal) (o' : List ℕ) → Converted false text o r o' → ToArchive text o r o'
unfolding convert_number scan_text text_of pick to_archive_number to_archive_answer to_archive_text archived
to_archive_lem text o r o' c = record { answered = c.answered; archive_left = c.holds }

-- `from_archive`: back, both equations are those of the definitions
pub from_archive_lem : (text o : List ℕ) (r : Result ℕ Refusal) (o' : List ℕ) → Converted true text o r o' → FromArchive text o r o'
unfolding convert_number scan_text text_of pick from_archive_number from_archive_answer from_archive_text restored
from_archive_lem text o r o' c = record { answered = c.answered; text_left = c.holds }
