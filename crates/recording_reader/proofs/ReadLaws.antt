-- Laws of reading a recording text into lent space: one for each return, and what is left there.
use mathlib.Core.Path.{◌≡◌, refl, sym, ◌∙◌}
use mathlib.Core.Bool.{true, ◌||◌}
use mathlib.Core.List.{List}
use Prim.Native.Nat.{ℕ, ◌<◌, ◌≤◌}
use lib.ListN.{length}
use borrow.Author.Tests.{ne_eqb, lt-ltb, le-ltb}
use Rattle.std.specs.Prelude.{Result, Ok, Err, MatchResult}
use Rattle.definitions.specs.Limits.{accepted, lent_short, max_controllers, max_states}
use Rattle.definitions.specs.Bounded.{pick}
use Rattle.definitions.specs.RecordingText.{scan_recording}
use Rattle.definitions.specs.Operations.{answer, too_short, read_recording_number, read_recording_answer, read_recording_masks, read_recording_states}
use Rattle.lent.specs.Space.{cleared}
use Rattle.lent.proofs.LeftLaws.{laid_begins, left_untouched, left_zeroed, left_filled}
use Rattle.rules.specs.Refusals.{number_of}
use Rattle.rules.specs.declared.refusal.Refusal.{Refusal}
use Rattle.rules.specs.declared.refusal.Refusal.TheVariants.{LentShort}
use Rattle.rules.proofs.RefusalLaws.{number_some}
use Rattle.recordings.specs.declared.heading.RecordingHeading.{RecordingHeading}
use Rattle.lines.specs.declared.CutShort.{CutShort}
use Rattle.recording_reader.specs.Scanning.{RecordingScanned}
use Rattle.recording_reader.specs.Reading.{read_answer, ReadRecording}

-- ---- `read_recording`
-- how many entries are kept: those that an accepted heading says
pub kept_is : (r : Result RecordingHeading (CutShort RecordingHeading)) (of : RecordingHeading → ℕ) (k : ℕ) (P : RecordingHeading → Type 0) → MatchResult r P (λ s. k ≡ 0) → ((h : RecordingHeading) → P h → k ≡ of h)
    → MatchResult r (λ h. k ≡ of h) (λ s. k ≡ 0)
kept_is (Ok h) of k P e q = q h e
kept_is (Err s) of k P e q = e

module _ (text masks states : List ℕ) where
  short_number : (too_short max_controllers masks || too_short max_states states) ≡ true → read_recording_number text masks states ≡ lent_short
  unfolding read_recording_number pick
  short_number e = rw e

  scan_number : max_controllers ≤ length masks → max_states ≤ length states → read_recording_number text masks states ≡ (scan_recording text).number
  unfolding read_recording_number pick
  scan_number h k = rw (le-ltb (length masks) max_controllers h, le-ltb (length states) max_states k)

  refused_is : (e : Refusal) → read_recording_number text masks states ≡ number_of e → read_answer (Err e) ≡ read_recording_answer text masks states
  unfolding read_recording_answer answer pick
  refused_is e n = rw (n, ne_eqb (number_of e) 0 (number_some e))

  accepted_is : (h : RecordingHeading) → read_recording_number text masks states ≡ accepted → h.controllers ≡ (scan_recording text).controllers → h.count ≡ (scan_recording text).count
      → read_answer (Ok h) ≡ read_recording_answer text masks states
  unfolding read_recording_answer
  accepted_is h e p q = rw (e, p, q)

  read_short : read_recording_number text masks states ≡ lent_short → ReadRecording text masks states (Err LentShort) masks states
  unfolding read_recording_masks read_recording_states
  read_short e = record {
    answered = refused_is LentShort e;
    masks_left = left_untouched (read_recording_number text masks states) max_controllers (scan_recording text).masks masks e;
    states_left = left_untouched (read_recording_number text masks states) max_states (scan_recording text).states states e;
  }

  -- `read_recording`, 13 by the masks: `read_recording_masks` and `read_recording_states` are what was lent
  pub masks_short_lem : length masks < max_controllers → ReadRecording text masks states (Err LentShort) masks states
  masks_short_lem h = read_short (short_number (rw (lt-ltb (length masks) max_controllers h)))

  -- `read_recording`, 13 by the states: `read_recording_masks` and `read_recording_states` are what was lent
  pub states_short_lem : max_controllers ≤ length masks → length states < max_states → ReadRecording text masks states (Err LentShort) masks states
  states_short_lem k h = read_short (short_number (rw (le-ltb (length masks) max_controllers k, lt-ltb (length states) max_states h)))

  module _ (long : max_controllers ≤ length masks) (longer : max_states ≤ length states) (masks' states' : List ℕ) (i j : ℕ) (m n : List ℕ)
      (ms : m ≡ cleared masks' i max_controllers) (ns : n ≡ cleared states' j max_states) where
    -- `read_recording`, another refusal: `read_recording_masks` and `read_recording_states` are zero over their full size
    pub read_refused : (p : CutShort RecordingHeading) → RecordingScanned text masks states (Err p) masks' states' → i ≡ 0 → j ≡ 0 → ReadRecording text masks states (Err p.stop.refusal) m n
    unfolding read_recording_masks read_recording_states
    read_refused p s a b =
        let e = p.stop.refusal in
        let is : read_recording_number text masks states ≡ number_of e = scan_number long longer ∙ sym s.ended.number in
        record {
          answered = refused_is e is;
          masks_left = rw is (left_zeroed (number_of e) max_controllers (scan_recording text).masks masks masks' m s.masks_past s.ended.not_lent (number_some e) (rw a at ms));
          states_left = rw is (left_zeroed (number_of e) max_states (scan_recording text).states states states' n s.states_past s.ended.not_lent (number_some e) (rw b at ns));
        }

    -- `read_recording`, accepted: `read_recording_answer` is C and N, masks and states are laid and then zeros
    pub read_accepted : (h : RecordingHeading) → RecordingScanned text masks states (Ok h) masks' states' → i ≡ h.controllers → j ≡ h.count → ReadRecording text masks states (Ok h) m n
    unfolding read_recording_masks read_recording_states
    read_accepted h s a b =
        let is : read_recording_number text masks states ≡ accepted = scan_number long longer ∙ sym s.ended.number in
        let o = s.ended in
        record {
          answered = accepted_is h is o.controllers o.count;
          masks_left = rw is (left_filled accepted max_controllers (scan_recording text).masks masks masks' m s.masks_past h.controllers refl o.masks_count
              (laid_begins h.controllers (scan_recording text).masks masks masks' o.masks_count o.masks_laid) (rw a at ms));
          states_left = rw is (left_filled accepted max_states (scan_recording text).states states states' n s.states_past h.count refl o.states_count
              (laid_begins h.count (scan_recording text).states states states' o.states_count s.states_laid) (rw b at ns));
        }

-- `read_recording`: lent space is cleared behind what is kept
pub read_done : (text masks states : List ℕ) → max_controllers ≤ length masks → max_states ≤ length states → (masks' states' : List ℕ) (r : Result RecordingHeading (CutShort RecordingHeading))
    → RecordingScanned text masks states r masks' states' → (i : ℕ) → MatchResult r (λ h. i ≡ h.controllers) (λ s. i ≡ 0) → (j : ℕ) → MatchResult r (λ h. j ≡ h.count) (λ s. j ≡ 0)
    → (m n : List ℕ) → m ≡ cleared masks' i max_controllers → n ≡ cleared states' j max_states → (x : Result RecordingHeading Refusal) → MatchResult r (λ h. x ≡ Ok h) (λ s. x ≡ Err s.stop.refusal)
    → ReadRecording text masks states x m n
read_done text masks states long longer masks' states' (Ok h) s i a j b m n ms ns x e = rw e (read_accepted text masks states long longer masks' states' i j m n ms ns h s a b)
read_done text masks states long longer masks' states' (Err p) s i a j b m n ms ns x e = rw e (read_refused text masks states long longer masks' states' i j m n ms ns p s a b)
