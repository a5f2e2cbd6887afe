-- Laws of writing either text: one for each return, and for what each call asks.
use mathlib.Core.Path.{◌≡◌, refl, ap, sym}
use mathlib.Core.Bool.{Bool, true, false}
use mathlib.Core.List.{List, [], ◌∷◌, ◌++◌, append_assoc}
use Prim.Native.Nat.{ℕ, ◌+◌, ◌≤◌}
use native.Mathlib.Omega.{arith}
use lib.ListN.{length}
use borrow.Author.Rules.{rules}
use Rattle.definitions.specs.Bounded.{pick}
use Rattle.definitions.specs.Lines.{newline}
use Rattle.definitions.specs.Recordings.{recording_of}
use Rattle.definitions.specs.RecordingWriting.{recording_heading_text, mask_text, masks_text, states_text, opening_text, recording_text}
use Rattle.definitions.specs.Archive.{signals_of, signals_text, archive_text}
use Rattle.printing.specs.Printing.{Printed}
use Rattle.printing.proofs.LineLaws.{first_room_lem, rest_room, both}
use Rattle.recording_writer.specs.Writing.{OpeningRoom}
use Rattle.signals.specs.Writing.{LinesWritable}
use Rattle.archives.specs.Writing.{text_of, WriteRoom}

-- the opening, and then another text
masks_then : (ms rest : List ℕ) → masks_text ms rest ≡ masks_text ms [] ++ rest
unfolding masks_text
masks_then [] rest = refl
masks_then (m ∷ ms) rest = rw (masks_then ms rest) (sym (append_assoc (mask_text m) (newline ∷ masks_text ms []) rest))

opening_then : (C N : ℕ) (masks rest : List ℕ) → opening_text C N masks rest ≡ opening_text C N masks [] ++ rest
unfolding opening_text
opening_then C N masks rest = rw (masks_then masks rest) (sym (append_assoc (recording_heading_text C N) (newline ∷ masks_text masks []) rest))

-- what follows the opening
unfoldable body_of : (back : Bool) (C : ℕ) (states : List ℕ) → List ℕ
body_of back C states = pick back (states_text C states) (signals_text C 0 (signals_of C states))

text_parts : (back : Bool) (C N : ℕ) (masks states : List ℕ) → text_of back (recording_of C N masks states) ≡ opening_text C N masks [] ++ body_of back C states
unfolding text_of body_of recording_text archive_text pick
text_parts true C N masks states = opening_then C N masks (states_text C states)
text_parts false C N masks states = opening_then C N masks (signals_text C 0 (signals_of C states))

body_back : (back : Bool) (C : ℕ) (states : List ℕ) → back ≡ true → body_of back C states ≡ states_text C states
unfolding body_of pick
body_back back C states e = rw e

body_there : (back : Bool) (C : ℕ) (states : List ℕ) → back ≡ false → body_of back C states ≡ signals_text C 0 (signals_of C states)
unfolding body_of pick
body_there back C states e = rw e

-- ---- `put_text`
module _ (back : Bool) (C N : ℕ) (masks states o : List ℕ) (w : WriteRoom back (recording_of C N masks states) o) where
  parts : 0 + length (opening_text C N masks [] ++ body_of back C states) ≤ length o
  parts = omega (arith, ap length (text_parts back C N masks states), w.room)

  pub text_opening_room : OpeningRoom C N masks o
  text_opening_room = record { few = w.few; short = w.short; room = omega (arith, first_room_lem (opening_text C N masks []) (body_of back C states) o 0 parts) }

  module _ (p : ℕ) (o' : List ℕ) (head : Printed (opening_text C N masks []) o 0 p o') where
    body_room : length o' ≡ length o → p + length (body_of back C states) ≤ length o'
    body_room k = rest_room (opening_text C N masks []) (body_of back C states) o 0 parts o' p head k

    whole : (e : ℕ) (o'' : List ℕ) → Printed (body_of back C states) o' p e o'' → Printed (text_of back (recording_of C N masks states)) o 0 e o''
    whole e o'' b = rw (text_parts back C N masks states) (both (opening_text C N masks []) (body_of back C states) o 0 parts o' p head o'' e b)

    pub text_states_room : back ≡ true → length o' ≡ length o → p + length (states_text C states) ≤ length o'
    text_states_room b k = rw (body_back back C states b) at (body_room k)

    -- `put_text`, back: `text_of` is the opening and the lines of the states
    pub text_back : back ≡ true → (e : ℕ) (o'' : List ℕ) → Printed (states_text C states) o' p e o'' → Printed (text_of back (recording_of C N masks states)) o 0 e o''
    text_back b e o'' x = whole e o'' (rw (body_back back C states b) x)

    pub text_signals_room : back ≡ false → length o' ≡ length o → LinesWritable C states p o'
    text_signals_room b k = record { few = w.few; room = rw (body_there back C states b) at (body_room k) }

    -- `put_text`, there: `text_of` is the opening and the signals
    pub text_there : back ≡ false → (e : ℕ) (o'' : List ℕ) → Printed (signals_text C 0 (signals_of C states)) o' p e o'' → Printed (text_of back (recording_of C N masks states)) o 0 e o''
    text_there b e o'' x = whole e o'' (rw (body_there back C states b) x)

pub ruleset put_text_laws = (rules, text_opening_room, text_states_room, text_back, text_signals_room, text_there)
