-- Laws of reading either text: one for each return, and for what each call asks.
use Rattle.std.specs.Prelude.{Result, Ok, Err}
use mathlib.Core.Path.{◌≡◌, refl, ap, sym, ◌∙◌}
use mathlib.Core.Bool.{Bool, true, false}
use mathlib.Core.List.{List, []}
use Prim.Native.Nat.{ℕ, ◌+◌, ◌<◌, ◌≤◌}
use native.Mathlib.Omega.{arith}
use lib.ListN.{length, take, drop}
use lib.Seq.{take_at, length-take-le}
use lib.Dec.{eqb}
use borrow.Author.Rules.{rules}
use borrow.Author.Tests.{eq-eqb, ne_eqb, eqb-true}
use Rattle.definitions.specs.Limits.{accepted, lent_short, max_controllers, max_states, atom_count}
use Rattle.definitions.specs.Bounded.{pick, or_else}
use Rattle.definitions.specs.Lines.{rest_of, heading, Heading, refused, read, on_next, Scan}
use Rattle.definitions.specs.Recordings.{states_refusal}
use Rattle.definitions.specs.Gauges.{no_gauges}
use Rattle.definitions.specs.RecordingText.{recording_heading_line, scan_masks, scan_states, RecordingScan, recording_stop, opening_masks, scan_opening, after_masks, scan_plain}
use Rattle.definitions.specs.Archive.{SignalScan, scan_signals, after_opening, scan_archive}
use Rattle.theorems.proofs.Choice.{by_test}
use Rattle.theorems.proofs.Inversions.{first_accepted}
use Rattle.theorems.proofs.OpeningReads.{opened, then_read, opening_then, plain_low, archive_low}
use Rattle.rules.specs.Refusals.{number_of}
use Rattle.rules.specs.declared.refusal.Refusal.{Refusal}
use Rattle.rules.proofs.RefusalLaws.{number_some}
use Rattle.lines.specs.Reading.{FirstLine, LinesScanned, stopped_number, stopped_at}
use Rattle.lines.specs.Told.{next_told}
use Rattle.lines.specs.declared.Line.{Line}
use Rattle.lines.specs.declared.Stop.{Stop}
use Rattle.recordings.specs.declared.heading.RecordingHeading.{RecordingHeading}
use Rattle.lines.proofs.StopLaws.{StopTold}
use Rattle.lines.proofs.ToldLaws.{told_refused}
use Rattle.recording_reader.specs.NextLines.{heading_of}
use Rattle.recording_reader.specs.Scanning.{MaskRoom, RestRoom}
use Rattle.recording_reader.proofs.HeadingLaws.{Headed, headed}
use Rattle.recording_reader.proofs.ScanLaws.{masks_counted, states_counted}
use Rattle.signals.specs.Scanning.{ScanRoom, SignalsScanned}
use Rattle.archives.specs.Reading.{after_text, scan_text, AfterRoom, AfterScanned, TextRoom, TextRead, TextStopped}

-- ---- the first line and the lines of the masks
-- the heading and `owns` lines were read: the masks are the first C
record OpeningRead (text : List ℕ) (h : RecordingHeading) (at : ℕ) (masks' : List ℕ) : Type 0 where
  number : accepted ≡ (scan_opening opened text).number
  inside : at ≤ length text
  rest : drop at text ≡ (scan_opening opened text).rest
  few : h.controllers ≤ max_controllers
  short : h.count ≤ max_states
  controllers : h.controllers ≡ (scan_opening opened text).controllers
  count : h.count ≡ (scan_opening opened text).count
  masks : take h.controllers masks' ≡ (scan_opening opened text).masks
  kept : max_controllers ≤ length masks'

-- one of them was refused, at its place
record OpeningStopped (text : List ℕ) (stop : Stop) : Type 0 where
  number : number_of stop.refusal ≡ (scan_opening opened text).number
  inside : stop.at ≤ length text
  rest : drop stop.at text ≡ (scan_opening opened text).rest

module _ (t : List ℕ) where
  opening_stop : (k : ℕ) → recording_heading_line t ≡ refused k → scan_opening opened t ≡ recording_stop k t
  unfolding scan_opening on_next
  opening_stop k e = rw e

  opening_step_lem : (h : Heading) (rest : List ℕ) → recording_heading_line t ≡ read h rest → scan_opening opened t ≡ opening_masks opened h.first h.second (scan_masks h.first [] rest)
  unfolding scan_opening on_next
  opening_step_lem h rest e = rw e

-- what the `owns` lines gave
module _ (C N : ℕ) (m : Scan) where
  owned_number : (opening_masks opened C N m).number ≡ m.number
  unfolding pick
  owned_number = by_test (eqb m.number accepted) (λ z. rw z (sym (eqb-true m.number accepted z))) (λ z. rw z)

  owned_rest : (opening_masks opened C N m).rest ≡ m.rest
  unfolding pick
  owned_rest = by_test (eqb m.number accepted) (λ z. rw z) (λ z. rw z)

  owned_all : m.number ≡ 0 → opening_masks opened C N m ≡ opened C N m.words m.rest
  unfolding pick
  owned_all e = rw (eq-eqb m.number accepted e)

-- the first line is refused: `scan_opening` stops there with its refusal
opening_unheaded : (text : List ℕ) (s : Stop) → StopTold (next_told heading_of (recording_heading_line text)) 0 s → OpeningStopped text s
opening_unheaded text s r =
    let e : scan_opening opened text ≡ recording_stop (number_of s.refusal) text
    = opening_stop text (number_of s.refusal) (told_refused heading_of (recording_heading_line text) s.refusal r.refused) in
    record { number = sym (ap (λ (q : RecordingScan). q.number) e); inside = omega (arith, r.place); rest = rw (e, r.place) }

module _ (text masks : List ℕ) (room : max_controllers ≤ length masks) (l : Line) (is : FirstLine text l) (h : RecordingHeading)
    (e : Ok h ≡ next_told heading_of (recording_heading_line text)) where
  limits : Headed text h
  limits = headed text h e

  opening_mask_room : MaskRoom h.controllers l.next text masks
  opening_mask_room = record { few = limits.few; inside = is.inside; room = room }

  these : Scan
  these = scan_masks h.controllers [] (drop l.next text)

  scan_is : scan_opening opened text ≡ opening_masks opened h.controllers h.count these
  unfolding these
  scan_is =
      opening_step_lem text (heading h.controllers h.count) (rest_of text) limits.is
      ∙ ap (λ (u : List ℕ). opening_masks opened h.controllers h.count (scan_masks h.controllers [] u)) (sym is.rest)

  module _ (r : Result ℕ Stop) (masks' : List ℕ) (m : LinesScanned (scan_masks h.controllers [] (drop l.next text)) text masks r masks') where
    number_is : stopped_number r ≡ (scan_opening opened text).number
    unfolding these
    number_is = m.number ∙ sym (ap (λ (q : RecordingScan). q.number) scan_is ∙ owned_number h.controllers h.count these)

    rest_is : drop (stopped_at r) text ≡ (scan_opening opened text).rest
    unfolding these
    rest_is = m.rest ∙ sym (ap (λ (q : RecordingScan). q.rest) scan_is ∙ owned_rest h.controllers h.count these)

  -- a line of the masks is refused: `scan_opening` stops there
  opening_stopped : (stop : Stop) (masks' : List ℕ) → LinesScanned (scan_masks h.controllers [] (drop l.next text)) text masks (Err stop) masks' → OpeningStopped text stop
  opening_stopped stop masks' m = record { number = number_is (Err stop) masks' m; inside = m.inside; rest = rest_is (Err stop) masks' m }

  -- all of them are read
  opening_read : (at : ℕ) (masks' : List ℕ) → LinesScanned (scan_masks h.controllers [] (drop l.next text)) text masks (Ok at) masks' → length masks' ≡ length masks → OpeningRead text h at masks'
  unfolding these
  opening_read at masks' m held =
      let all : scan_opening opened text ≡ opened h.controllers h.count these.words these.rest = scan_is ∙ owned_all h.controllers h.count these (sym m.number) in
      let c = (masks_counted h.controllers [] (drop l.next text)).all (sym m.number) in
      record {
        number = number_is (Ok at) masks' m;
        inside = m.inside;
        rest = rest_is (Ok at) masks' m;
        few = limits.few;
        short = limits.short;
        controllers = sym (ap (λ (q : RecordingScan). q.controllers) all);
        count = sym (ap (λ (q : RecordingScan). q.count) all);
        masks = (rw m.words (take_at these.words (drop (length these.words) masks) h.controllers c)) ∙ sym (ap (λ (q : RecordingScan). q.masks) all);
        kept = omega arith;
      }

-- ---- `scan_turned`
module _ (h : RecordingHeading) (start : ℕ) (masks text states : List ℕ) (room : AfterRoom h start text states) where
  abbrev C : ℕ
  C = h.controllers

  abbrev N : ℕ
  N = h.count

  pub turned_room : ScanRoom C N start text states
  turned_room = record {
    few = room.few;
    inside = room.inside;
    enough = omega (arith, room.short, room.room);
    zeros = λ k l. room.zeros k (omega (arith, room.short));
  }

  pub turned_few : C ≤ max_controllers
  turned_few = room.few

  signals : SignalScan
  signals = scan_signals C N (C + atom_count) 0 (drop start text)

  -- `scan_turned`, a signal is refused: `after_opening` has that refusal
  pub turned_refused : (stop : Stop) (states' : List ℕ) → SignalsScanned C N start text (Err stop) states' → AfterScanned (after_opening C N masks (drop start text)) N text (Err stop) states'
  unfolding after_opening or_else pick
  turned_refused stop states' s = record {
    number = rw (← s.number, ne_eqb (number_of stop.refusal) 0 (number_some stop.refusal));
    inside = s.inside;
    rest = s.rest;
    states = λ q. absurd (number_some stop.refusal q);
  }

  -- all signals are read: `after_opening` has the refusal of the states, "the output rule after all lines"
  module _ (at : ℕ) (states' : List ℕ) (s : SignalsScanned C N start text (Ok at) states') (r : Result ℕ Stop) (p : at ≡ stopped_at r) (e : stopped_number r ≡ states_refusal C masks 0 0 (take N states')) where
    checked : AfterScanned (after_opening C N masks (drop start text)) N text r states'
    unfolding after_opening signals
    checked =
        let n : (scan_signals C N (C + atom_count) 0 (drop start text)).number ≡ 0 = sym s.number in
        record {
          number = e ∙ (rw (s.states refl) (sym (first_accepted _ _ n)));
          inside = rw (← p) s.inside;
          rest = rw (← p) s.rest;
          states = λ q. s.states refl;
        }

  module _ (at : ℕ) (states' : List ℕ) (s : SignalsScanned C N start text (Ok at) states') where
    -- `scan_turned`, the states are refused
    pub turned_broken : (k : Refusal) → number_of k ≡ states_refusal C masks 0 0 (take N states') → AfterScanned (after_opening C N masks (drop start text)) N text (Err (record { refusal = k; at = at })) states'
    turned_broken k e = checked at states' s (Err (record { refusal = k; at = at })) refl e

    -- `scan_turned`, they are accepted
    pub turned_checked : accepted ≡ states_refusal C masks 0 0 (take N states') → AfterScanned (after_opening C N masks (drop start text)) N text (Ok at) states'
    turned_checked e = checked at states' s (Ok at) refl e

pub ruleset turned_laws = (rules, turned_room, turned_few, turned_refused, turned_broken, turned_checked)

-- ---- `scan_after`
module _ (back : Bool) (h : RecordingHeading) (start : ℕ) (masks text states : List ℕ) (room : AfterRoom h start text states) where
  pub after_plain_room : RestRoom h start text states
  after_plain_room = record { few = room.few; short = room.short; inside = room.inside; room = room.room }

  -- `scan_after`, back: `after_text` is that of signals
  pub after_turned : back ≡ true → (r : Result ℕ Stop) (states' : List ℕ) → AfterScanned (after_opening h.controllers h.count masks (drop start text)) h.count text r states'
      → AfterScanned (after_text back h.controllers h.count masks (drop start text)) h.count text r states'
  unfolding after_text pick
  after_turned e r states' a = rw e a

  -- `scan_after`, there: `after_text` is that of the lines of the states of no gauges
  pub after_lines : back ≡ false → (r : Result ℕ Stop) (states' : List ℕ) → LinesScanned (scan_states h.controllers masks no_gauges h.count 0 0 (drop start text)) text states r states'
      → AfterScanned (after_text back h.controllers h.count masks (drop start text)) h.count text r states'
  unfolding after_text after_masks pick
  after_lines e r states' s = rw e (record {
    number = s.number;
    inside = s.inside;
    rest = s.rest;
    states = λ z. rw s.words (take_at _ _ h.count ((states_counted h.controllers masks no_gauges h.count 0 0 (drop start text)).all (sym s.number ∙ z)));
  })

pub ruleset after_laws = (rules, after_plain_room, after_turned, after_lines)

-- ---- `scan_text`
scan_then : (back : Bool) (t : List ℕ) → scan_text back t ≡ then_read (after_text back) (scan_opening opened t)
unfolding scan_text after_text scan_archive scan_plain pick then_read
scan_then true t = opening_then after_opening t
scan_then false t = opening_then after_masks t

then_stop : (back : Bool) (s : RecordingScan) → (s.number ≡ 0 → ⊥) → then_read (after_text back) s ≡ recording_stop s.number s.rest
unfolding then_read pick
then_stop back s z = rw (ne_eqb s.number 0 z)

then_goes : (back : Bool) (s : RecordingScan) → s.number ≡ 0 → then_read (after_text back) s ≡ after_text back s.controllers s.count s.masks s.rest
unfolding then_read pick
then_goes back s z = rw (eq-eqb s.number 0 z)

after_heading : (back : Bool) (C N : ℕ) (masks t : List ℕ) → ((after_text back C N masks t).controllers ≡ C) × (((after_text back C N masks t).count ≡ N) × ((after_text back C N masks t).masks ≡ masks))
unfolding after_text after_masks after_opening pick
after_heading true C N masks t = (refl, (refl, refl))
after_heading false C N masks t = (refl, (refl, refl))

text_low : (back : Bool) (t : List ℕ) → (scan_text back t).number < lent_short
unfolding scan_text pick
text_low true t = archive_low t
text_low false t = plain_low t

module _ (back : Bool) (text : List ℕ) (stop : Stop) where
  refused_in_opening : OpeningStopped text stop → TextStopped (scan_text back text) text stop
  refused_in_opening op =
      let s : scan_text back text ≡ recording_stop (scan_opening opened text).number (scan_opening opened text).rest
      = scan_then back text ∙ then_stop back (scan_opening opened text) (λ q. number_some stop.refusal (op.number ∙ q)) in
      let n : number_of stop.refusal ≡ (scan_text back text).number = op.number ∙ sym (ap (λ (q : RecordingScan). q.number) s) in
      record { number = n; inside = op.inside; rest = op.rest ∙ sym (ap (λ (q : RecordingScan). q.rest) s); low = omega (arith, n, text_low back text) }

  -- `scan_text`, the first line is refused: `scan_text` stops there
  pub text_unheaded : StopTold (next_told heading_of (recording_heading_line text)) 0 stop → TextStopped (scan_text back text) text stop
  text_unheaded r = refused_in_opening (opening_unheaded text stop r)

module _ (back : Bool) (text masks states : List ℕ) (room : TextRoom masks states) (l : Line) (is : FirstLine text l) (h : RecordingHeading)
    (e : Ok h ≡ next_told heading_of (recording_heading_line text)) where
  pub text_mask_room : MaskRoom h.controllers l.next text masks
  text_mask_room = opening_mask_room text masks room.masks_room l is h e

  -- `scan_text`, a line of the masks is refused: `scan_text` stops there
  pub text_unowned : (stop : Stop) (masks' : List ℕ) → LinesScanned (scan_masks h.controllers [] (drop l.next text)) text masks (Err stop) masks' → TextStopped (scan_text back text) text stop
  text_unowned stop masks' m = refused_in_opening back text stop (opening_stopped text masks room.masks_room l is h e stop masks' m)

  module _ (at : ℕ) (masks' : List ℕ) (m : LinesScanned (scan_masks h.controllers [] (drop l.next text)) text masks (Ok at) masks') (held : length masks' ≡ length masks) where
    op : OpeningRead text h at masks'
    op = opening_read text masks room.masks_room l is h e at masks' m held

    pub text_own : h.controllers ≤ length masks'
    text_own = omega (arith, op.few, op.kept)

    pub text_own_counts : h.controllers ≡ length (take h.controllers masks')
    text_own_counts = sym (length-take-le h.controllers masks' text_own)

    pub text_after_room : AfterRoom h at text states
    text_after_room = record { few = op.few; short = op.short; inside = op.inside; room = room.states_room; zeros = room.zeros }

    goes : scan_text back text ≡ after_text back h.controllers h.count (take h.controllers masks') (drop at text)
    goes =
        scan_then back text
        ∙ (then_goes back (scan_opening opened text) (sym op.number)
        ∙ rw (op.controllers, op.count, ← op.masks, op.controllers, op.rest))

    -- `scan_text`, what follows the opening is refused
    pub text_stopped : (stop : Stop) (states' : List ℕ) → AfterScanned (after_text back h.controllers h.count (take h.controllers masks') (drop at text)) h.count text (Err stop) states'
        → TextStopped (scan_text back text) text stop
    text_stopped stop states' a =
        let n : number_of stop.refusal ≡ (scan_text back text).number = a.number ∙ sym (ap (λ (q : RecordingScan). q.number) goes) in
        record { number = n; inside = a.inside; rest = a.rest ∙ sym (ap (λ (q : RecordingScan). q.rest) goes); low = omega (arith, n, text_low back text) }

    -- `scan_text`, it is read
    pub text_read : (end : ℕ) (states' : List ℕ) → AfterScanned (after_text back h.controllers h.count (take h.controllers masks') (drop at text)) h.count text (Ok end) states'
        → length states' ≡ length states → TextRead (scan_text back text) h masks' states'
    text_read end states' a kept =
        let after = after_heading back h.controllers h.count (take h.controllers masks') (drop at text) in
        record {
          number = a.number ∙ sym (ap (λ (q : RecordingScan). q.number) goes);
          few = op.few;
          short = op.short;
          masks_there = text_own;
          states_there = omega (arith, op.short, room.states_room);
          controllers = sym (ap (λ (q : RecordingScan). q.controllers) goes ∙ after.0);
          count = sym (ap (λ (q : RecordingScan). q.count) goes ∙ after.1.0);
          masks = sym (ap (λ (q : RecordingScan). q.masks) goes ∙ after.1.1);
          states = a.states refl ∙ sym (ap (λ (q : RecordingScan). q.states) goes);
        }

pub ruleset text_laws = (rules, text_mask_room, text_unowned, text_own, text_own_counts, text_after_room, text_stopped, text_read)
