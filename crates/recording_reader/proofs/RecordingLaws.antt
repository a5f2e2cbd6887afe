-- Laws of reading the lines of a recording text, one for each return.
use mathlib.Core.Path.{◌≡◌, refl, ap, sym, ◌∙◌}
use mathlib.Core.List.{List, []}
use Prim.Native.Nat.{ℕ, ◌≤◌}
use native.Mathlib.Omega.{arith}
use lib.Dec.{eqb}
use lib.ListN.{length, take, drop, length-drop}
use lib.Seq.{take_at}
use borrow.Author.Tests.{eq-eqb, ne_eqb}
use Rattle.std.specs.Prelude.{Ok, Err}
use Rattle.definitions.specs.Limits.{accepted, max_gauges, max_controllers, max_states}
use Rattle.definitions.specs.Bounded.{pick}
use Rattle.definitions.specs.Lines.{Heading, heading, rest_of, refused, read, on_next, Scan}
use Rattle.definitions.specs.RecordingText.{recording_heading_line, scan_masks, GaugeScan, scan_gauges, scan_states, RecordingScan, recording_stop, recording_states, after_gauges, gauged_after_masks, opening_masks, scan_opening, scan_recording}
use Rattle.theorems.proofs.Choice.{by_test}
use Rattle.theorems.proofs.NextLines.{on_next_lem}
use Rattle.theorems.proofs.TextNumbers.{recording_of_text_lem}
use Rattle.lent.specs.Space.{laid}
use Rattle.lent.proofs.LeftLaws.{laid_past}
use Rattle.rules.specs.Refusals.{number_of}
use Rattle.rules.specs.declared.refusal.Refusal.{Refusal}
use Rattle.rules.proofs.RefusalLaws.{number_some}
use Rattle.recordings.specs.declared.heading.RecordingHeading.{RecordingHeading}
use Rattle.gauges.specs.Held.{gauges_in}
use Rattle.gauges.specs.Scanning.{GaugesScanned}
use Rattle.gauges.specs.declared.gauge.Gauges.{Gauges}
use Rattle.lines.specs.Reading.{FirstLine, LinesScanned}
use Rattle.lines.specs.Told.{next_told}
use Rattle.lines.specs.declared.CutShort.{CutShort}
use Rattle.lines.specs.declared.Line.{Line}
use Rattle.lines.specs.declared.Stop.{Stop}
use Rattle.lines.proofs.LoopLaws.{Counted}
use Rattle.lines.proofs.ToldLaws.{told_refused, read_told}
use Rattle.recording_reader.specs.NextLines.{heading_of}
use Rattle.recording_reader.specs.Scanning.{Room, MaskRoom, RestRoom, unread, RecordingRefused, RecordingScanned}
use Rattle.recording_reader.proofs.HeadingLaws.{Headed, headed}
use Rattle.recording_reader.proofs.ScanLaws.{masks_counted, states_counted, scan_own}

-- ---- the definitions, by what was read
-- the masks were refused
masks_denied : (C N : ℕ) (m : Scan) → (m.number ≡ 0 → ⊥) → opening_masks gauged_after_masks C N m ≡ recording_stop m.number m.rest
unfolding pick
masks_denied C N m z = rw (ne_eqb m.number 0 z)

-- the masks were read
masks_read : (C N : ℕ) (m : Scan) → m.number ≡ 0 → opening_masks gauged_after_masks C N m ≡ after_gauges C N m.words (scan_gauges max_gauges [] m.rest)
unfolding gauged_after_masks pick
masks_read C N m e = rw (eq-eqb m.number 0 e)

-- the gauges were refused
gauges_denied : (C N : ℕ) (masks : List ℕ) (s : GaugeScan) → (s.number ≡ 0 → ⊥) → after_gauges C N masks s ≡ recording_stop s.number s.rest
unfolding pick
gauges_denied C N masks s z = rw (ne_eqb s.number 0 z)

-- the gauges were read
gauges_read : (C N : ℕ) (masks : List ℕ) (s : GaugeScan) → s.number ≡ 0 → after_gauges C N masks s ≡ recording_states C N masks (scan_states C masks s.gauges N 0 0 s.rest)
unfolding pick
gauges_read C N masks s e = rw (eq-eqb s.number 0 e)

module _ (t : List ℕ) where
  recording_stop_lem : (k : ℕ) → recording_heading_line t ≡ refused k → scan_recording t ≡ recording_stop k t
  unfolding scan_recording scan_opening on_next
  recording_stop_lem k e = rw e

  recording_step : (h : Heading) (rest : List ℕ) → recording_heading_line t ≡ read h rest → scan_recording t ≡ opening_masks gauged_after_masks h.first h.second (scan_masks h.first [] rest)
  unfolding scan_recording scan_opening on_next
  recording_step h rest e = rw e

-- C and N of a reading are within their limits
abbrev Within : RecordingScan → Type 0
Within s = (s.controllers ≤ max_controllers) × (s.count ≤ max_states)

masked_within : (C N : ℕ) (m : Scan) → C ≤ max_controllers → N ≤ max_states → Within (opening_masks gauged_after_masks C N m)
unfolding gauged_after_masks pick
masked_within C N m few short =
    let s = scan_gauges max_gauges [] m.rest in
    by_test (eqb m.number accepted)
    (λ z. rw z (by_test (eqb s.number accepted) (λ y. rw y (few, short)) (λ y. rw y (omega arith, omega arith))))
    (λ z. rw z (omega arith, omega arith))

-- C and N of every text, refused or not, are within their limits
pub told_within : (t : List ℕ) → ((scan_recording t).controllers ≤ max_controllers) × ((scan_recording t).count ≤ max_states)
unfolding scan_recording scan_opening
told_within t =
    on_next_lem Within (recording_heading_line t) _ _
    (λ number e. (omega arith, omega arith))
    (λ h rest e.
    let g = headed t (heading_of h) (read_told heading_of (recording_heading_line t) h rest e) in
    masked_within h.first h.second (scan_masks h.first [] rest) g.few g.short)

-- ---- a reading that stops at a line
-- a refused recording text, by its refusal, its line, and C and N as the definition has them: the rest follows
pub refused_of : (t : List ℕ) (cut : CutShort RecordingHeading) → number_of cut.stop.refusal ≡ (scan_recording t).number
    → cut.read.controllers ≡ (scan_recording t).controllers → cut.read.count ≡ (scan_recording t).count → cut.stop.at ≤ length t
    → drop cut.stop.at t ≡ (scan_recording t).rest → RecordingRefused t cut
refused_of t cut n c k i r =
    let w = told_within t in
    record {
      number = n;
      controllers = c;
      count = k;
      place = omega (arith, ap length r, length-drop cut.stop.at t, i);
      inside = i;
      rest = r;
      not_lent = λ q. (recording_of_text_lem t).not_lent (sym n ∙ q);
      few = omega (arith, c, w.0);
      short = omega (arith, k, w.1);
    }

module _ (text : List ℕ) (s : Stop) (inside : s.at ≤ length text) where
  stopped : (h : RecordingHeading) (masks states : List ℕ)
      → scan_recording text ≡ record { number = number_of s.refusal; controllers = h.controllers; count = h.count; masks = masks; states = states; rest = drop s.at text }
      → RecordingRefused text (record { read = h; stop = s })
  stopped h masks states e =
      refused_of text (record { read = h; stop = s }) (sym (ap (λ (q : RecordingScan). q.number) e)) (sym (ap (λ (q : RecordingScan). q.controllers) e))
      (sym (ap (λ (q : RecordingScan). q.count) e)) inside (sym (ap (λ (q : RecordingScan). q.rest) e))

  -- before the states
  stopped_early : (masks states masks' : List ℕ) → scan_recording text ≡ recording_stop (number_of s.refusal) (drop s.at text) → drop max_controllers masks' ≡ drop max_controllers masks
      → RecordingScanned text masks states (Err (unread s)) masks' states
  stopped_early masks states masks' e past =
      record {
        ended = stopped (record { controllers = 0; count = 0 }) [] [] e;
        masks_past = past;
        states_laid = ap (λ (q : RecordingScan). laid q.states states) (sym e);
        states_past = refl;
      }

-- ---- `scan_recording`
module _ (text masks states : List ℕ) (l : Line) (is : FirstLine text l) where
  -- `scan_recording`, the first line is refused: `scan_recording` stops there with its refusal
  pub recording_unheaded : (r : Refusal) → Err (number_of r) ≡ next_told heading_of (recording_heading_line text) → RecordingScanned text masks states (Err (unread (record { refusal = r; at = 0 }))) masks states
  recording_unheaded r h =
      let e = recording_stop_lem text (number_of r) (told_refused heading_of (recording_heading_line text) r h) in
      stopped_early text (record { refusal = r; at = 0 }) (omega arith) masks states masks e refl

  module _ (h : RecordingHeading) (e : Ok h ≡ next_told heading_of (recording_heading_line text)) (room : Room masks states) where
    limits : Headed text h
    limits = headed text h e

    pub mask_room : MaskRoom h.controllers l.next text masks
    mask_room = record { few = limits.few; inside = is.inside; room = room.masks_room }

    abbrev owned : Scan
    owned = scan_masks h.controllers [] (drop l.next text)

    counted : Counted h.controllers owned
    counted = masks_counted h.controllers [] (drop l.next text)

    scan_is : scan_recording text ≡ opening_masks gauged_after_masks h.controllers h.count owned
    scan_is =
        recording_step text (heading h.controllers h.count) (rest_of text) limits.is
        ∙ ap (λ (u : List ℕ). opening_masks gauged_after_masks h.controllers h.count (scan_masks h.controllers [] u)) (sym is.rest)

    past : (masks' : List ℕ) → masks' ≡ laid owned.words masks → drop max_controllers masks' ≡ drop max_controllers masks
    past masks' x = laid_past max_controllers owned.words masks masks' (omega (arith, counted.most, limits.few)) x

    -- `scan_recording`, a mask line is refused: `scan_recording` stops at that line
    pub recording_unmasked : (s : Stop) (masks' : List ℕ) → LinesScanned owned text masks (Err s) masks' → RecordingScanned text masks states (Err (unread s)) masks' states
    recording_unmasked s masks' m =
        let z : owned.number ≡ 0 → ⊥ = λ q. number_some s.refusal (m.number ∙ q) in
        stopped_early text s m.inside masks states masks' (rw (m.number, m.rest) (scan_is ∙ masks_denied h.controllers h.count owned z)) (past masks' m.words)

    module _ (at : ℕ) (masks' : List ℕ) (m : LinesScanned owned text masks (Ok at) masks') where
      all_masks : length owned.words ≡ h.controllers
      all_masks = counted.all (sym m.number)

      taken : take h.controllers masks' ≡ owned.words
      taken = rw m.words (take_at owned.words (drop (length owned.words) masks) h.controllers all_masks)

      abbrev gauged : GaugeScan
      gauged = scan_gauges max_gauges [] (drop at text)

      after_is : scan_recording text ≡ after_gauges h.controllers h.count (take h.controllers masks') gauged
      after_is = scan_is ∙ (masks_read h.controllers h.count owned (sym m.number) ∙ rw (taken, m.rest))

      -- `scan_recording`, a gauge line is refused: `scan_recording` stops at that line
      pub recording_ungauged : (s : Stop) → number_of s.refusal ≡ gauged.number → s.at ≤ length text → drop s.at text ≡ gauged.rest
          → RecordingScanned text masks states (Err (unread s)) masks' states
      recording_ungauged s n i r =
          let z : gauged.number ≡ 0 → ⊥ = λ q. number_some s.refusal (n ∙ q) in
          stopped_early text s i masks states masks' (rw (n, r) (after_is ∙ gauges_denied h.controllers h.count (take h.controllers masks') gauged z)) (past masks' m.words)

      module _ (g : Gauges) (gs : GaugesScanned gauged text (Ok g)) where
        pub state_room : RestRoom h g.at text states
        state_room = record { few = limits.few; short = limits.short; inside = gs.inside; room = room.states_room }

        abbrev timed : Scan
        timed = scan_states h.controllers masks' (gauges_in g) h.count 0 0 (drop g.at text)

        states_few : Counted h.count timed
        states_few = states_counted h.controllers masks' (gauges_in g) h.count 0 0 (drop g.at text)

        whole : scan_recording text ≡ recording_states h.controllers h.count (take h.controllers masks') timed
        whole =
            after_is
            ∙ (gauges_read h.controllers h.count (take h.controllers masks') gauged (sym gs.number)
            ∙ ap (recording_states h.controllers h.count (take h.controllers masks')) (rw (← gs.gauges, ← gs.rest) (sym (scan_own h.controllers masks' (gauges_in g) h.count 0 0 (drop g.at text)))))

        states_past : (states' : List ℕ) → states' ≡ laid timed.words states → drop max_states states' ≡ drop max_states states
        states_past states' x = laid_past max_states timed.words states states' (omega (arith, states_few.most, limits.short)) x

        states_are : timed.words ≡ (scan_recording text).states
        states_are = sym (ap (λ (q : RecordingScan). q.states) whole)

        -- `scan_recording`, a state line is refused: `scan_recording` stops at that line, after C and N
        pub recording_unstated : (s : Stop) (states' : List ℕ) → LinesScanned timed text states (Err s) states' → RecordingScanned text masks states (Err (record { read = h; stop = s })) masks' states'
        recording_unstated s states' t =
            record {
              ended = stopped text s t.inside h (take h.controllers masks') timed.words (rw (t.number, t.rest) whole);
              masks_past = past masks' m.words;
              states_laid = t.words ∙ ap (λ (w : List ℕ). laid w states) states_are;
              states_past = states_past states' t.words;
            }

        masks_are : (scan_recording text).masks ≡ owned.words
        masks_are = ap (λ (q : RecordingScan). q.masks) whole ∙ taken

        -- `scan_recording`, all lines are read: `scan_recording` is C and N, as many masks and as many states
        pub recording_scanned : (end : ℕ) (states' : List ℕ) → LinesScanned timed text states (Ok end) states' → RecordingScanned text masks states (Ok h) masks' states'
        recording_scanned end states' t =
            record {
              ended = record {
                number = t.number ∙ sym (ap (λ (q : RecordingScan). q.number) whole);
                controllers = sym (ap (λ (q : RecordingScan). q.controllers) whole);
                count = sym (ap (λ (q : RecordingScan). q.count) whole);
                few = limits.few;
                short = limits.short;
                masks_laid = m.words ∙ ap (λ (w : List ℕ). laid w masks) (sym masks_are);
                masks_count = ap length masks_are ∙ all_masks;
                states_count = ap length (sym states_are) ∙ states_few.all (sym t.number);
              };
              masks_past = past masks' m.words;
              states_laid = t.words ∙ ap (λ (w : List ℕ). laid w states) states_are;
              states_past = states_past states' t.words;
            }
