-- The lines that a session opens on (`next_session`, `scan_session`): a law for each return.
use mathlib.Core.Path.{◌≡◌, sym, ap, ◌∙◌}
use Prim.Native.Nat.{ℕ, ◌≤◌}
use native.Mathlib.Omega.{arith}
use mathlib.Core.List.{List, []}
use lib.ListN.{length, take, drop}
use lib.Seq.{take_at}
use borrow.Author.Rules.{rules}
use Rattle.std.specs.Prelude.{Option, Ok, Err}
use Rattle.std.specs.Option.{ok_or}
use Rattle.definitions.specs.Limits.{accepted, max_controllers, recording_form, recording_lines}
use Rattle.definitions.specs.Lines.{line_length, line_of, decimal, worded, on_next}
use Rattle.definitions.specs.RecordingText.{scan_masks}
use Rattle.definitions.specs.Sessions.{controllers_refusal}
use Rattle.definitions.specs.Watching.{session_word, session_form, session_line, SessionScan, session_stop, session_masks, scan_session}
use Rattle.fields.specs.Fields.{cap, capped}
use Rattle.fields.proofs.FieldLaws.{cap_within_limits, cap_exact, taken_none, Read, capped_read}
use Rattle.lines.specs.Reading.{FirstLine, LinesScanned, end_refusal}
use Rattle.lines.specs.Told.{next_told}
use Rattle.lines.specs.declared.Line.{Line}
use Rattle.lines.specs.declared.Stop.{Stop}
use Rattle.lines.proofs.NextLaws.{line_part, line_part_laws}
use Rattle.lines.proofs.ToldLaws.{told_unread, told_malformed, told_denied, told_read, told_refused, NextRead, told_back, some_given, none_given}
use Rattle.lines.proofs.StopLaws.{StopTold, at_stop}
use Rattle.recording_reader.specs.Scanning.{MaskRoom}
use Rattle.recording_reader.proofs.ScanLaws.{masks_counted}
use Rattle.rules.specs.Refusals.{number_of}
use Rattle.rules.specs.declared.refusal.Refusal.{Refusal}
use Rattle.rules.specs.declared.refusal.Refusal.TheVariants.{RecordingForm}
use Rattle.sessions.proofs.ArrivalLaws.{controllers_few}
use Rattle.watch_opening.specs.Openings.{SessionRead, SessionStopped}

-- ---- `next_session`
abbrev same : ℕ → ℕ
same C = C

cap_controllers : (C : ℕ) → controllers_refusal (cap C) ≡ controllers_refusal C
unfolding controllers_refusal
cap_controllers C = rw (cap_within_limits 1 max_controllers C (omega arith) (omega arith))

module _ (t : List ℕ) where
  -- `next_session`, no line, or one that is not closed: `session_line` has that refusal
  pub session_unread : (e : Refusal) → number_of e ≡ end_refusal recording_lines recording_form t → Err (number_of e) ≡ next_told same (session_line t)
  session_unread e h = told_unread same recording_lines recording_form session_form controllers_refusal t e h

  module _ (there : accepted ≡ end_refusal recording_lines recording_form t) (len : ℕ) (is : len ≡ line_length t) (r : Option ℕ) (rs : r ≡ capped (worded session_word decimal (take len t))) where
    form_is : r ≡ capped (session_form (line_of t))
    unfolding session_form
    form_is = rw (line_part t len is) at rs

    -- `next_session`, another form: `session_line` is refused by its form
    pub session_malformed : (e : Refusal) → Err e ≡ ok_or r RecordingForm → Err (number_of e) ≡ next_told same (session_line t)
    session_malformed e h =
        let q = none_given r RecordingForm e h in
        rw q.1
        (told_malformed same recording_lines recording_form session_form controllers_refusal t (omega arith) (omega arith) there
        (taken_none cap (session_form (line_of t)) (sym q.0 ∙ form_is)))

    module _ (C : ℕ) (x : Ok C ≡ ok_or r RecordingForm) where
      one : Read (session_form (line_of t)) C
      one = capped_read (session_form (line_of t)) C (sym (some_given r RecordingForm C x) ∙ form_is)

      checked : controllers_refusal C ≡ controllers_refusal one.number
      checked = ap controllers_refusal one.answered ∙ cap_controllers one.number

      -- `next_session`, C outside its limits: `session_line` has that refusal
      pub session_denied : (e : Refusal) → number_of e ≡ controllers_refusal C → Err (number_of e) ≡ next_told same (session_line t)
      session_denied e h =
          told_denied same recording_lines recording_form session_form controllers_refusal t (omega arith) (omega arith) there one.number one.is e (h ∙ checked)

      -- `next_session`, accepted: `session_line` is C
      pub session_read : accepted ≡ controllers_refusal C → Ok C ≡ next_told same (session_line t)
      session_read h =
          let few : C ≤ max_controllers = controllers_few C h in
          told_read same recording_lines recording_form session_form controllers_refusal t (omega arith) (omega arith) there one.number one.is (h ∙ checked) C
          (one.answered ∙ cap_exact one.number (omega (arith, one.answered)))

pub ruleset session_laws = (line_part_laws, session_unread, session_malformed, session_denied, session_read)

-- ---- `scan_session`
module _ (text : List ℕ) where
  -- `scan_session`, the `session` line is refused: `scan_session` stops there
  pub scan_denied : (stop : Stop) → StopTold (next_told same (session_line text)) 0 stop → SessionStopped text stop
  unfolding scan_session on_next
  scan_denied stop t =
      let s : scan_session text ≡ session_stop (number_of stop.refusal) text = rw (told_refused same (session_line text) stop.refusal t.refused) in
      at_stop (SessionStopped text) stop 0 t.place
      (record { number = sym (ap (λ (q : SessionScan). q.number) s); inside = omega arith; rest = sym (ap (λ (q : SessionScan). q.rest) s) })

  module _ (C : ℕ) (h : Ok C ≡ next_told same (session_line text)) where
    given : NextRead same recording_lines recording_form session_form controllers_refusal text C
    given = told_back same recording_lines recording_form session_form controllers_refusal text C h

    few : C ≤ max_controllers
    few = controllers_few C (sym (rw given.gives at given.fine))

    module _ (l : Line) (is : FirstLine text l) where
      scan_is : scan_session text ≡ session_masks C (scan_masks C [] (drop l.next text))
      unfolding scan_session on_next
      scan_is = rw (given.is, given.gives, ← is.rest)

      pub scan_room : (owned : List ℕ) → max_controllers ≤ length owned → MaskRoom C l.next text owned
      scan_room owned room = record { few = few; inside = is.inside; room = room }

      module _ (owned owned' : List ℕ) where
        -- `scan_session`, an `owns` line is refused: `scan_session` stops there
        pub scan_stopped : (stop : Stop) → LinesScanned (scan_masks C [] (drop l.next text)) text owned (Err stop) owned' → SessionStopped text stop
        scan_stopped stop s = record {
          number = s.number ∙ sym (ap (λ (q : SessionScan). q.number) scan_is);
          inside = s.inside;
          rest = s.rest ∙ sym (ap (λ (q : SessionScan). q.rest) scan_is);
        }

        -- `scan_session`, the `owns` lines are accepted: `scan_session` has their masks
        pub scan_read : (at : ℕ) → LinesScanned (scan_masks C [] (drop l.next text)) text owned (Ok at) owned' → SessionRead text C owned'
        scan_read at s =
            let words = (scan_masks C [] (drop l.next text)).words in
            let all : length words ≡ C = (masks_counted C [] (drop l.next text)).all (sym s.number) in
            record {
              number = s.number ∙ sym (ap (λ (q : SessionScan). q.number) scan_is);
              controllers = sym (ap (λ (q : SessionScan). q.controllers) scan_is);
              few = few;
              masks = rw s.words (take_at words (drop (length words) owned) C all) ∙ sym (ap (λ (q : SessionScan). q.masks) scan_is);
            }

pub ruleset scan_laws = (rules, scan_denied, scan_room, scan_stopped, scan_read)
