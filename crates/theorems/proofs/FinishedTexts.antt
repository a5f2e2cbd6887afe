-- "The output rule is tested after that, so local traces compare the finished bits" (document 02, gauges): a text with gauges answers what the text with
-- the finished words and without gauges answers, and leaves the same in lent space.
use mathlib.Core.Path.{◌≡◌, refl, ap, ◌∙◌}
use Prim.Native.Nat.{ℕ, zero, suc, ◌+◌, ◌*◌, ◌/◌, ◌^◌, ◌<◌}
use native.Mathlib.Omega.{arith}
use native.Mathlib.Decide.{dec_lt}
use mathlib.Core.Bool.{true, false}
use mathlib.Core.List.{List, [], ◌∷◌}
use lib.ListN.{length, get_or, get_or-eq_default}
use lib.Dec.{eqb, leb}
use borrow.Author.Tests.{eqb-true, eqb-false}
use Rattle.definitions.specs.Bounded.{pick}
use Rattle.definitions.specs.Limits.{max_gauges, recording_form, recording_lines}
use Rattle.definitions.specs.Recordings.{marks_of, atoms_of, state_refusal}
use Rattle.definitions.specs.Lines.{is_closed, line_of, rest_of, formed, on_parsed, heading, read, on_next, Scan}
use Rattle.definitions.specs.Gauges.{Gauges, no_gauges, any_outside, any_set, finished}
use Rattle.definitions.specs.RecordingText.{state_form, Measured, at_form, finished_state, at_refusal, recording_heading_line, is_gauge, GaugeScan, scan_masks, scan_gauges, scan_states, RecordingScan, recording_stop, recording_states, gauged_after_masks, scan_opening, scan_recording}
use Rattle.definitions.specs.Operations.{read_recording_number, read_recording_answer, read_recording_masks, read_recording_states}
use Rattle.theorems.proofs.Choice.{by_test}
use Rattle.theorems.proofs.Inversions.{passes}
use Rattle.theorems.proofs.NextLines.{next_read, next_denied}
use Rattle.theorems.proofs.FinishedWords.{finished_small}
use Rattle.theorems.proofs.GaugeLines.{fresh, fresh_below, scan_fresh}
use Rattle.theorems.proofs.WithoutGauges.{alone, state_alone, form_alone, state_alone_lem, refusal_alone}

-- the next line of t ends with values, in their limits, for gauges whose bits are 0; that of u has the finished word in its place
pub record FinishedLine (C : ℕ) (g : Gauges) (t u : List ℕ) : Type 0 where
  pub measured : Measured
  pub closed : is_closed t ≡ true
  pub reads : at_form C (length g.atoms) (line_of t) ≡ formed measured
  pub inside : any_outside measured.values ≡ false
  pub unset : any_set g.atoms (atoms_of measured.state) ≡ false
  pub closed_too : is_closed u ≡ true
  pub finishes : state_form C (line_of u) ≡ formed (finished_state g measured)

-- so many such lines, and then the same
abbrev pub FinishedLines : (C : ℕ) (g : Gauges) (lines : ℕ) (t u : List ℕ) → Type 0
FinishedLines C g zero t u = t ≡ u
FinishedLines C g (suc lines) t u = FinishedLine C g t u × FinishedLines C g lines (rest_of t) (rest_of u)

-- u is t without its gauge lines and with the finished words
pub record FinishedText (t u : List ℕ) : Type 0 where
  pub controllers : ℕ
  pub count : ℕ
  pub headed : recording_heading_line t ≡ read (heading controllers count) (rest_of t)
  pub headed_too : recording_heading_line u ≡ read (heading controllers count) (rest_of u)
  pub owned : (scan_masks controllers [] (rest_of t)).number ≡ 0
  pub owned_too : (scan_masks controllers [] (rest_of u)).number ≡ 0
  pub masks : (scan_masks controllers [] (rest_of t)).words ≡ (scan_masks controllers [] (rest_of u)).words
  pub gauged : (scan_gauges max_gauges [] (scan_masks controllers [] (rest_of t)).rest).number ≡ 0
  pub ungauged : is_gauge (scan_masks controllers [] (rest_of u)).rest ≡ false
  pub lines : FinishedLines controllers (scan_gauges max_gauges [] (scan_masks controllers [] (rest_of t)).rest).gauges count
      (scan_gauges max_gauges [] (scan_masks controllers [] (rest_of t)).rest).rest (scan_masks controllers [] (rest_of u)).rest

-- ---- one line
-- the atoms of gauges are below 32, and so is what is read where there is none
atoms_below : (atoms : List ℕ) → fresh [] atoms ≡ true → (j : ℕ) → get_or atoms j 0 < 32
atoms_below atoms f j = go (dec_lt j (length atoms))
  where
    go : Dec (j < length atoms) → get_or atoms j 0 < 32
    go (yes h) = fresh_below atoms [] f j h
    go (no h) = rw (get_or-eq_default atoms 0 {n = j} (omega arith)) (omega arith)

module _ (C : ℕ) (masks : List ℕ) (g : Gauges) (below : (j : ℕ) → get_or g.atoms j 0 < 32) (k prior : ℕ) where
  marks_stay : (m : Measured) → marks_of (finished_state g m) ≡ marks_of m.state
  unfolding finished_state
  marks_stay m =
      let w = finished g.atoms g.thresholds m.values (atoms_of m.state) in
      let h = finished_small g.atoms g.thresholds m.values (atoms_of m.state) below (omega arith) in
      kept (marks_of m.state) w h
    where
      kept : (marks w : ℕ) → w < 2 ^ 32 → (marks * 2 ^ 32 + w) / 2 ^ 32 ≡ marks
      kept marks w h = omega arith

  -- the refusal of such a line is that of the finished state
  refusal_finished : (m : Measured) → any_outside m.values ≡ false → any_set g.atoms (atoms_of m.state) ≡ false
      → at_refusal C masks g k prior m ≡ state_refusal C masks k prior (finished_state g m)
  unfolding at_refusal state_refusal pick
  refusal_finished m o s = by_test (leb (2 ^ C) (marks_of m.state)) (λ z. rw (z, marks_stay m, z)) (λ z. rw (z, o, s))

-- ---- the lines
-- the same refusal or 0, and the same states
record SameStates (a b : Scan) : Type 0 where
  number : a.number ≡ b.number
  words : a.words ≡ b.words

module _ (C : ℕ) (masks : List ℕ) (g : Gauges) (below : (j : ℕ) → get_or g.atoms j 0 < 32) where
  finished_states : (lines k prior : ℕ) (t u : List ℕ) → FinishedLines C g lines t u
      → SameStates (scan_states C masks g lines k prior t) (scan_states C masks no_gauges lines k prior u)
  unfolding scan_states on_next alone on_parsed
  finished_states zero k prior t u e = record { number = rw e; words = refl }
  finished_states (suc lines) k prior t u f =
      let l = f.0 in
      let m = l.measured in
      let s = finished_state g m in
      let form : at_form C 0 (line_of u) ≡ formed (state_alone s) = form_alone C (line_of u) ∙ rw l.finishes in
      let r = state_refusal C masks k prior s in
      let a : at_refusal C masks g k prior m ≡ r = refusal_finished C masks g below k prior m l.inside l.unset in
      let b : at_refusal C masks no_gauges k prior (state_alone s) ≡ r = refusal_alone C masks k prior s in
      by_test (eqb r 0)
      (λ y. let z = eqb-true r 0 y in
      let p = next_read recording_lines recording_form (at_form C (length g.atoms)) (at_refusal C masks g k prior) t l.closed m l.reads (a ∙ z) in
      let q = next_read recording_lines recording_form (at_form C 0) (at_refusal C masks no_gauges k prior) u l.closed_too (state_alone s) form (b ∙ z) in
      let i = finished_states lines (k + 1) s (rest_of t) (rest_of u) f.1 in
      rw (p, q, state_alone_lem s) (record { number = i.number; words = ap (λ (w : List ℕ). s ∷ w) i.words }))
      (λ y. let z = eqb-false r 0 y in
      let p = next_denied recording_lines recording_form (at_form C (length g.atoms)) (at_refusal C masks g k prior) t l.closed m l.reads r a z in
      let q = next_denied recording_lines recording_form (at_form C 0) (at_refusal C masks no_gauges k prior) u l.closed_too (state_alone s) form r b z in
      rw (p, q) (record { number = refl; words = refl }))

-- ---- the texts
-- the same number, C, N, masks and states
pub record SameReading (a b : RecordingScan) : Type 0 where
  pub number : a.number ≡ b.number
  pub controllers : a.controllers ≡ b.controllers
  pub count : a.count ≡ b.count
  pub masks : a.masks ≡ b.masks
  pub states : a.states ≡ b.states

module _ (t u : List ℕ) (f : FinishedText t u) where
  abbrev C : ℕ
  C = f.controllers

  abbrev N : ℕ
  N = f.count

  abbrev m : Scan
  m = scan_masks C [] (rest_of t)

  abbrev o : Scan
  o = scan_masks C [] (rest_of u)

  abbrev g : GaugeScan
  g = scan_gauges max_gauges [] m.rest

  with_gauges : scan_recording t ≡ recording_states C N m.words (scan_states C m.words g.gauges N 0 0 g.rest)
  unfolding scan_recording scan_opening gauged_after_masks on_next
  with_gauges =
      rw f.headed (passes {A = RecordingScan} m.number (gauged_after_masks C N m.words m.rest) (recording_stop m.number m.rest) f.owned
      ∙ passes {A = RecordingScan} g.number (recording_states C N m.words (scan_states C m.words g.gauges N 0 0 g.rest)) (recording_stop g.number g.rest) f.gauged)

  without_gauges : scan_recording u ≡ recording_states C N o.words (scan_states C o.words no_gauges N 0 0 o.rest)
  unfolding scan_recording scan_opening gauged_after_masks scan_gauges on_next pick
  without_gauges = rw (f.headed_too, f.owned_too, f.ungauged)

  pub finished_text_reads_alike : SameReading (scan_recording t) (scan_recording u)
  finished_text_reads_alike =
      let s = finished_states C m.words g.gauges (atoms_below g.gauges.atoms (scan_fresh max_gauges [] m.rest)) N 0 0 g.rest o.rest f.lines in
      let e : scan_recording u ≡ recording_states C N m.words (scan_states C m.words no_gauges N 0 0 o.rest) = rw f.masks without_gauges in
      rw (with_gauges, e) (record { number = s.number; controllers = refl; count = refl; masks = refl; states = s.words })

  -- the whole answer, and all that is left in lent space
  pub record SameAnswer (masks states : List ℕ) : Type 0 where
    pub answered : read_recording_answer t masks states ≡ read_recording_answer u masks states
    pub masks_left : read_recording_masks t masks states ≡ read_recording_masks u masks states
    pub states_left : read_recording_states t masks states ≡ read_recording_states u masks states

  pub finished_text_answers_alike : (masks states : List ℕ) → SameAnswer masks states
  unfolding read_recording_number read_recording_answer read_recording_masks read_recording_states
  finished_text_answers_alike masks states =
      let s = finished_text_reads_alike in
      record { answered = rw (s.number, s.controllers, s.count); masks_left = rw (s.number, s.masks); states_left = rw (s.number, s.states) }
