-- "texts without gauges": where no gauge line follows the `owns` lines, a recording text is read as it was before gauges.
use mathlib.Core.Path.{◌≡◌, refl, ap, ◌∙◌}
use Prim.Native.Nat.{ℕ, zero, suc, ◌+◌, ◌*◌, ◌^◌, ◌<◌}
use mathlib.Core.List.{List, [], ◌∷◌}
use mathlib.Core.Bool.{Bool, true, false, ◌&&◌}
use lib.ListN.{length}
use lib.Dec.{eqb, ltb, leb}
use native.Mathlib.Omega.{arith}
use borrow.Author.Tests.{eqb-true, ltb-true, lt-ltb}
use Rattle.definitions.specs.Bounded.{pick}
use Rattle.definitions.specs.Limits.{accepted, recording_form, recording_lines}
use Rattle.definitions.specs.Recordings.{state_of, marks_of, state_refusal}
use Rattle.definitions.specs.Lines.{tab, before, has, up_to, after, is_empty, is_closed, line_of, rest_of, Parsed, formed, malformed, on_parsed, hex_digit, hex_on, hexadecimal, Heading, two_fields, worded, same, NextLine, refused, read, on_next, next_line, Scan, stop, more}
use Rattle.definitions.specs.Gauges.{no_gauges, values_after, any_outside, any_set, finished, finished_from}
use Rattle.definitions.specs.RecordingText.{at_word, word_digits, mark_digits, state_form, Measured, word_and_values, measured_fields, at_form, finished_state, at_refusal, at_line, is_gauge, scan_gauges, scan_masks, scan_states, RecordingScan, recording_states, recording_heading_line, after_masks, gauged_after_masks, scan_opening, scan_recording, scan_plain}
use Rattle.theorems.proofs.Choice.{by_test}
use Rattle.theorems.proofs.SplitLaws.{all_front, before_later}
use Rattle.theorems.proofs.NextLines.{by_next}

-- ---- a tab is no hexadecimal digit
tab_here : (x : ℕ) (t : List ℕ) → eqb x tab ≡ false → has tab (x ∷ t) ≡ true → has tab t ≡ true
tab_here x t e h =
    let l : before tab (x ∷ t) < suc (length t) = ltb-true (before tab (x ∷ t)) (suc (length t)) h in
    lt-ltb (before tab t) (length t) (omega (arith, before_later tab x t e))

hex_tab : (s : List ℕ) (v : ℕ) → has tab s ≡ true → hex_on v s ≡ malformed
unfolding hex_on hex_digit before pick
hex_tab [] v h = absurd (omega (arith, ltb-true 0 0 h))
hex_tab (x ∷ t) v h =
    by_test (eqb x tab)
    (λ e. rw (eqb-true x tab e))
    (λ e. by_test (ltb (hex_digit x) 16) (λ d. rw d (hex_tab t (v * 16 + hex_digit x) (tab_here x t e h))) (λ d. rw d))

hexadecimal_tab : (width : ℕ) (s : List ℕ) → has tab s ≡ true → hexadecimal width s ≡ malformed
unfolding hexadecimal pick
hexadecimal_tab width s h = by_test (eqb (length s) width) (λ e. rw (e, hex_tab s 0 h)) (λ e. rw e)

-- ---- the form of a line
-- a state without values
unfoldable pub alone : Parsed ℕ → Parsed Measured
alone p = on_parsed p malformed (λ x. formed (record { state = x; values = [] }))

made_alone : (m : ℕ) (p : Parsed ℕ) → on_parsed p malformed (λ w. formed (record { state = state_of m w; values = [] })) ≡ alone (on_parsed p malformed (λ w. formed (state_of m w)))
unfolding alone on_parsed
made_alone m (formed w) = refl
made_alone m malformed = refl

never_made : (p : Parsed ℕ) → on_parsed {B = Parsed Measured} p malformed (λ w. malformed) ≡ malformed
unfolding on_parsed
never_made (formed w) = refl
never_made malformed = refl

word_alone : (m : ℕ) (v : List ℕ) → word_and_values 0 m v ≡ alone (on_parsed (hexadecimal word_digits v) malformed (λ w. formed (state_of m w)))
unfolding word_and_values values_after on_parsed alone pick
word_alone m v =
    by_test (has tab v)
    (λ e. rw (e, hexadecimal_tab word_digits v e) (never_made (hexadecimal word_digits (up_to tab v))))
    (λ e. rw (e, all_front tab v e) (made_alone m (hexadecimal word_digits v)))

marks_alone : (p : Parsed ℕ) (v : List ℕ) → on_parsed p malformed (λ m. word_and_values 0 m v)
    ≡ alone (on_parsed p malformed (λ m. on_parsed (hexadecimal word_digits v) malformed (λ w. formed (state_of m w))))
unfolding on_parsed alone
marks_alone (formed m) v = word_alone m v
marks_alone malformed v = refl

fields_alone : (digits : ℕ) (s : List ℕ) → measured_fields digits 0 s ≡ alone (two_fields (hexadecimal digits) (hexadecimal word_digits) state_of s)
unfolding measured_fields two_fields alone on_parsed pick
fields_alone digits s = by_test (has tab s) (λ e. rw e (marks_alone (hexadecimal digits (up_to tab s)) (after tab s))) (λ e. rw e)

pub form_alone : (C : ℕ) (s : List ℕ) → at_form C 0 s ≡ alone (state_form C s)
unfolding at_form state_form worded alone on_parsed pick
form_alone C s = by_test (same (up_to tab s) at_word && has tab s) (λ e. rw e (fields_alone (mark_digits C) (after tab s))) (λ e. rw e)

-- ---- its refusal and its state
-- a state without values
abbrev pub state_alone : ℕ → Measured
state_alone s = record { state = s; values = [] }

pub state_alone_lem : (s : ℕ) → finished_state no_gauges (state_alone s) ≡ s
unfolding finished_state finished finished_from
state_alone_lem s = omega arith

module _ (C : ℕ) (masks : List ℕ) (k prior : ℕ) where
  pub refusal_alone : (s : ℕ) → at_refusal C masks no_gauges k prior (state_alone s) ≡ state_refusal C masks k prior s
  unfolding at_refusal any_outside any_set state_refusal pick
  refusal_alone s = by_test (leb (2 ^ C) (marks_of s)) (λ e. rw e) (λ e. rw (e, state_alone_lem s, e))

  -- by the cases of the line, with its state for what was measured
  abbrev pub alone_next : NextLine ℕ → NextLine Measured
  alone_next n = on_next n refused (λ s rest. read (state_alone s) rest)

  alone_cases : (none closed : Bool) (q : Parsed ℕ) (rest : List ℕ)
      → pick none (refused recording_lines) (pick closed (on_parsed (alone q) (refused recording_form)
      (λ m. pick (eqb (at_refusal C masks no_gauges k prior m) accepted) (read m rest) (refused (at_refusal C masks no_gauges k prior m)))) (refused recording_form))
      ≡ alone_next (pick none (refused recording_lines) (pick closed (on_parsed q (refused recording_form)
      (λ s. pick (eqb (state_refusal C masks k prior s) accepted) (read s rest) (refused (state_refusal C masks k prior s)))) (refused recording_form)))
  unfolding pick on_parsed on_next alone
  alone_cases true closed q rest = refl
  alone_cases false false q rest = refl
  alone_cases false true malformed rest = refl
  alone_cases false true (formed s) rest = rw (refusal_alone s) (by_test (eqb (state_refusal C masks k prior s) accepted) (λ z. rw z) (λ z. rw z))

  -- an `at` line without gauges is `at`, run marks, word
  pub line_alone : (t : List ℕ) → at_line C masks no_gauges k prior t ≡ alone_next (next_line recording_lines recording_form (state_form C) (state_refusal C masks k prior) t)
  unfolding next_line
  line_alone t = rw (form_alone C (line_of t)) (alone_cases (is_empty t) (is_closed t) (state_form C (line_of t)) (rest_of t))

-- ---- the `at` lines
-- by the cases of a line without gauges
pub on_alone : {B : Type 0} (n : NextLine ℕ) (stops : ℕ → B) (goes : Measured → List ℕ → B) (goes' : ℕ → List ℕ → B)
    → ((s : ℕ) (rest : List ℕ) → goes (state_alone s) rest ≡ goes' s rest) → on_next (on_next n refused (λ s rest. read (state_alone s) rest)) stops goes ≡ on_next n stops goes'
unfolding on_next
on_alone (refused number) stops goes goes' h = refl
on_alone (read s rest) stops goes goes' h = h s rest

-- so many `at` lines as they were read before gauges
unfoldable pub states_before : (C : ℕ) (masks : List ℕ) (lines k prior : ℕ) → List ℕ → Scan
states_before C masks zero k prior t = stop (pick (is_empty t) accepted recording_lines) t
states_before C masks (suc lines) k prior t =
    on_next (next_line recording_lines recording_form (state_form C) (state_refusal C masks k prior) t) (λ number. stop number t)
    (λ s rest. more s (states_before C masks lines (k + 1) s rest))

pub scan_alone : (C : ℕ) (masks : List ℕ) (lines k prior : ℕ) (t : List ℕ) → scan_states C masks no_gauges lines k prior t ≡ states_before C masks lines k prior t
unfolding scan_states states_before
scan_alone C masks zero k prior t = refl
scan_alone C masks (suc lines) k prior t =
    ap (λ (n : NextLine Measured). on_next n (λ number. stop number t)
    (λ m rest. more (finished_state no_gauges m) (scan_states C masks no_gauges lines (k + 1) (finished_state no_gauges m) rest))) (line_alone C masks k prior t)
    ∙ on_alone (next_line recording_lines recording_form (state_form C) (state_refusal C masks k prior) t) (λ number. stop number t) _
    (λ s rest. more s (states_before C masks lines (k + 1) s rest))
    (λ s rest. rw (state_alone_lem s) (ap (more s) (scan_alone C masks lines (k + 1) s rest)))

-- ---- the text
-- what follows the `owns` lines, as it was read before gauges
unfoldable pub after_before : (C N : ℕ) (masks t : List ℕ) → RecordingScan
after_before C N masks t = recording_states C N masks (states_before C masks N 0 0 t)

pub plain_before : (C N : ℕ) (masks t : List ℕ) → after_masks C N masks t ≡ after_before C N masks t
unfolding after_masks after_before
plain_before C N masks t = rw (scan_alone C masks N 0 0 t)

gauged_plain : (C N : ℕ) (masks t : List ℕ) → is_gauge t ≡ false → gauged_after_masks C N masks t ≡ after_masks C N masks t
unfolding gauged_after_masks after_masks scan_gauges pick
gauged_plain C N masks t h = rw h

-- readings that go on alike after the `owns` lines
opening_by : (next next' : (C N : ℕ) (masks t : List ℕ) → RecordingScan) (t : List ℕ)
    → ((h : Heading) (rest : List ℕ) → recording_heading_line t ≡ read h rest → (m : Scan) → m ≡ scan_masks h.first [] rest
    → next h.first h.second m.words m.rest ≡ next' h.first h.second m.words m.rest) → scan_opening next t ≡ scan_opening next' t
unfolding scan_opening on_next
opening_by next next' t f =
    by_next (recording_heading_line t) (λ k e. rw e) (λ h rest e. rw (e, f h rest e (scan_masks h.first [] rest) refl))

-- reading a recording text without gauges is reading it as before them
pub plain_text_before : (t : List ℕ) → scan_plain t ≡ scan_opening after_before t
unfolding scan_plain
plain_text_before t = opening_by after_masks after_before t (λ h rest e m q. plain_before h.first h.second m.words m.rest)

-- no gauge line follows the `owns` lines
abbrev pub WithoutGauges : List ℕ → Type 0
WithoutGauges t = (h : Heading) (rest : List ℕ) → recording_heading_line t ≡ read h rest → is_gauge (scan_masks h.first [] rest).rest ≡ false

-- the reading of a text without gauges, and the same with the definitions of the time before gauges
pub record AsBefore (t : List ℕ) : Type 0 where
  pub plain : scan_recording t ≡ scan_plain t
  pub before : scan_recording t ≡ scan_opening after_before t

pub texts_without_gauges_as_before : (t : List ℕ) → WithoutGauges t → AsBefore t
unfolding scan_recording scan_plain
texts_without_gauges_as_before t w =
    let p = opening_by gauged_after_masks after_masks t
    (λ h rest e m q. gauged_plain h.first h.second m.words m.rest (ap (λ (s : Scan). is_gauge s.rest) q ∙ w h rest e)) in
    record { plain = p; before = p ∙ plain_text_before t }
