-- Reading and writing a recording without gauges undo each other.
use mathlib.Core.Path.{◌≡◌, refl, ap, sym, ◌∙◌}
use Prim.Native.Nat.{ℕ, zero, suc, ◌+◌, ◌*◌, ◌/◌, ◌%◌, ◌^◌, ◌<◌, ◌≤◌}
use native.Mathlib.Omega.{arith}
use lib.Pow.{pow_mono}
use mathlib.Core.Bool.{true, ◌&&◌}
use mathlib.Core.List.{List, [], ◌∷◌, ◌++◌}
use lib.ListN.{length}
use lib.Dec.{ltb, leb}
use borrow.Author.Tests.{leb-true, leb-false, ne_eqb, ltb-false}
use Rattle.definitions.specs.Limits.{accepted, recording_form, recording_lines, recording_limits, max_controllers, max_states, two_digit_controllers}
use Rattle.definitions.specs.Bounded.{pick, within}
use Rattle.definitions.specs.Lines.{tab, newline, before, after, is_closed, line_of, rest_of, with_newlines, formed, hexadecimal, two_fields, NextLine, refused, read, on_next, next_line, Scan, stop, more}
use Rattle.definitions.specs.Recordings.{state_of, atoms_of, marks_of, state_refusal, masks_refusal, states_refusal, recording_heading_refusal}
use Rattle.definitions.specs.RecordingText.{at_word, word_digits, mark_digits, state_form, RecordingScan, recording_states, scan_opening, scan_plain}
use Rattle.definitions.specs.RecordingWriting.{hex_text, state_text, states_text, recording_text}
use Rattle.theorems.proofs.Choice.{by_test, pick_true, pick_false, both_true, or_else_none, none_or_else, refuse_no, accept_yes}
use Rattle.theorems.proofs.SplitLaws.{Without}
use Rattle.theorems.proofs.EndingLaws.{Unbroken, with_line}
use Rattle.theorems.proofs.FieldLaws.{worded_back, worded_forth}
use Rattle.theorems.proofs.NextLines.{by_next, next_back, next_forth, next_some}
use Rattle.theorems.proofs.HexLaws.{hex_without}
use Rattle.theorems.proofs.OpeningLaws.{fields_unbroken, unbroken_field, two_hex_back, two_hex_forth, Words, opening_back, opening_forth}
use Rattle.theorems.proofs.WithoutGauges.{states_before, after_before, plain_text_before}

-- a recording that meets no refusal, with as many masks and states as C and N say
pub record Held (C N : ℕ) (masks states : List ℕ) : Type 0 where
  pub heading : recording_heading_refusal C N ≡ accepted
  pub mask_count : length masks ≡ C
  pub mask_fine : masks_refusal [] masks ≡ accepted
  pub mask_words : Words masks
  pub state_count : length states ≡ N
  pub state_fine : states_refusal C masks 0 0 states ≡ accepted

-- the digits of the run marks hold C marks
wide : (C : ℕ) → C ≤ max_controllers → 2 ^ C ≤ 16 ^ mark_digits C
unfolding mark_digits
wide C h =
    by_test (ltb two_digit_controllers C)
    (λ e. rw (pick_true {A = ℕ} (ltb two_digit_controllers C) 3 2 e) (omega (arith, pow_mono {i = C} {j = 11} h)))
    (λ e. rw (pick_false {A = ℕ} (ltb two_digit_controllers C) 3 2 e) (pow_mono {i = C} {j = 8} (ltb-false two_digit_controllers C e)))

-- the limits of an accepted heading
pub heading_limits : (C N : ℕ) → recording_heading_refusal C N ≡ 0 → (C ≤ max_controllers) × (N ≤ max_states)
unfolding recording_heading_refusal
heading_limits C N h =
    let p = both_true (within 1 max_controllers C) (within 1 max_states N) (accept_yes (within 1 max_controllers C && within 1 max_states N) recording_limits (omega arith) h) in
    (leb-true C max_controllers (both_true (leb 1 C) (leb C max_controllers) p.0).1, leb-true N max_states (both_true (leb 1 N) (leb N max_states) p.1).1)

-- "a run mark at C or above" is refused
pub few_marks : (C : ℕ) (masks : List ℕ) (k prior s : ℕ) → state_refusal C masks k prior s ≡ 0 → marks_of s < 2 ^ C
unfolding state_refusal
few_marks C masks k prior s h = leb-false (2 ^ C) (marks_of s) (refuse_no (leb (2 ^ C) (marks_of s)) recording_limits _ (omega arith) h).0

-- ---- a state
at_tab : Without tab at_word
unfolding before pick
at_tab = refl

at_unbroken : Unbroken at_word
unfolding before pick
at_unbroken = record { newlines = refl; returns = refl }

state_text_lem : (C m w : ℕ) → w < 2 ^ 32 → state_text C (state_of m w) ≡ at_word ++ (tab ∷ (hex_text (mark_digits C) m ++ (tab ∷ hex_text word_digits w)))
unfolding state_text
state_text_lem C m w h =
    let p : (m * 4294967296 + w) / 4294967296 ≡ m = omega arith in
    let q : (m * 4294967296 + w) % 4294967296 ≡ w = omega arith in
    rw (p, q)

state_back : (C : ℕ) (l : List ℕ) (s : ℕ) → state_form C l ≡ formed s → state_text C s ≡ l
unfolding state_form
state_back C l s e =
    let w = worded_back at_word (two_fields (hexadecimal (mark_digits C)) (hexadecimal word_digits) state_of) s l e in
    let f = two_hex_back (mark_digits C) word_digits state_of s (after tab l) w.1 in
    rw (← f.made) (state_text_lem C f.first f.second (omega (arith, f.small_second)) ∙ rw f.text w.0)

state_forth : (C : ℕ) → C ≤ max_controllers → (s : ℕ) → marks_of s < 2 ^ C → state_form C (state_text C s) ≡ formed s
unfolding state_form state_text
state_forth C few s h =
    let e : s / 4294967296 * 4294967296 + s % 4294967296 ≡ s = omega arith in
    worded_forth at_word (two_fields (hexadecimal (mark_digits C)) (hexadecimal word_digits) state_of) _ at_tab
    ∙ (two_hex_forth (mark_digits C) word_digits state_of (marks_of s) (atoms_of s) (omega (arith, wide C few)) (omega arith) ∙ ap formed e)

state_unbroken : (C s : ℕ) → Unbroken (state_text C s)
unfolding state_text
state_unbroken C s =
    let a = hex_text (mark_digits C) (marks_of s) in
    let b = hex_text word_digits (atoms_of s) in
    fields_unbroken at_word (a ++ (tab ∷ b)) at_unbroken
    (fields_unbroken a b (unbroken_field a (λ c h. hex_without c (mark_digits C) (marks_of s) h)) (unbroken_field b (λ c h. hex_without c word_digits (atoms_of s) h)))

-- the next line, as the `at` line of state k of a recording without gauges
abbrev state_line : (C : ℕ) (masks : List ℕ) (k prior : ℕ) → List ℕ → NextLine ℕ
state_line C masks k prior t = next_line recording_lines recording_form (state_form C) (state_refusal C masks k prior) t

module _ (C : ℕ) (masks : List ℕ) where
  module _ (lines k prior : ℕ) (t : List ℕ) where
    states_stop : (j : ℕ) → state_line C masks k prior t ≡ refused j → states_before C masks (suc lines) k prior t ≡ stop j t
    unfolding states_before on_next
    states_stop j e = rw e

    states_step : (s : ℕ) (rest : List ℕ) → state_line C masks k prior t ≡ read s rest
        → states_before C masks (suc lines) k prior t ≡ more s (states_before C masks lines (k + 1) s rest)
    unfolding states_before on_next
    states_step s rest e = rw e

  -- what was read of accepted `at` lines
  record StatesRead (lines k prior : ℕ) (t : List ℕ) (s : Scan) : Type 0 where
    count : length s.words ≡ lines
    fine : states_refusal C masks k prior s.words ≡ 0
    text : states_text C s.words ≡ with_newlines t

  no_states : (k prior : ℕ) (t : List ℕ) → (states_before C masks 0 k prior t).number ≡ 0 → StatesRead 0 k prior t (states_before C masks 0 k prior t)
  unfolding states_before states_refusal states_text with_newlines pick
  no_states k prior [] e = record { count = refl; fine = refl; text = refl }
  no_states k prior (x ∷ t) e = absurd (omega (arith, rw (ne_eqb (suc (length t)) 0 (λ q. omega arith)) at e))

  more_states : (lines k prior : ℕ) (t : List ℕ) (w : ℕ) (s : Scan) → is_closed t ≡ true → state_text C w ≡ line_of t → state_refusal C masks k prior w ≡ 0
      → StatesRead lines (k + 1) w (rest_of t) s → StatesRead (suc lines) k prior t (more w s)
  unfolding states_refusal states_text
  more_states lines k prior t w s c b f r = record {
    count = ap suc r.count;
    fine = none_or_else _ _ f r.fine;
    text = rw (b, r.text) (sym (with_line t c));
  }

  states_back : (lines k prior : ℕ) (t : List ℕ) → (states_before C masks lines k prior t).number ≡ 0 → StatesRead lines k prior t (states_before C masks lines k prior t)
  unfolding states_before
  states_back zero k prior t e = no_states k prior t e
  states_back (suc lines) k prior t e =
      let check = state_refusal C masks k prior in
      by_next (state_line C masks k prior t)
      (λ j r.
      let z : j ≡ 0 = rw (states_stop lines k prior t j r) at e in
      absurd (next_some recording_lines recording_form (state_form C) check t (omega arith) (omega arith) j r z))
      (λ w rest r.
      let l = next_back recording_lines recording_form (state_form C) check t w rest r in
      let s = states_step lines k prior t w rest r ∙ ap (λ (u : List ℕ). more w (states_before C masks lines (k + 1) w u)) l.left in
      rw s (more_states lines k prior t w _ l.closed (state_back C (line_of t) w l.is) l.fine (states_back lines (k + 1) w (rest_of t) (rw s at e))))

  states_forth : C ≤ max_controllers → (ss : List ℕ) (k prior : ℕ) → states_refusal C masks k prior ss ≡ 0
      → states_before C masks (length ss) k prior (states_text C ss) ≡ record { number = 0; words = ss; rest = [] }
  unfolding states_before states_refusal states_text pick
  states_forth few [] k prior e = refl
  states_forth few (s ∷ ss) k prior e =
      let p = or_else_none (state_refusal C masks k prior s) (states_refusal C masks (k + 1) s ss) e in
      let t = states_text C ss in
      let f = state_forth C few s (few_marks C masks k prior s p.0) in
      let r = next_forth recording_lines recording_form (state_form C) (state_refusal C masks k prior) (state_text C s) t s (state_unbroken C s) f p.0 in
      states_step (length ss) k prior (state_text C s ++ (newline ∷ t)) s t r ∙ ap (more s) (states_forth few ss (k + 1) s p.1)

-- ---- the text
-- what an accepted text is: a recording that is held, and, with byte 10 at each line, what is written of it
pub record Accepted (scan : RecordingScan) (write : ℕ → ℕ → List ℕ → List ℕ → List ℕ) (t : List ℕ) : Type 0 where
  pub held : Held scan.controllers scan.count scan.masks scan.states
  pub text : write scan.controllers scan.count scan.masks scan.states ≡ with_newlines t

before_back : (t : List ℕ) → (scan_opening after_before t).number ≡ 0 → Accepted (scan_opening after_before t) recording_text t
unfolding after_before recording_text
before_back t e =
    let o = opening_back after_before t e in
    let r = states_back o.C o.masks o.N 0 0 o.rest (rw o.scan at e) in
    rw o.scan (record {
      held = record { heading = o.heading; mask_count = o.mask_count; mask_fine = o.mask_fine; mask_words = o.mask_words; state_count = r.count; state_fine = r.fine };
      text = rw r.text o.text;
    })

-- an accepted recording text is what is written of the recording that was read
pub recording_back : (t : List ℕ) → (scan_plain t).number ≡ 0 → Accepted (scan_plain t) recording_text t
recording_back t e = rw (plain_text_before t) (before_back t (rw (plain_text_before t) at e))

-- the answer that a text of a held recording gets
abbrev pub held_scan : (C N : ℕ) (masks states : List ℕ) → RecordingScan
held_scan C N masks states = record { number = 0; controllers = C; count = N; masks = masks; states = states; rest = [] }

-- what is written of a recording reads as that recording
pub recording_forth : (C N : ℕ) (masks states : List ℕ) → Held C N masks states → scan_plain (recording_text C N masks states) ≡ held_scan C N masks states
unfolding after_before recording_text
recording_forth C N masks states h =
    plain_text_before _
    ∙ (opening_forth after_before C N masks (states_text C states) h.heading h.mask_count h.mask_fine h.mask_words
    ∙ rw (← h.state_count) (ap (recording_states C (length states) masks)
    (states_forth C masks (heading_limits C N h.heading).0 states 0 0 h.state_fine)))
