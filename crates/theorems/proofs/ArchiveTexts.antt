-- Reading and writing an archive text undo each other.
use mathlib.Core.Path.{◌≡◌, refl, ap, sym, ◌∙◌}
use Prim.Native.Nat.{ℕ, zero, suc, ◌+◌, ◌<◌}
use native.Mathlib.Omega.{arith}
use mathlib.Core.Bool.{Bool, true, false}
use mathlib.Core.List.{List, [], ◌∷◌, ◌++◌}
use lib.ListN.{length}
use lib.Dec.{eqb, ltb, leb}
use borrow.Author.Tests.{leb-true, ne_eqb, eq-eqb, eqb-true, eqb-false}
use Rattle.definitions.specs.Limits.{accepted, recording_form, recording_lines, atom_count}
use Rattle.definitions.specs.Bounded.{pick, bit, within}
use Rattle.definitions.specs.Lines.{tab, newline, carriage_return, before, after, is_closed, line_of, rest_of, with_newlines, formed, malformed, on_parsed, refused, read, on_next}
use Rattle.definitions.specs.Recordings.{states_refusal}
use Rattle.definitions.specs.Archive.{runs_word, bits_word, signal_word, signals_of, states_of_signals, signal_text, signal_line, signals_text, archive_text, signal_on, signal, signal_form, next_signal, SignalScan, signal_stop, more_signals, scan_signals, archive_states, after_opening, scan_archive}
use Rattle.theorems.proofs.Choice.{by_test, both_true, pick_true, pick_must, pick_false, or_else_none, none_or_else}
use Rattle.theorems.proofs.Inversions.{parsed_must, never_formed, formed_same}
use Rattle.theorems.proofs.SplitLaws.{Without, without_none, without_cons}
use Rattle.theorems.proofs.EndingLaws.{Unbroken, with_line}
use Rattle.theorems.proofs.FieldLaws.{worded_back, worded_forth}
use Rattle.theorems.proofs.NextLines.{by_next, next_back, next_forth, next_some}
use Rattle.theorems.proofs.TurnLaws.{Even}
use Rattle.theorems.proofs.OpeningLaws.{fields_unbroken, unbroken_field, opening_back, opening_forth}
use Rattle.theorems.proofs.RecordingTexts.{Held, Accepted, held_scan}
use Rattle.theorems.proofs.SignalLaws.{signals_count, signals_even, states_again, signals_again, states_count_lem}

-- ---- digits
-- a byte 0 or 1 and its digit
byte_digit : (x : ℕ) → within 48 49 x ≡ true → 48 + bit (eqb x 49) ≡ x
byte_digit x h =
    let p = both_true (leb 48 x) (leb x 49) h in
    let a = leb-true 48 x p.0 in
    let b = leb-true x 49 p.1 in
    by_test (eqb x 49) (λ e. rw e (omega (arith, eqb-true x 49 e))) (λ e. let n = eqb-false x 49 e in rw e (omega arith))

record SignalBack (s : List ℕ) (l : List Bool) : Type 0 where
  text : signal_text l ≡ s
  count : length l ≡ length s

on_back : (s : List ℕ) (l : List Bool) → signal_on s ≡ formed l → SignalBack s l
unfolding signal_on signal_text
on_back [] l e = rw (← formed_same [] l e) (record { text = refl; count = refl })
on_back (x ∷ t) l e =
    let p = pick_must (formed l) (within 48 49 x) _ malformed e (never_formed l) in
    let f = parsed_must (formed l) (signal_on t) malformed _ p.1 (never_formed l) in
    let r = on_back t f.value f.read in
    rw (← formed_same (eqb x 49 ∷ f.value) l f.gives) (record { text = rw (byte_digit x p.0, r.text); count = ap suc r.count })

on_forth : (l : List Bool) → signal_on (signal_text l) ≡ formed l
unfolding signal_on signal_text pick on_parsed
on_forth [] = refl
on_forth (true ∷ l) = rw (on_forth l)
on_forth (false ∷ l) = rw (on_forth l)

pub signal_length : (l : List Bool) → length (signal_text l) ≡ length l
unfolding signal_text
signal_length [] = refl
signal_length (b ∷ l) = ap suc (signal_length l)

signal_without : (b : ℕ) (l : List Bool) → b < 48 → Without b (signal_text l)
unfolding signal_text
signal_without b [] h = without_none b
signal_without b (d ∷ l) h = without_cons b (48 + bit d) (signal_text l) (λ q. omega arith) (signal_without b l h)

-- ---- the words of the lines
words_without : (b C j : ℕ) → Without b runs_word → Without b bits_word → Without b (signal_word C j)
unfolding signal_word
words_without b C j r s = by_test (ltb j C) (λ e. rw (pick_true (ltb j C) runs_word bits_word e) r) (λ e. rw (pick_false (ltb j C) runs_word bits_word e) s)

word_tab : (C j : ℕ) → Without tab (signal_word C j)
unfolding before pick
word_tab C j = words_without tab C j refl refl

word_unbroken : (C j : ℕ) → Unbroken (signal_word C j)
unfolding before pick
word_unbroken C j = record { newlines = words_without newline C j refl refl; returns = words_without carriage_return C j refl refl }

-- ---- the lines
module _ (C N : ℕ) where
  record LineBack (j : ℕ) (s : List ℕ) (l : List Bool) : Type 0 where
    text : signal_line C j l ≡ s
    count : length l ≡ N

  signal_back : (j : ℕ) (s : List ℕ) (l : List Bool) → signal_form C N j s ≡ formed l → LineBack j s l
  unfolding signal_form signal signal_line
  signal_back j s l e =
      let w = worded_back (signal_word C j) (signal N) l s e in
      let p = pick_must (formed l) (eqb (length (after tab s)) N) (signal_on (after tab s)) malformed w.1 (never_formed l) in
      let r = on_back (after tab s) l p.1 in
      record { text = rw r.text w.0; count = r.count ∙ eqb-true (length (after tab s)) N p.0 }

  signal_forth : (j : ℕ) (l : List Bool) → length l ≡ N → signal_form C N j (signal_line C j l) ≡ formed l
  unfolding signal_form signal signal_line
  signal_forth j l h =
      worded_forth (signal_word C j) (signal N) (signal_text l) (word_tab C j)
      ∙ (pick_true (eqb (length (signal_text l)) N) (signal_on (signal_text l)) malformed (eq-eqb (length (signal_text l)) N (signal_length l ∙ h)) ∙ on_forth l)

  line_unbroken : (j : ℕ) (l : List Bool) → Unbroken (signal_line C j l)
  unfolding signal_line
  line_unbroken j l = fields_unbroken (signal_word C j) (signal_text l) (word_unbroken C j) (unbroken_field (signal_text l) (λ b h. signal_without b l h))

  module _ (lines j : ℕ) (t : List ℕ) where
    pub signals_stop : (k : ℕ) → next_signal C N j t ≡ refused k → scan_signals C N (suc lines) j t ≡ signal_stop k t
    unfolding scan_signals on_next
    signals_stop k e = rw e

    pub signals_step : (l : List Bool) (rest : List ℕ) → next_signal C N j t ≡ read l rest
        → scan_signals C N (suc lines) j t ≡ more_signals l (scan_signals C N lines (j + 1) rest)
    unfolding scan_signals on_next
    signals_step l rest e = rw e

  -- what was read of accepted signals
  pub record SignalsRead (lines j : ℕ) (t : List ℕ) (s : SignalScan) : Type 0 where
    pub count : length s.signals ≡ lines
    pub even : Even N s.signals
    pub text : signals_text C j s.signals ≡ with_newlines t

  no_signals : (j : ℕ) (t : List ℕ) → (scan_signals C N 0 j t).number ≡ 0 → SignalsRead 0 j t (scan_signals C N 0 j t)
  unfolding scan_signals signals_text Even with_newlines pick
  no_signals j [] e = record { count = refl; even = tt; text = refl }
  no_signals j (x ∷ t) e = absurd (omega (arith, rw (ne_eqb (suc (length t)) 0 (λ q. omega arith)) at e))

  more_read : (lines j : ℕ) (t : List ℕ) (l : List Bool) (s : SignalScan) → is_closed t ≡ true → LineBack j (line_of t) l
      → SignalsRead lines (j + 1) (rest_of t) s → SignalsRead (suc lines) j t (more_signals l s)
  unfolding signals_text Even
  more_read lines j t l s c b r = record { count = ap suc r.count; even = (b.count, r.even); text = rw (b.text, r.text) (sym (with_line t c)) }

  pub signals_back : (lines j : ℕ) (t : List ℕ) → (scan_signals C N lines j t).number ≡ 0 → SignalsRead lines j t (scan_signals C N lines j t)
  unfolding scan_signals
  signals_back zero j t e = no_signals j t e
  signals_back (suc lines) j t e =
      let check : List Bool → ℕ = λ (l : List Bool). accepted in
      by_next (next_signal C N j t)
      (λ k r.
      let z : k ≡ 0 = rw (signals_stop lines j t k r) at e in
      absurd (next_some recording_lines recording_form (signal_form C N j) check t (omega arith) (omega arith) k r z))
      (λ l rest r.
      let b = next_back recording_lines recording_form (signal_form C N j) check t l rest r in
      let s = signals_step lines j t l rest r ∙ ap (λ (u : List ℕ). more_signals l (scan_signals C N lines (j + 1) u)) b.left in
      rw s (more_read lines j t l _ b.closed (signal_back j (line_of t) l b.is) (signals_back lines (j + 1) (rest_of t) (rw s at e))))

  signals_forth : (ls : List (List Bool)) (j : ℕ) → Even N ls
      → scan_signals C N (length ls) j (signals_text C j ls) ≡ record { number = 0; signals = ls; rest = [] }
  unfolding scan_signals signals_text Even pick
  signals_forth [] j e = refl
  signals_forth (l ∷ ls) j e =
      let t = signals_text C (j + 1) ls in
      let check : List Bool → ℕ = λ (l : List Bool). accepted in
      let r = next_forth recording_lines recording_form (signal_form C N j) check (signal_line C j l) t l (line_unbroken j l) (signal_forth j l e.0) refl in
      signals_step (length ls) j (signal_line C j l ++ (newline ∷ t)) l t r ∙ ap (more_signals l) (signals_forth ls (j + 1) e.1)

-- ---- the text
-- an accepted archive text is what is written of the recording that was read
pub archive_back : (t : List ℕ) → (scan_archive t).number ≡ 0 → Accepted (scan_archive t) archive_text t
unfolding scan_archive after_opening archive_text
archive_back t e =
    let o = opening_back after_opening t e in
    let C = o.C in
    let N = o.N in
    let s = scan_signals C N (C + atom_count) 0 o.rest in
    let p = or_else_none s.number (states_refusal C o.masks 0 0 (states_of_signals C N s.signals)) (rw o.scan at e) in
    let r = signals_back C N (C + atom_count) 0 o.rest p.0 in
    rw o.scan (record {
      held = record {
        heading = o.heading;
        mask_count = o.mask_count;
        mask_fine = o.mask_fine;
        mask_words = o.mask_words;
        state_count = states_count_lem C N s.signals r.count r.even;
        state_fine = p.1;
      };
      text = rw (signals_again C N s.signals r.count r.even, r.text) o.text;
    })

-- what is written of a recording reads as that recording
pub archive_forth : (C N : ℕ) (masks states : List ℕ) → Held C N masks states → scan_archive (archive_text C N masks states) ≡ held_scan C N masks states
unfolding scan_archive after_opening archive_text
archive_forth C N masks states h =
    let ls = signals_of C states in
    let even : Even N ls = rw h.state_count at (signals_even C states) in
    let a = states_again C N masks states h.state_count h.state_fine in
    let n = none_or_else 0 (states_refusal C masks 0 0 states) refl h.state_fine in
    let s : scan_signals C N (C + atom_count) 0 (signals_text C 0 ls) ≡ record { number = 0; signals = ls; rest = [] }
    = rw (← signals_count C states) (signals_forth C N ls 0 even) in
    opening_forth after_opening C N masks (signals_text C 0 ls) h.heading h.mask_count h.mask_fine h.mask_words
    ∙ (ap (archive_states C N masks) s ∙ rw (a, n))
