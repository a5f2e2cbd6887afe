-- In an accepted text each byte 13 stands before a byte 10, so it is read as the same text with byte 10 at each line.
use mathlib.Core.Path.{◌≡◌, refl, subst}
use Prim.Native.Nat.{ℕ, zero, suc, ◌+◌, ◌*◌, ◌<◌}
use mathlib.Core.Bool.{true}
use mathlib.Core.List.{List, [], ◌∷◌, ◌++◌}
use lib.ListN.{length}
use native.Mathlib.Omega.{arith}
use lib.Dec.{eqb, ltb}
use lib.IntN.{ℤ}
use borrow.Author.Tests.{ne_eqb, ltb-true, lt-leb}
use Rattle.definitions.specs.Limits.{max_gauges, recording_form, recording_lines}
use Rattle.definitions.specs.Bounded.{pick}
use Rattle.definitions.specs.Nodes.{node_of}
use Rattle.definitions.specs.Recordings.{mask_refusal, recording_heading_refusal}
use Rattle.definitions.specs.Lines.{tab, newline, carriage_return, before, has, up_to, after, is_closed, line_of, rest_of, with_newlines, Parsed, formed, malformed, decimal, hex_digit, hex_on, hexadecimal, Heading, heading_form, two_fields, refused, read, next_line, Scan}
use Rattle.definitions.specs.RuleText.{scan_rule, node_text, nodes_text, rule_text}
use Rattle.definitions.specs.Measures.{minus, measure}
use Rattle.definitions.specs.Gauges.{gauge_word, Gauge, gauge_fields, gauge_form, gauge_refusal, Gauges, values_after}
use Rattle.definitions.specs.RecordingText.{recording_word, owns_word, at_word, word_digits, mark_digits, recording_heading, recording_heading_line, mask_form, mask_line, gauge_line, Measured, word_and_values, measured_fields, at_form, finished_state, at_refusal, at_line, scan_masks, GaugeScan, is_gauge, scan_gauges, scan_states, RecordingScan, recording_stop, recording_states, gauged_after_masks, opening_masks, scan_opening, scan_recording}
use Rattle.theorems.proofs.Choice.{by_test, pick_must, pick_other}
use Rattle.theorems.proofs.Inversions.{must_pass, passes, parsed_must, never_formed}
use Rattle.theorems.proofs.SplitLaws.{Without, without_none, without_cons, without_append, join, all_front}
use Rattle.theorems.proofs.EndingLaws.{with_line}
use Rattle.theorems.proofs.DecimalLaws.{digits_without, read_prints}
use Rattle.theorems.proofs.FieldLaws.{worded_back}
use Rattle.theorems.proofs.MeasureLaws.{measure_without}
use Rattle.theorems.proofs.NextLines.{on_next_lem, next_back, next_some}
use Rattle.theorems.proofs.RuleTextSteps.{heading_text, rule_lines_lem}
use Rattle.theorems.proofs.RuleTextForth.{node_unbroken, heading_unbroken}
use Rattle.theorems.proofs.RoundTrips.{read_then_written}
use Rattle.theorems.proofs.EndingReadings.{Settled, endings_settled, renewed_rule, rule_same, renewed_recording, recording_same}

-- a line without byte 13, and its ending as byte 10
line_then : (line rest : List ℕ) → Without carriage_return line → Without carriage_return rest → Without carriage_return (line ++ (newline ∷ rest))
line_then line rest l r = without_append carriage_return line (newline ∷ rest) l (without_cons carriage_return newline rest (λ q. omega arith) r)

line_plain : (t : List ℕ) → is_closed t ≡ true → Without carriage_return (line_of t) → Without carriage_return (with_newlines (rest_of t)) → Without carriage_return (with_newlines t)
line_plain t c l r = rw (with_line t c) (line_then (line_of t) (with_newlines (rest_of t)) l r)

-- ---- rule texts
nodes_plain : (ws : List ℕ) → Without carriage_return (nodes_text ws)
unfolding nodes_text
nodes_plain [] = without_none carriage_return
nodes_plain (w ∷ ws) = line_then (node_text (node_of w)) (nodes_text ws) (node_unbroken (node_of w)).returns (nodes_plain ws)

rule_plain : (c n : ℕ) (ws : List ℕ) → Without carriage_return (rule_text c n ws)
rule_plain c n ws = rw (rule_lines_lem c n ws) (line_then (heading_text c n) (nodes_text ws) (heading_unbroken c n).returns (nodes_plain ws))

pub accepted_rule_settled : (t : List ℕ) → (scan_rule t).number ≡ 0 → Settled t
accepted_rule_settled t e =
    endings_settled t (subst (λ (l : List ℕ). Without carriage_return l) (read_then_written t e) (rule_plain (scan_rule t).controller (scan_rule t).count (scan_rule t).words))

pub accepted_rule_same : (t : List ℕ) → (scan_rule t).number ≡ 0 → scan_rule (with_newlines t) ≡ renewed_rule (scan_rule t)
accepted_rule_same t e = rule_same t (accepted_rule_settled t e)

-- ---- fields: byte b is below every digit
digit_low : (x : ℕ) → x < 48 → hex_digit x ≡ 16
unfolding hex_digit pick
digit_low x h = rw (lt-leb 48 x h, lt-leb 97 x (omega arith))

module _ (b : ℕ) (low : b < 48) where
  digits_plain : (v w : ℕ) (s : List ℕ) → hex_on v s ≡ formed w → Without b s
  unfolding hex_on
  digits_plain v w [] e = without_none b
  digits_plain v w (x ∷ t) e =
      let p = pick_must (formed w) (ltb (hex_digit x) 16) _ malformed e (never_formed w) in
      without_cons b x t (λ q. omega (arith, ltb-true (hex_digit x) 16 p.0, digit_low x (omega arith)))
      (digits_plain (v * 16 + hex_digit x) w t p.1)

  hex_plain : (width v : ℕ) (s : List ℕ) → hexadecimal width s ≡ formed v → Without b s
  unfolding hexadecimal
  hex_plain width v s e = digits_plain 0 v s (pick_must (formed v) (eqb (length s) width) _ malformed e (never_formed v)).1

  decimal_plain : (v : ℕ) (s : List ℕ) → decimal s ≡ formed v → Without b s
  decimal_plain v s e = subst (λ (l : List ℕ). Without b l) (read_prints s v e) (digits_without b v low)

  module _ (other : tab ≡ b → ⊥) where
    tabbed : (first rest s : List ℕ) → first ++ (tab ∷ rest) ≡ s → Without b first → Without b rest → Without b s
    tabbed first rest s e f r = subst (λ (l : List ℕ). Without b l) e (without_append b first (tab ∷ rest) f (without_cons b tab rest other r))

    two_plain : {A : Type 0} (f g : List ℕ → Parsed ℕ) (make : ℕ → ℕ → A) (x : A) (s : List ℕ)
        → ((v : ℕ) (u : List ℕ) → f u ≡ formed v → Without b u) → ((v : ℕ) (u : List ℕ) → g u ≡ formed v → Without b u)
        → two_fields f g make s ≡ formed x → Without b s
    unfolding two_fields
    two_plain f g make x s first second e =
        let p = pick_must (formed x) (has tab s) _ malformed e (never_formed x) in
        let l = parsed_must (formed x) (f (up_to tab s)) malformed _ p.1 (never_formed x) in
        let r = parsed_must (formed x) (g (after tab s)) malformed _ l.gives (never_formed x) in
        tabbed (up_to tab s) (after tab s) s (join tab s p.0) (first l.value (up_to tab s) l.read) (second r.value (after tab s) r.read)

-- ---- the lines of a recording text: of its form, a line holds no byte 13
pub heading_plain : (s : List ℕ) (h : Heading) → recording_heading s ≡ formed h → Without carriage_return s
unfolding heading_form before pick
heading_plain s h e =
    let w = worded_back recording_word _ h s e in
    let o : tab ≡ carriage_return → ⊥ = λ q. omega arith in
    let d = decimal_plain carriage_return (omega arith) in
    tabbed carriage_return (omega arith) o recording_word (after tab s) s w.0 refl (two_plain carriage_return (omega arith) o decimal decimal _ h (after tab s) d d w.1)

pub mask_plain : (s : List ℕ) (v : ℕ) → mask_form s ≡ formed v → Without carriage_return s
unfolding mask_form before pick
mask_plain s v e =
    let w = worded_back owns_word _ v s e in
    tabbed carriage_return (omega arith) (λ q. omega arith) owns_word (after tab s) s w.0 refl (hex_plain carriage_return (omega arith) word_digits v (after tab s) w.1)

gauge_fields_plain : (b : ℕ) (low : b < minus) (other : tab ≡ b → ⊥) (s : List ℕ) (g : Gauge) → gauge_fields s ≡ formed g → Without b s
unfolding gauge_fields
gauge_fields_plain b low other s g e =
    let p = pick_must (formed g) (has tab s) _ malformed e (never_formed g) in
    let a = parsed_must (formed g) (decimal (up_to tab s)) malformed _ p.1 (never_formed g) in
    let t = parsed_must (formed g) (measure (after tab s)) malformed _ a.gives (never_formed g) in
    tabbed b (omega arith) other (up_to tab s) (after tab s) s (join tab s p.0) (decimal_plain b (omega arith) a.value (up_to tab s) a.read)
    (measure_without b (after tab s) t.value low t.read)

pub gauge_plain : (s : List ℕ) (g : Gauge) → gauge_form s ≡ formed g → Without carriage_return s
unfolding gauge_form before pick
gauge_plain s g e =
    let w = worded_back gauge_word _ g s e in
    let o : tab ≡ carriage_return → ⊥ = λ q. omega arith in
    tabbed carriage_return (omega arith) o gauge_word (after tab s) s w.0 refl (gauge_fields_plain carriage_return (omega arith) o (after tab s) g w.1)

-- the values after a first field without the byte
module _ (b : ℕ) (low : b < minus) (other : tab ≡ b → ⊥) where
  values_plain : (n : ℕ) (s : List ℕ) (vs : List ℤ) → values_after n s ≡ formed vs → Without b (up_to tab s) → Without b s
  unfolding values_after
  values_plain zero s vs e w =
      let p = pick_other (formed vs) (has tab s) malformed (formed []) e (never_formed vs) in
      subst (λ (l : List ℕ). Without b l) (all_front tab s p.0) w
  values_plain (suc n) s vs e w =
      let p = pick_must (formed vs) (has tab s) _ malformed e (never_formed vs) in
      let v = parsed_must (formed vs) (measure (up_to tab (after tab s))) malformed _ p.1 (never_formed vs) in
      let l = parsed_must (formed vs) (values_after n (after tab s)) malformed _ v.gives (never_formed vs) in
      let f = measure_without b (up_to tab (after tab s)) v.value low v.read in
      tabbed b (omega arith) other (up_to tab s) (after tab s) s (join tab s p.0) w (values_plain n (after tab s) l.value l.read f)

  measured_plain : (n marks : ℕ) (s : List ℕ) (m : Measured) → word_and_values n marks s ≡ formed m → Without b s
  unfolding word_and_values
  measured_plain n marks s m e =
      let w = parsed_must (formed m) (hexadecimal word_digits (up_to tab s)) malformed _ e (never_formed m) in
      let v = parsed_must (formed m) (values_after n s) malformed _ w.gives (never_formed m) in
      values_plain n s v.value v.read (hex_plain b (omega arith) word_digits w.value (up_to tab s) w.read)

  fields_plain : (digits n : ℕ) (s : List ℕ) (m : Measured) → measured_fields digits n s ≡ formed m → Without b s
  unfolding measured_fields
  fields_plain digits n s m e =
      let p = pick_must (formed m) (has tab s) _ malformed e (never_formed m) in
      let r = parsed_must (formed m) (hexadecimal digits (up_to tab s)) malformed _ p.1 (never_formed m) in
      tabbed b (omega arith) other (up_to tab s) (after tab s) s (join tab s p.0) (hex_plain b (omega arith) digits r.value (up_to tab s) r.read)
      (measured_plain n r.value (after tab s) m r.gives)

pub at_plain : (C n : ℕ) (s : List ℕ) (m : Measured) → at_form C n s ≡ formed m → Without carriage_return s
unfolding at_form before pick
at_plain C n s m e =
    let w = worded_back at_word _ m s e in
    let o : tab ≡ carriage_return → ⊥ = λ q. omega arith in
    tabbed carriage_return (omega arith) o at_word (after tab s) s w.0 refl (fields_plain carriage_return (omega arith) o (mark_digits C) n (after tab s) m w.1)

-- a recording line that was read, and then a rest without byte 13
module _ {A : Type 0} (form : List ℕ → Parsed A) (check : A → ℕ) (t : List ℕ) where
  read_plain : (a : A) (rest : List ℕ) → next_line recording_lines recording_form form check t ≡ read a rest
      → ((s : List ℕ) → form s ≡ formed a → Without carriage_return s) → Without carriage_return (with_newlines rest) → Without carriage_return (with_newlines t)
  read_plain a rest e l r =
      let b = next_back recording_lines recording_form form check t a rest e in
      line_plain t b.closed (l (line_of t) b.is) (subst (λ (u : List ℕ). Without carriage_return (with_newlines u)) b.left r)

  -- a refused line is not accepted
  refused_not : {P : Type 0} (k : ℕ) → next_line recording_lines recording_form form check t ≡ refused k → k ≡ 0 → P
  refused_not k e z = absurd (next_some recording_lines recording_form form check t (omega arith) (omega arith) k e z)

masks_plain : (lines : ℕ) (earlier t : List ℕ) → (scan_masks lines earlier t).number ≡ 0
    → Without carriage_return (with_newlines (scan_masks lines earlier t).rest) → Without carriage_return (with_newlines t)
unfolding scan_masks
masks_plain zero earlier t e w = w
masks_plain (suc lines) earlier t e w =
    on_next_lem (λ (s : Scan). s.number ≡ 0 → Without carriage_return (with_newlines s.rest) → Without carriage_return (with_newlines t)) (mask_line earlier t) _ _
    (λ k r z y. refused_not mask_form (mask_refusal earlier) t k r z)
    (λ m rest r z y. read_plain mask_form (mask_refusal earlier) t m rest r (λ s f. mask_plain s m f) (masks_plain lines (m ∷ earlier) rest z y)) e w

gauges_plain : (lines : ℕ) (earlier t : List ℕ) → (scan_gauges lines earlier t).number ≡ 0
    → Without carriage_return (with_newlines (scan_gauges lines earlier t).rest) → Without carriage_return (with_newlines t)
unfolding scan_gauges pick
gauges_plain zero earlier t e w = w
gauges_plain (suc lines) earlier t e w =
    by_test (is_gauge t)
    (λ g. on_next_lem (λ (s : GaugeScan). s.number ≡ 0 → Without carriage_return (with_newlines s.rest) → Without carriage_return (with_newlines t)) (gauge_line earlier t) _ _
    (λ k r z y. refused_not gauge_form (gauge_refusal earlier) t k r z)
    (λ a rest r z y. read_plain gauge_form (gauge_refusal earlier) t a rest r (λ s f. gauge_plain s a f) (gauges_plain lines (a.atom ∷ earlier) rest z y))
    (rw g at e) (rw g at w))
    (λ g. rw g at w)

states_plain : (C : ℕ) (masks : List ℕ) (g : Gauges) (lines k prior : ℕ) (t : List ℕ) → (scan_states C masks g lines k prior t).number ≡ 0 → Without carriage_return (with_newlines t)
unfolding scan_states with_newlines pick
states_plain C masks g zero k prior [] e = without_none carriage_return
states_plain C masks g zero k prior (x ∷ t) e = absurd (omega (arith, rw (ne_eqb (suc (length t)) 0 (λ q. omega arith)) at e))
states_plain C masks g (suc lines) k prior t e =
    on_next_lem (λ (s : Scan). s.number ≡ 0 → Without carriage_return (with_newlines t)) (at_line C masks g k prior t) _ _
    (λ j r z. refused_not (at_form C (length g.atoms)) (at_refusal C masks g k prior) t j r z)
    (λ m rest r z. read_plain (at_form C (length g.atoms)) (at_refusal C masks g k prior) t m rest r (λ s f. at_plain C (length g.atoms) s m f)
    (states_plain C masks g lines (k + 1) (finished_state g m) rest z)) e

gauged_plain : (C N : ℕ) (masks t : List ℕ) → (gauged_after_masks C N masks t).number ≡ 0 → Without carriage_return (with_newlines t)
unfolding gauged_after_masks
gauged_plain C N masks t e =
    let s = scan_gauges max_gauges [] t in
    let all : RecordingScan = recording_states C N masks (scan_states C masks s.gauges N 0 0 s.rest) in
    let z : s.number ≡ 0 = must_pass {A = RecordingScan} (λ r. r.number) s.number all (recording_stop s.number s.rest) refl e in
    let q = passes {A = RecordingScan} s.number all (recording_stop s.number s.rest) z in
    gauges_plain max_gauges [] t z (states_plain C masks s.gauges N 0 0 s.rest (rw q at e))

-- whatever follows the `owns` lines
module _ (next : (C N : ℕ) (masks t : List ℕ) → RecordingScan)
    (plain : (C N : ℕ) (masks t : List ℕ) → (next C N masks t).number ≡ 0 → Without carriage_return (with_newlines t)) where
  masked_plain : (C N : ℕ) (t : List ℕ) → (opening_masks next C N (scan_masks C [] t)).number ≡ 0 → Without carriage_return (with_newlines t)
  masked_plain C N t e =
      let m = scan_masks C [] t in
      let z : m.number ≡ 0 = must_pass {A = RecordingScan} (λ s. s.number) m.number _ (recording_stop m.number m.rest) refl e in
      let s = passes {A = RecordingScan} m.number (next C N m.words m.rest) (recording_stop m.number m.rest) z in
      masks_plain C [] t z (plain C N m.words m.rest (rw s at e))

  pub opening_plain : (t : List ℕ) → (scan_opening next t).number ≡ 0 → Without carriage_return (with_newlines t)
  unfolding scan_opening
  opening_plain t =
      on_next_lem (λ (s : RecordingScan). s.number ≡ 0 → Without carriage_return (with_newlines t)) (recording_heading_line t) _ _
      (λ k r e. refused_not recording_heading (λ h. recording_heading_refusal h.first h.second) t k r e)
      (λ h rest r e. read_plain recording_heading (λ x. recording_heading_refusal x.first x.second) t h rest r (λ s f. heading_plain s h f) (masked_plain h.first h.second rest e))

recording_plain : (t : List ℕ) → (scan_recording t).number ≡ 0 → Without carriage_return (with_newlines t)
unfolding scan_recording
recording_plain t e = opening_plain gauged_after_masks gauged_plain t e

pub accepted_recording_settled : (t : List ℕ) → (scan_recording t).number ≡ 0 → Settled t
accepted_recording_settled t e = endings_settled t (recording_plain t e)

pub accepted_recording_same : (t : List ℕ) → (scan_recording t).number ≡ 0 → scan_recording (with_newlines t) ≡ renewed_recording (scan_recording t)
accepted_recording_same t e = recording_same t (accepted_recording_settled t e)
