-- Laws of an `at` line that ends with values: one for each return, and what a caller has of its answer.
use mathlib.Core.Path.{◌≡◌, refl, ap, sym, ◌∙◌}
use Prim.Native.Nat.{ℕ, ◌*◌, ◌/◌, ◌^◌, ◌<◌, ◌≤◌}
use native.Mathlib.Nat.{div-lt_iff_lt-mul, div-eq_of_lt, one-mul}
use native.Mathlib.Decide.{dec_lt}
use mathlib.Core.Bool.{Bool, true, false, not}
use mathlib.Core.List.{List}
use lib.ListN.{length, take, length-map}
use lib.Pow.{pow_pos}
use lib.Dec.{leb, eqb}
use lib.IntN.{ℤ}
use native.Mathlib.Omega.{arith}
use mir.Syntax.{w32}
use mir.Val.{Fits}
use borrow.Author.Rules.{rules}
use borrow.Author.Tests.{le-leb, lt-leb, eqb-true, eqb-false}
use Rattle.std.specs.Prelude.{Option, Some, None, Result, Ok, Err}
use Rattle.std.specs.Option.{ok_or}
use Rattle.definitions.specs.Bounded.{pick}
use Rattle.definitions.specs.Limits.{accepted, recording_form, recording_limits, recording_lines, gauge_bit_set}
use Rattle.definitions.specs.Recordings.{state_of, marks_of, atoms_of, state_refusal}
use Rattle.definitions.specs.Lines.{tab, before, up_to, line_length, line_of, rest_of, Parsed, formed, malformed, on_parsed, hexadecimal, NextLine, refused, read, on_next}
use Rattle.definitions.specs.RecordingText.{at_word, mark_digits, Measured, word_and_values, measured_fields, at_form, finished_state, at_refusal, at_line}
use Rattle.definitions.specs.Gauges.{Gauges, no_gauges, values_after, any_outside, any_set, finished}
use Rattle.theorems.proofs.Choice.{by_test}
use Rattle.theorems.proofs.WithoutGauges.{state_alone, state_alone_lem, line_alone}
use Rattle.rules.specs.Refusals.{number_of}
use Rattle.rules.specs.declared.refusal.Refusal.{Refusal}
use Rattle.rules.specs.declared.refusal.Refusal.TheVariants.{RecordingForm}
use Rattle.rules.proofs.RefusalLaws.{number_some}
use Rattle.fields.specs.Fields.{widest, exact}
use Rattle.fields.specs.Forms.{after_word}
use Rattle.fields.proofs.FieldLaws.{taken_none, exact_number}
use Rattle.fields.proofs.FormLaws.{worded_none, worded_some}
use Rattle.lines.specs.Parts.{split}
use Rattle.lines.specs.Reading.{end_refusal}
use Rattle.lines.specs.Told.{next_told}
use Rattle.lines.proofs.NextLaws.{line_part, line_part_laws}
use Rattle.lines.proofs.PartLaws.{up_to_part, split_no, split_yes, part_laws}
use Rattle.lines.proofs.ToldLaws.{told_unread, told_malformed, told_denied, told_read, told_back, told_refused, some_given, none_given}
use Rattle.gauges.specs.Held.{atoms_of as gauge_atoms, thresholds_of, gauges_of}
use Rattle.gauges.specs.Values.{values_read}
use Rattle.gauges.specs.declared.gauge.Gauge.{Gauge}
use Rattle.at_lines.specs.Lines.{state_line, state_told}
use Rattle.at_lines.specs.Measured.{tested_of, measured_tested, measured_told, at_told}
use Rattle.at_lines.proofs.StateLaws.{digits_few}

-- ---- `tested`
marks_low : (m C : ℕ) → m / 2 ^ C ≡ 0 → leb (2 ^ C) m ≡ false
marks_low m C e =
    let l : m / 2 ^ C < 1 = omega arith in
    let k : m < 1 * 2 ^ C = (div-lt_iff_lt-mul (pow_pos C)).0 l in
    lt-leb (2 ^ C) m (rw one-mul at k)

marks_high : (m C : ℕ) → (m / 2 ^ C ≡ 0 → ⊥) → leb (2 ^ C) m ≡ true
marks_high m C n = go (dec_lt m (2 ^ C))
  where
    go : Dec (m < 2 ^ C) → leb (2 ^ C) m ≡ true
    go (yes h) = absurd (n (div-eq_of_lt {n = m} {m = 2 ^ C} h))
    go (no h) = le-leb (2 ^ C) m (omega arith)

marks_of_lem : (m w : ℕ) → w < 2 ^ 32 → marks_of (state_of m w) ≡ m
marks_of_lem m w h = omega arith

atoms_of_lem : (m w : ℕ) → w < 2 ^ 32 → atoms_of (state_of m w) ≡ w
atoms_of_lem m w h = omega arith

-- what must hold, and does not
denied : (z : Bool) (e : Refusal) (n : ℕ) → number_of e ≡ pick z accepted n → (z ≡ false) × (number_of e ≡ n)
unfolding pick
denied true e n h = absurd (number_some e h)
denied false e n h = (refl, h)

-- what must hold, and does
granted : (z : Bool) (n : ℕ) → (n ≡ 0 → ⊥) → accepted ≡ pick z accepted n → z ≡ true
unfolding pick
granted true n some h = refl
granted false n some h = absurd (some (sym h))

not_true : (b : Bool) → not b ≡ true → b ≡ false
not_true true h = sym h
not_true false h = refl

not_false : (b : Bool) → not b ≡ false → b ≡ true
not_false true h = refl
not_false false h = sym h

module _ (C m w x : ℕ) (atoms : List ℕ) (fw : Fits w32 w) where
  -- `tested`, a run mark at C or above: `tested_of` is 6
  pub tested_marks : (e : Refusal) → number_of e ≡ pick (eqb (m / 2 ^ C) 0) accepted recording_limits → Err (number_of e) ≡ tested_of C atoms (state_of m w) x
  unfolding tested_of pick
  tested_marks e h =
      let d = denied (eqb (m / 2 ^ C) 0) e recording_limits h in
      rw (d.1, marks_of_lem m w fw.fits, marks_high m C (eqb-false (m / 2 ^ C) 0 d.0))

  module _ (h : accepted ≡ pick (eqb (m / 2 ^ C) 0) accepted recording_limits) (p : Bool) (ps : p ≡ any_set atoms w) where
    low : leb (2 ^ C) m ≡ false
    low = marks_low m C (eqb-true (m / 2 ^ C) 0 (granted (eqb (m / 2 ^ C) 0) recording_limits (λ n. omega arith) h))

    -- `tested`, a gauge's bit is set: `tested_of` is 20
    pub tested_set : (e : Refusal) → number_of e ≡ pick (not p) accepted gauge_bit_set → Err (number_of e) ≡ tested_of C atoms (state_of m w) x
    unfolding tested_of pick
    tested_set e k =
        let d = denied (not p) e gauge_bit_set k in
        rw (d.1, marks_of_lem m w fw.fits, atoms_of_lem m w fw.fits, low, ← ps, not_false p d.0)

    -- `tested`, accepted: `tested_of` is the state with its finished word
    pub tested_state : accepted ≡ pick (not p) accepted gauge_bit_set → (r : ℕ) → r ≡ state_of m x → Ok r ≡ tested_of C atoms (state_of m w) x
    unfolding tested_of pick
    tested_state k r q =
        let d = not_true p (granted (not p) gauge_bit_set (λ n. omega arith) k) in
        rw (marks_of_lem m w fw.fits, atoms_of_lem m w fw.fits, low, ← ps, d, q)

pub ruleset tested_laws = (rules, tested_marks, tested_set, tested_state)

-- ---- `word_and_values`
module _ (C m : ℕ) (gs : List Gauge) where
  module _ (w : ℕ) where
    abbrev reading : List ℤ → Parsed Measured
    reading vs = formed (record { state = state_of m w; values = vs })

    abbrev values_of : Parsed (List ℤ) → Result ℕ ℕ
    values_of p = on_parsed p (Err recording_form) (λ vs. pick (any_outside vs) (Err recording_limits) (Ok (finished (gauge_atoms gs) (thresholds_of gs) vs w)))

    refused_by : (p : Parsed (List ℤ)) (e : Refusal) → Err (number_of e) ≡ values_of p → Err (number_of e) ≡ measured_told C (gauges_of gs) (on_parsed p malformed reading)
    unfolding measured_told measured_tested on_parsed pick
    refused_by (formed vs) e h =
        by_test (any_outside vs)
        (λ z. let c : Err (number_of e) ≡ Err 6 = rw z at h in rw z c)
        (λ z. let c : Err (number_of e) ≡ Ok (finished (gauge_atoms gs) (thresholds_of gs) vs w) = rw z at h in cc)
    refused_by malformed e h = h

    word_by : (p : Parsed (List ℤ)) (x : ℕ) → w < 2 ^ 32 → Ok x ≡ values_of p
        → tested_of C (gauge_atoms gs) (state_of m w) x ≡ measured_told C (gauges_of gs) (on_parsed p malformed reading)
    unfolding measured_told measured_tested on_parsed pick
    word_by (formed vs) x b h =
        by_test (any_outside vs)
        (λ z. let c : Ok x ≡ Err 6 = rw z at h in cc)
        (λ z.
        let c : Ok x ≡ Ok (finished (gauge_atoms gs) (thresholds_of gs) vs w) = rw z at h in
        let d : x ≡ finished (gauge_atoms gs) (thresholds_of gs) vs w = cc in
        rw (z, atoms_of_lem m w b, d))
    word_by malformed x b h = cc

  module _ (s : List ℕ) (i : ℕ) (is : i ≡ before tab s) (o : Option ℕ) (os : o ≡ exact (hexadecimal 8 (take i s))) where
    word_field : o ≡ exact (hexadecimal 8 (up_to tab s))
    word_field = rw (up_to_part tab s i is) at os

    -- `word_and_values`, no word: `word_and_values` is malformed
    pub word_form : (e : Refusal) → Err e ≡ ok_or o RecordingForm → Err (number_of e) ≡ measured_told C (gauges_of gs) (word_and_values (length gs) m s)
    unfolding measured_told word_and_values on_parsed
    word_form e h = let q = none_given o RecordingForm e h in rw (q.1, taken_none _ _ (rw q.0 at word_field))

    module _ (w : ℕ) (h : Ok w ≡ ok_or o RecordingForm) where
      word_is : hexadecimal 8 (up_to tab s) ≡ formed w
      word_is = exact_number _ w (rw (some_given o RecordingForm w h) at word_field)

      -- `word_and_values`, values that are refused: the same number (`measured_told`)
      pub word_refused : (e : Refusal) → Err (number_of e) ≡ values_read gs w s → Err (number_of e) ≡ measured_told C (gauges_of gs) (word_and_values (length gs) m s)
      unfolding word_and_values values_read on_parsed
      word_refused e q = rw word_is (refused_by w (values_after (length gs) s) e q)

      -- `word_and_values`, values in their limits: `tested_of` of the finished word (`measured_told`)
      pub word_tested : (x : ℕ) → Ok x ≡ values_read gs w s → w < 2 ^ 32 → (r : Result ℕ ℕ) → r ≡ tested_of C (gauge_atoms gs) (state_of m w) x
          → r ≡ measured_told C (gauges_of gs) (word_and_values (length gs) m s)
      unfolding word_and_values values_read on_parsed
      word_tested x q b r t = t ∙ rw word_is (word_by w (values_after (length gs) s) x b q)

pub ruleset word_laws = (part_laws, word_form, word_refused, word_tested)

-- ---- `at_line`
module _ (C count : ℕ) (g : Gauges) (s : List ℕ) where
  -- `at_line`, another word: `at_form` is malformed
  pub at_other : None ≡ after_word at_word s → Err 5 ≡ measured_told C g (at_form C count s)
  unfolding measured_told at_form on_parsed
  at_other e = rw (worded_none at_word s (measured_fields (mark_digits C) count) e)

  module _ (f : List ℕ) (fs : Some f ≡ after_word at_word s) where
    fields_are : at_form C count s ≡ measured_fields (mark_digits C) count f
    unfolding at_form
    fields_are = worded_some at_word s (measured_fields (mark_digits C) count) f fs

    -- `at_line`, one field alone: `measured_fields` is malformed
    pub at_alone : None ≡ split tab f → Err 5 ≡ measured_told C g (at_form C count s)
    unfolding measured_told measured_fields on_parsed pick
    at_alone e = rw (fields_are, split_no tab f e)

    module _ (x y : List ℕ) (parts : Some (x, y) ≡ split tab f) (d : ℕ) (ds : d ≡ mark_digits C) where
      marks_are : measured_fields (mark_digits C) count f ≡ on_parsed (hexadecimal d x) malformed (λ m. word_and_values count m y)
      unfolding measured_fields pick
      marks_are = let p = split_yes tab f x y parts in rw (ds, p.there, p.front, p.back)

      -- `at_line`, the run marks are malformed: `measured_fields` is too
      pub at_marks : None ≡ exact (hexadecimal d x) → Err 5 ≡ measured_told C g (at_form C count s)
      unfolding measured_told on_parsed
      at_marks e = rw (fields_are, marks_are, taken_none _ _ e)

      -- `at_line`, the run marks are read: `at_form` is by what follows them
      pub at_fields : (m : ℕ) → Some m ≡ exact (hexadecimal d x) → (r : Result ℕ ℕ) → r ≡ measured_told C g (word_and_values count m y)
          → r ≡ measured_told C g (at_form C count s)
      unfolding on_parsed
      at_fields m e r q = rw (fields_are, marks_are, exact_number _ m e) q

pub digits_narrow : (C r : ℕ) → r ≡ mark_digits C → r ≤ widest
digits_narrow C r e = (digits_few C r e).one

pub ruleset at_line_laws = (part_laws, digits_narrow, at_other, at_alone, at_marks, at_fields)

-- ---- `next_measured`
module _ (C : ℕ) (masks : List ℕ) (g : Gauges) (k prior : ℕ) where
  -- a line of its form that is refused for its own sake
  tested_refused : (m : Measured) (e : Refusal) → Err (number_of e) ≡ measured_tested C g m → number_of e ≡ at_refusal C masks g k prior m
  unfolding measured_tested tested_of at_refusal finished_state pick
  tested_refused m e h =
      by_test (leb (2 ^ C) (marks_of m.state))
      (λ d. by_test (any_outside m.values)
      (λ z. let c : Err (number_of e) ≡ Err 6 = rw z at h in let q : number_of e ≡ 6 = cc in rw d q)
      (λ z. let c : Err (number_of e) ≡ Err 6 = rw (z, d) at h in let q : number_of e ≡ 6 = cc in rw d q))
      (λ d. by_test (any_outside m.values)
      (λ z. let c : Err (number_of e) ≡ Err 6 = rw z at h in let q : number_of e ≡ 6 = cc in rw (d, z) q)
      (λ z. by_test (any_set g.atoms (atoms_of m.state))
      (λ b. let c : Err (number_of e) ≡ Err 20 = rw (z, d, b) at h in let q : number_of e ≡ 20 = cc in rw (d, z, b) q)
      (λ b. let c : Err (number_of e) ≡ Ok (finished_state g m) = rw (z, d, b) at h in cc)))

  -- a line that gives a state
  tested_gives : (m : Measured) (s : ℕ) → Ok s ≡ measured_tested C g m → (at_refusal C masks g k prior m ≡ state_refusal C masks k prior s) × (s ≡ finished_state g m)
  unfolding measured_tested tested_of at_refusal finished_state pick
  tested_gives m s h =
      by_test (any_outside m.values)
      (λ z. let c : Ok s ≡ Err 6 = rw z at h in cc)
      (λ z. by_test (leb (2 ^ C) (marks_of m.state))
      (λ d. let c : Ok s ≡ Err 6 = rw (z, d) at h in cc)
      (λ d. by_test (any_set g.atoms (atoms_of m.state))
      (λ b. let c : Ok s ≡ Err 20 = rw (z, d, b) at h in cc)
      (λ b. let c : Ok s ≡ Ok (finished_state g m) = rw (z, d, b) at h in let q : s ≡ finished_state g m = cc in (rw (d, z, b, q), q))))

  module _ (t : List ℕ) (there : accepted ≡ end_refusal recording_lines recording_form t) where
    abbrev form : List ℕ → Parsed Measured
    form = at_form C (length g.atoms)

    refused_by_form : (p : Parsed Measured) → form (line_of t) ≡ p → (e : Refusal) → Err (number_of e) ≡ measured_told C g p
        → Err (number_of e) ≡ at_told g (at_line C masks g k prior t)
    unfolding measured_told on_parsed
    refused_by_form (formed m) is e h =
        told_denied (finished_state g) recording_lines recording_form form (at_refusal C masks g k prior) t (omega arith) (omega arith) there m is e (tested_refused m e h)
    refused_by_form malformed is e h =
        h ∙ told_malformed (finished_state g) recording_lines recording_form form (at_refusal C masks g k prior) t (omega arith) (omega arith) there is

    module _ (s : ℕ) where
      denied_by_form : (p : Parsed Measured) → form (line_of t) ≡ p → Ok s ≡ measured_told C g p → (e : Refusal) → number_of e ≡ state_refusal C masks k prior s
          → Err (number_of e) ≡ at_told g (at_line C masks g k prior t)
      unfolding measured_told on_parsed
      denied_by_form (formed m) is h e q =
          told_denied (finished_state g) recording_lines recording_form form (at_refusal C masks g k prior) t (omega arith) (omega arith) there m is e (q ∙ sym (tested_gives m s h).0)
      denied_by_form malformed is h e q = cc

      read_by_form : (p : Parsed Measured) → form (line_of t) ≡ p → Ok s ≡ measured_told C g p → accepted ≡ state_refusal C masks k prior s
          → Ok s ≡ at_told g (at_line C masks g k prior t)
      unfolding measured_told on_parsed
      read_by_form (formed m) is h q =
          let o = tested_gives m s h in
          told_read (finished_state g) recording_lines recording_form form (at_refusal C masks g k prior) t (omega arith) (omega arith) there m is (q ∙ sym o.0) s o.1
      read_by_form malformed is h q = cc

module _ (C : ℕ) (masks : List ℕ) (gs : List Gauge) (k prior : ℕ) (t : List ℕ) where
  abbrev all : Gauges
  all = gauges_of gs

  -- `next_measured`, no line, or one that is not closed: `at_line` has that refusal
  pub measured_unread : (e : Refusal) → number_of e ≡ end_refusal recording_lines recording_form t → Err (number_of e) ≡ at_told all (at_line C masks all k prior t)
  measured_unread = told_unread (finished_state all) recording_lines recording_form (at_form C (length all.atoms)) (at_refusal C masks all k prior) t

  module _ (there : accepted ≡ end_refusal recording_lines recording_form t) (len : ℕ) (is : len ≡ line_length t) where
    line_answer : (r : Result ℕ ℕ) → r ≡ measured_told C all (at_form C (length gs) (take len t)) → r ≡ measured_told C all (at_form C (length all.atoms) (line_of t))
    line_answer r h = rw (length-map gs (λ g. g.atom), ← line_part t len is) h

    -- `next_measured`, a line that is refused for its form, its limits or a bit that is set: `at_line` has that refusal
    pub measured_refused : (e : Refusal) → Err (number_of e) ≡ measured_told C all (at_form C (length gs) (take len t)) → Err (number_of e) ≡ at_told all (at_line C masks all k prior t)
    measured_refused e h = refused_by_form C masks all k prior t there (at_form C (length all.atoms) (line_of t)) refl e (line_answer _ h)

    module _ (s : ℕ) (h : Ok s ≡ measured_told C all (at_form C (length gs) (take len t))) where
      -- `next_measured`, the finished state is refused: `at_line` has the refusal of `state_refusal`
      pub measured_denied : (e : Refusal) → number_of e ≡ state_refusal C masks k prior s → Err (number_of e) ≡ at_told all (at_line C masks all k prior t)
      measured_denied e q = denied_by_form C masks all k prior t there s (at_form C (length all.atoms) (line_of t)) refl (line_answer _ h) e q

      -- `next_measured`, accepted: `at_line` is the finished state
      pub measured_read : accepted ≡ state_refusal C masks k prior s → Ok s ≡ at_told all (at_line C masks all k prior t)
      measured_read q = read_by_form C masks all k prior t there s (at_form C (length all.atoms) (line_of t)) refl (line_answer _ h) q

pub ruleset measured_laws = (line_part_laws, measured_unread, measured_refused, measured_denied, measured_read)

-- ---- what a caller has of an answer
pub record AtIs (C : ℕ) (masks : List ℕ) (g : Gauges) (k prior : ℕ) (t : List ℕ) (s : ℕ) : Type 0 where
  pub measured : Measured
  pub is : at_line C masks g k prior t ≡ read measured (rest_of t)
  pub finishes : finished_state g measured ≡ s

module _ (C : ℕ) (masks : List ℕ) (g : Gauges) (k prior : ℕ) (t : List ℕ) where
  pub at_is : (s : ℕ) → Ok s ≡ at_told g (at_line C masks g k prior t) → AtIs C masks g k prior t s
  at_is s h =
      let b = told_back (finished_state g) recording_lines recording_form (at_form C (length g.atoms)) (at_refusal C masks g k prior) t s h in
      record { measured = b.value; is = b.is; finishes = b.gives }

  pub at_denied : (e : Refusal) → Err (number_of e) ≡ at_told g (at_line C masks g k prior t) → at_line C masks g k prior t ≡ refused (number_of e)
  at_denied e h = told_refused (finished_state g) (at_line C masks g k prior t) e h

-- ---- a line without values
alone_answer : (n : NextLine ℕ) → state_told n ≡ at_told no_gauges (on_next n refused (λ s rest. read (state_alone s) rest))
unfolding next_told on_next
alone_answer (refused number) = refl
alone_answer (read s rest) = ap Ok (sym (state_alone_lem s))

-- without gauges, the answer of `next_state` is that of `at_line`
pub without_values : (C : ℕ) (masks : List ℕ) (k prior : ℕ) (t : List ℕ) (r : Result ℕ ℕ) → r ≡ state_told (state_line C masks k prior t)
    → r ≡ at_told no_gauges (at_line C masks no_gauges k prior t)
without_values C masks k prior t r e = e ∙ (alone_answer (state_line C masks k prior t) ∙ ap (at_told no_gauges) (sym (line_alone C masks k prior t)))
