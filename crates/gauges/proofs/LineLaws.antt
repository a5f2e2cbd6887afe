-- Laws of gauge lines: one for each return, and what a caller has of an answer.
use mathlib.Core.Path.{◌≡◌, refl, ap, sym, ◌∙◌}
use Prim.Native.Nat.{ℕ, ◌<◌, ◌≤◌}
use mathlib.Core.Bool.{Bool, true, false, ◌&&◌}
use mathlib.Core.List.{List, [], ◌∷◌}
use lib.ListN.{length, take}
use lib.Dec.{eqb, ltb}
use lib.IntN.{ℤ}
use native.Mathlib.Omega.{arith}
use mir.Syntax.{w32}
use mir.Val.{SFits}
use borrow.Author.Rules.{rules, sfits_of}
use borrow.Author.Tests.{ne_eqb, lt-ltb, le-ltb, ltb-true, ltb-false}
use Rattle.std.specs.Prelude.{Option, Some, None, Result, Ok, Err, is_some}
use Rattle.std.specs.Borrow.{Bor}
use Rattle.std.specs.List.{list_any}
use Rattle.std.proofs.lemmas.Option.{none-some}
use Rattle.definitions.specs.Limits.{atom_count, accepted, recording_form, recording_lines}
use Rattle.definitions.specs.Bounded.{pick, bit_of}
use Rattle.definitions.specs.Lines.{tab, newline, before, has, up_to, is_empty, is_closed, line_length, line_of, rest_of, Parsed, formed, malformed, on_parsed, decimal, same, refused, read, next_line}
use Rattle.theorems.proofs.Choice.{by_test}
use Rattle.lines.specs.Parts.{split}
use Rattle.lines.specs.Reading.{end_refusal}
use Rattle.lines.specs.Told.{next_told}
use Rattle.lines.proofs.PartLaws.{split_no, split_yes}
use Rattle.lines.proofs.NextLaws.{line_part, line_part_laws, end_fine}
use Rattle.lines.proofs.ToldLaws.{told_unread}
use Rattle.fields.specs.Fields.{cap, capped}
use Rattle.fields.specs.Forms.{part_in, after_word}
use Rattle.fields.proofs.FieldLaws.{and_no, cap_below, cap_exact, Read, capped_read, taken_none}
use Rattle.fields.proofs.FormLaws.{worded_none, worded_some}
use Rattle.definitions.specs.Measures.{measure, in_limits}
use Rattle.definitions.specs.Gauges.{among, any_set, Gauge, gauge_word, gauge_fields, gauge_form, gauge_refusal}
use Rattle.definitions.specs.RecordingText.{gauge_line}
use Rattle.measures.specs.Answers.{limited, refusal_for}
use Rattle.measures.specs.declared.Flaw.{Flaw}
use Rattle.measures.specs.declared.Flaw.TheVariants.{Outside, Malformed}
use Rattle.measures.proofs.SignLaws.{held, held_is}
use Rattle.measures.proofs.MeasureLaws.{limited_value, limited_outside, limited_malformed}
use Rattle.rules.specs.Refusals.{number_of}
use Rattle.rules.specs.declared.refusal.Refusal.{Refusal}
use Rattle.gauges.specs.Held.{atoms_of}
use Rattle.gauges.specs.Lines.{gauge_answer, gauge_next}
use Rattle.gauges.specs.declared.gauge.Gauge as code

-- ---- `among` and `any_set`
pub any_among : (a : ℕ) (gauges : List code.Gauge) → list_any (λ g. eqb a g.atom) gauges ≡ among a (atoms_of gauges)
unfolding among
any_among a [] = refl
any_among a (g ∷ gauges) = rw (any_among a gauges)

pub any_bit : (w : ℕ) (gauges : List code.Gauge) → list_any (λ g. bit_of w g.atom) gauges ≡ any_set (atoms_of gauges) w
unfolding any_set
any_bit w [] = refl
any_bit w (g ∷ gauges) = rw (any_bit w gauges)

-- ---- `gauge_fields`
-- a gauge of these
abbrev pub gauge_of : (atom : ℕ) (threshold : ℤ) → Gauge
gauge_of atom threshold = record { atom = atom; threshold = threshold }

-- what is answered of a gauge of its form
module _ (earlier : List ℕ) (a : ℕ) (z : ℤ) (fits : in_limits z ≡ true) where
  answer_high : atom_count ≤ a → Err 6 ≡ gauge_answer earlier (formed (gauge_of a z))
  unfolding gauge_answer gauge_refusal on_parsed pick
  answer_high h = rw (le-ltb a atom_count h)

  module _ (h : a < atom_count) where
    answer_second : among a earlier ≡ true → Err 19 ≡ gauge_answer earlier (formed (gauge_of a z))
    unfolding gauge_answer gauge_refusal on_parsed pick
    answer_second e = rw (lt-ltb a atom_count h, fits, e)

    answer_gauge : among a earlier ≡ false → Ok (gauge_of a z) ≡ gauge_answer earlier (formed (gauge_of a z))
    unfolding gauge_answer gauge_refusal on_parsed pick
    answer_gauge e = rw (lt-ltb a atom_count h, fits, e)

module _ (earlier s : List ℕ) where
  -- `gauge_fields`, no tab: `gauge_fields` is malformed
  pub fields_missed : None ≡ split tab s → Err 5 ≡ gauge_answer earlier (gauge_fields s)
  unfolding gauge_answer gauge_fields on_parsed pick
  fields_missed e = rw (split_no tab s e)

  module _ (x y : List ℕ) (parts : Some (x, y) ≡ split tab s) where
    by_parts : gauge_fields s ≡ on_parsed (decimal x) malformed (λ a. on_parsed (measure y) malformed (λ t. formed (gauge_of a t)))
    unfolding gauge_fields pick
    by_parts = let p = split_yes tab s x y parts in rw (p.there, p.front, p.back)

    -- `gauge_fields`, no atom: `gauge_fields` is malformed
    pub fields_atom : None ≡ capped (decimal x) → Err 5 ≡ gauge_answer earlier (gauge_fields s)
    unfolding gauge_answer on_parsed
    fields_atom e = rw (by_parts, taken_none cap (decimal x) e)

    module _ (a : ℕ) (one : Some a ≡ capped (decimal x)) where
      atom_is : Read (decimal x) a
      atom_is = capped_read (decimal x) a one

      -- `gauge_fields`, no threshold, or one outside its limits: 5 or 6
      pub fields_flaw : (flaw : Flaw) → Err flaw ≡ limited (measure y) → Err (number_of (refusal_for flaw)) ≡ gauge_answer earlier (gauge_fields s)
      unfolding gauge_answer gauge_refusal on_parsed pick
      fields_flaw Outside e = let o = limited_outside (measure y) e in rw (by_parts, atom_is.is, o.is, o.out, and_no (ltb atom_is.number atom_count))
      fields_flaw Malformed e = rw (by_parts, atom_is.is, limited_malformed (measure y) e)

      module _ (z : ℤ) (two : Ok z ≡ limited (measure y)) where
        both : gauge_fields s ≡ formed (gauge_of atom_is.number z)
        unfolding on_parsed
        both = rw (by_parts, atom_is.is, (limited_value (measure y) z two).0)

        -- `gauge_fields`, an atom above 31: 6
        pub fields_high : atom_count ≤ a → Err 6 ≡ gauge_answer earlier (gauge_fields s)
        fields_high h =
            let test : ltb atom_is.number atom_count ≡ false = sym (cap_below atom_is.number atom_count (omega arith)) ∙ rw (← atom_is.answered) (le-ltb a atom_count h) in
            rw both (answer_high earlier atom_is.number z (limited_value (measure y) z two).1 (ltb-false atom_is.number atom_count test))

        module _ (h : a < atom_count) where
          exactly : atom_is.number ≡ a
          exactly = sym (atom_is.answered ∙ cap_exact atom_is.number (omega (arith, atom_is.answered)))

          -- `gauge_fields`, an atom that has a gauge: 19
          pub fields_second : (p : Bool) → p ≡ among a earlier → p ≡ true → Err 19 ≡ gauge_answer earlier (gauge_fields s)
          fields_second p is e = rw (both, exactly) (answer_second earlier a z (limited_value (measure y) z two).1 h (sym is ∙ e))

          -- `gauge_fields`, accepted: the gauge
          pub fields_gauge : (p : Bool) → p ≡ among a earlier → p ≡ false → SFits w32 z → Ok (gauge_of a (held z)) ≡ gauge_answer earlier (gauge_fields s)
          fields_gauge p is e fits = rw (held_is z fits, both, exactly) (answer_gauge earlier a z (limited_value (measure y) z two).1 h (sym is ∙ e))

pub ruleset gauge_fields_laws = (rules, fields_missed, fields_atom, fields_flaw, fields_high, fields_second, fields_gauge)

-- ---- `is_gauge`
pub opens_is : (w s : List ℕ) (r : Option (Bor (List ℕ))) → part_in r ≡ after_word w s → is_some r ≡ (same (up_to tab s) w && has tab s)
unfolding after_word pick
opens_is w s None e = by_test (same (up_to tab s) w && has tab s) (λ h. absurd (none-some _ (rw h at e))) (λ h. rw h)
opens_is w s (Some part) e = by_test (same (up_to tab s) w && has tab s) (λ h. rw h) (λ h. absurd (none-some _ (sym (rw h at e))))

-- ---- `next_gauge`
answer_next : (earlier rest : List ℕ) (p : Parsed Gauge)
    → gauge_answer earlier p ≡ gauge_next (on_parsed p (refused recording_form) (λ g. pick (eqb (gauge_refusal earlier g) accepted) (read g rest) (refused (gauge_refusal earlier g))))
unfolding next_told gauge_answer on_parsed pick
answer_next earlier rest (formed g) = by_test (eqb (gauge_refusal earlier g) accepted) (λ e. rw e) (λ e. rw e)
answer_next earlier rest malformed = refl

closed_next : (earlier t : List ℕ) → is_closed t ≡ true → gauge_answer earlier (gauge_form (line_of t)) ≡ gauge_next (gauge_line earlier t)
unfolding next_line pick
closed_next earlier t h =
    let some : is_empty t ≡ false = ne_eqb (length t) 0 (λ q. omega (arith, ltb-true (before newline t) (length t) h)) in
    rw (some, h) (answer_next earlier (rest_of t) (gauge_form (line_of t)))

module _ (earlier t : List ℕ) where
  -- `next_gauge`, no line, or one that is not closed: it has that refusal
  pub gauge_unread : (e : Refusal) → number_of e ≡ end_refusal recording_lines recording_form t → Err (number_of e) ≡ gauge_next (gauge_line earlier t)
  gauge_unread e h = told_unread (λ g. g) recording_lines recording_form gauge_form (gauge_refusal earlier) t e h

  module _ (there : accepted ≡ end_refusal recording_lines recording_form t) (len : ℕ) (is : len ≡ line_length t) where
    by_form : gauge_answer earlier (gauge_form (take len t)) ≡ gauge_next (gauge_line earlier t)
    by_form = ap (λ (s : List ℕ). gauge_answer earlier (gauge_form s)) (line_part t len is) ∙ closed_next earlier t (end_fine recording_lines recording_form t (omega arith) (omega arith) there)

    -- `next_gauge`, another word: the line is malformed
    pub gauge_other : None ≡ after_word gauge_word (take len t) → Err 5 ≡ gauge_next (gauge_line earlier t)
    unfolding gauge_answer gauge_form on_parsed
    gauge_other e = rw (worded_none gauge_word (take len t) gauge_fields e) at by_form

    -- `next_gauge`, its word: the line is its fields
    pub gauge_closed : (s : List ℕ) → Some s ≡ after_word gauge_word (take len t) → (r : Result Gauge ℕ) → r ≡ gauge_answer earlier (gauge_fields s) → r ≡ gauge_next (gauge_line earlier t)
    unfolding gauge_form
    gauge_closed s e r a = a ∙ (ap (gauge_answer earlier) (sym (worded_some gauge_word (take len t) gauge_fields s e)) ∙ by_form)

pub ruleset next_gauge_laws = (line_part_laws, gauge_unread, gauge_other, gauge_closed)
