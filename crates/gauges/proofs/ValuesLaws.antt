-- Laws of the values of a line: value by value, and one law for each return and each turn.
use mathlib.Core.Path.{◌≡◌, refl, ap, sym, ◌∙◌}
use Prim.Native.Nat.{ℕ, zero, suc, ◌+◌, ◌-◌, ◌<◌, ◌≤◌}
use mathlib.Core.Bool.{Bool, true, false, ◌||◌}
use mathlib.Core.List.{List, ◌∷◌}
use lib.ListN.{length, take, drop, get_or}
use lib.IntN.{ℤ, pos}
use native.Mathlib.Omega.{arith}
use borrow.Author.Rules.{rules}
use Rattle.std.specs.Prelude.{Option, Some, None, option_map, Result, Ok, Err, ok_or}
use Rattle.std.proofs.lemmas.List.{get_or-map}
use Rattle.definitions.specs.Limits.{recording_limits}
use Rattle.definitions.specs.Bounded.{pick}
use Rattle.definitions.specs.Lines.{tab, before, has, up_to, after, Parsed, formed, malformed, on_parsed}
use Rattle.theorems.proofs.Choice.{by_test}
use Rattle.lines.proofs.PartLaws.{has_yes, has_no, up_to_part, after_part}
use Rattle.definitions.specs.Measures.{measure, in_limits}
use Rattle.definitions.specs.Gauges.{Gauge, values_after, any_outside, finished_bit, finished_from, finished}
use Rattle.measures.specs.Answers.{limited_to, limited}
use Rattle.rules.specs.Refusals.{number_of}
use Rattle.rules.specs.declared.refusal.Refusal.{Refusal}
use Rattle.rules.specs.declared.refusal.Refusal.TheVariants.{RecordingLimits}
use Rattle.lines.specs.Told.{told}
use Rattle.gauges.specs.Held.{gauge_in, atoms_of, thresholds_of}
use Rattle.gauges.specs.Values.{step_of, values_read}
use Rattle.gauges.specs.declared.gauge.Gauge as code
use Rattle.gauges.proofs.LineLaws.{gauge_of}

-- ---- value by value
-- a value that is not of its form ends the reading
abbrev on_step : Result (Option ℕ) ℕ → (Option ℕ → Result ℕ ℕ) → Result ℕ ℕ
on_step (Ok sofar) f = f sofar
on_step (Err number) f = Err number

-- what is left to read after the first field of t: so many values, from gauge k on, with the word so far
unfoldable pub turns : List ℕ → List ℤ → ℕ → ℕ → List ℕ → Option ℕ → Result ℕ ℕ
turns atoms thresholds zero k t sofar = pick (has tab t) (Err 5) (ok_or sofar recording_limits)
turns atoms thresholds (suc left) k t sofar =
    pick (has tab t)
    (on_step (step_of sofar (gauge_of (get_or atoms k 0) (get_or thresholds k (pos 0))) (limited (measure (up_to tab (after tab t)))))
    (λ next. turns atoms thresholds left (k + 1) (after tab t) next))
    (Err 5)

-- the word so far, by whether a value was outside its limits
abbrev kept : Bool → ℕ → Option ℕ
kept true w = None
kept false w = Some w

kept_map : (out : Bool) (w : ℕ) (f : ℕ → ℕ) → option_map f (kept out w) ≡ kept out (f w)
kept_map true w f = refl
kept_map false w f = refl

or_true : (out : Bool) → (out || true) ≡ true
or_true true = refl
or_true false = refl

-- a value in front of those that follow
value_more : (p : Parsed (List ℤ)) (z : ℤ) (f g : List ℤ → Result ℕ ℕ) → ((vs : List ℤ) → f vs ≡ g (z ∷ vs))
    → on_parsed p (Err 5) f ≡ on_parsed (on_parsed p malformed (λ vs. formed (z ∷ vs))) (Err 5) g
unfolding on_parsed
value_more (formed vs) z f g h = h vs
value_more malformed z f g h = refl

module _ (atoms : List ℕ) (thresholds : List ℤ) where
  -- what the definitions answer
  abbrev answer : ℕ → ℕ → Bool → List ℤ → Result ℕ ℕ
  answer k w out vs = pick (out || any_outside vs) (Err 6) (Ok (finished_from k atoms thresholds vs w))

  module _ (left k w : ℕ) (t : List ℕ) (out : Bool)
      (ih : (w : ℕ) (out : Bool) → turns atoms thresholds left (k + 1) t (kept out w) ≡ on_parsed (values_after left t) (Err 5) (answer (k + 1) w out)) where
    abbrev gauge : Gauge
    gauge = gauge_of (get_or atoms k 0) (get_or thresholds k (pos 0))

    abbrev next : Option ℕ → Result ℕ ℕ
    next sofar = turns atoms thresholds left (k + 1) t sofar

    abbrev both : Parsed ℤ → Result ℕ ℕ
    both p = on_parsed (on_parsed p malformed (λ v. on_parsed (values_after left t) malformed (λ vs. formed (v ∷ vs)))) (Err 5) (answer k w out)

    inside_more : (z : ℤ) → in_limits z ≡ true → (vs : List ℤ) → answer (k + 1) (finished_bit w gauge.atom gauge.threshold z) out vs ≡ answer k w out (z ∷ vs)
    unfolding any_outside finished_from
    inside_more z e vs = rw e

    outside_more : (z : ℤ) → in_limits z ≡ false → (vs : List ℤ) → answer (k + 1) w true vs ≡ answer k w out (z ∷ vs)
    unfolding any_outside pick
    outside_more z e vs = rw (e, or_true out)

    one_value : (p : Parsed ℤ) → on_step (step_of (kept out w) gauge (limited p)) next ≡ both p
    unfolding step_of limited limited_to on_parsed pick
    one_value (formed z) =
        by_test (in_limits z)
        (λ e.
        rw (e, kept_map out w (λ v. finished_bit v gauge.atom gauge.threshold z))
        (ih (finished_bit w gauge.atom gauge.threshold z) out
        ∙ value_more (values_after left t) z (answer (k + 1) (finished_bit w gauge.atom gauge.threshold z) out) (answer k w out) (inside_more z e)))
        (λ e. rw e (ih w true ∙ value_more (values_after left t) z (answer (k + 1) w true) (answer k w out) (outside_more z e)))
    one_value malformed = refl

  last_value : (w : ℕ) (out : Bool) → ok_or (kept out w) recording_limits ≡ pick (out || false) (Err 6) (Ok w)
  unfolding pick
  last_value w true = refl
  last_value w false = refl

  turns_are : (left k : ℕ) (t : List ℕ) (w : ℕ) (out : Bool) → turns atoms thresholds left k t (kept out w) ≡ on_parsed (values_after left t) (Err 5) (answer k w out)
  unfolding turns values_after on_parsed any_outside finished_from pick
  turns_are zero k t w out = by_test (has tab t) (λ e. rw e) (λ e. rw e (last_value w out))
  turns_are (suc left) k t w out =
      by_test (has tab t)
      (λ e. rw e (one_value left k w (after tab t) out (turns_are left (k + 1) (after tab t)) (measure (up_to tab (after tab t)))))
      (λ e. rw e)

-- ---- `values`
told_or : (sofar : Option ℕ) → told (ok_or sofar RecordingLimits) ≡ ok_or sofar recording_limits
told_or (Some w) = refl
told_or None = refl

-- the values before gauge i were read; t begins with the field before the next value, and has so many bytes before its tab
pub record Valuing (gauges : List code.Gauge) (word : ℕ) (s t : List ℕ) (here : ℕ) (sofar : Option ℕ) (i : ℕ) : Type 0 where
  pub within : i ≤ length gauges
  pub place : here ≡ before tab t
  pub left : values_read gauges word s ≡ turns (atoms_of gauges) (thresholds_of gauges) (length gauges - i) i t sofar

module _ (gauges : List code.Gauge) (word : ℕ) (s : List ℕ) where
  -- `values`, before the first turn: all of `values_read` is left
  pub values_start : (here : ℕ) → here ≡ before tab s → Valuing gauges word s s here (Some word) 0
  unfolding values_read finished
  values_start here p =
      let e : length gauges - 0 ≡ length gauges = omega arith in
      record { within = omega arith; place = p; left = rw e (sym (turns_are (atoms_of gauges) (thresholds_of gauges) (length gauges) 0 s word false)) }

  module _ (t : List ℕ) (here : ℕ) (sofar : Option ℕ) (i : ℕ) (inv : Valuing gauges word s t here sofar i) where
    last_turn : length gauges ≤ i → values_read gauges word s ≡ turns (atoms_of gauges) (thresholds_of gauges) 0 i t sofar
    last_turn h = let e : length gauges - i ≡ 0 = omega (arith, inv.within) in inv.left ∙ rw e

    -- `values`, a field too many: `values_read` is 5
    pub values_more : length gauges ≤ i → here < length t → Err 5 ≡ values_read gauges word s
    unfolding turns pick
    values_more h l = sym (last_turn h ∙ rw (has_yes tab t here inv.place l))

    -- `values`, no value is left: `values_read` is the word, or 6
    pub values_done : length gauges ≤ i → length t ≤ here → (r : Result ℕ Refusal) → r ≡ ok_or sofar RecordingLimits → told r ≡ values_read gauges word s
    unfolding turns pick
    values_done h l r e = rw e (told_or sofar ∙ sym (last_turn h ∙ rw (has_no tab t here inv.place l)))

    module _ (h : i < length gauges) where
      a_turn : values_read gauges word s ≡ turns (atoms_of gauges) (thresholds_of gauges) (suc (length gauges - (i + 1))) i t sofar
      a_turn = let e : length gauges - i ≡ suc (length gauges - (i + 1)) = omega arith in inv.left ∙ rw e

      -- `values`, a value is missing: `values_read` is 5
      pub values_none : length t ≤ here → Err 5 ≡ values_read gauges word s
      unfolding turns pick
      values_none l = sym (a_turn ∙ rw (has_no tab t here inv.place l))

      module _ (l : here < length t) (rest : List ℕ) (rs : rest ≡ drop (here + 1) t) (end : ℕ) (es : end ≡ before tab rest) (g : code.Gauge) (gs : g ≡ get_or gauges i g) where
        abbrev step : Result (Option ℕ) ℕ
        step = step_of sofar (gauge_in g) (limited (measure (take end rest)))

        one_more : values_read gauges word s ≡ on_step step (λ next. turns (atoms_of gauges) (thresholds_of gauges) (length gauges - (i + 1)) (i + 1) rest next)
        unfolding turns pick
        one_more =
            let a : get_or (atoms_of gauges) i 0 ≡ g.atom = get_or-map (λ (x : code.Gauge). x.atom) gauges i g 0 h ∙ ap (λ (x : code.Gauge). x.atom) (sym gs) in
            let b : get_or (thresholds_of gauges) i (pos 0) ≡ g.threshold = get_or-map (λ (x : code.Gauge). x.threshold) gauges i g (pos 0) h ∙ ap (λ (x : code.Gauge). x.threshold) (sym gs) in
            let c : after tab t ≡ rest = sym (after_part tab t here inv.place rest rs) in
            let d : up_to tab rest ≡ take end rest = sym (up_to_part tab rest end es) in
            a_turn ∙ rw (has_yes tab t here inv.place l, a, b, c, d)

        -- `values`, a value isn't of its form: `values_read` is 5
        pub values_form : (e : Refusal) → Err (number_of e) ≡ step → Err (number_of e) ≡ values_read gauges word s
        values_form e is = sym (one_more ∙ rw (← is))

        -- `values`, a turn: `values_read` has one value less to read
        pub values_next : (next : Option ℕ) → Ok next ≡ step → Valuing gauges word s rest end next (i + 1)
        values_next next is = record { within = omega arith; place = es; left = one_more ∙ rw (← is) }

pub ruleset values_laws = (rules, values_start, values_more, values_done, values_none, values_form, values_next)
