-- One line after the other (`take_line`, `step`): a law for each return.
use mathlib.Core.Path.{◌≡◌, refl, sym, ap, ◌∙◌}
use Prim.Native.Nat.{ℕ, ◌-◌, ◌<◌, min}
use native.Mathlib.Omega.{arith}
use mathlib.Core.Bool.{Bool, true, false}
use mathlib.Core.List.{List, []}
use lib.Dec.{eqb}
use lib.ListN.{length, take, drop, take-append-drop, length-drop, drop_of_length-le}
use native.Mathlib.Decide.{dec_lt}
use borrow.Author.Rules.{rules}
use borrow.Author.Tests.{ne_eqb, eq-eqb, eqb-true, eqb-false}
use Rattle.definitions.specs.Bounded.{pick}
use Rattle.definitions.specs.Lines.{is_empty}
use Rattle.definitions.specs.Sessions.{Space, lent_space}
use Rattle.definitions.specs.Watching as watching
use Rattle.definitions.specs.Watching.{begins_rule, opening_step, rule_step, event_step, step}
use Rattle.theorems.proofs.Choice.{by_test}
use Rattle.lines.proofs.PartLaws.{part_to_end}
use Rattle.printing.specs.Printing.{OutputIs}
use Rattle.printing.proofs.PrintLaws.{printed_none}
use Rattle.printing.proofs.LineLaws.{printed_all}
use Rattle.watch_program.specs.Events.{EventIs}
use Rattle.watch_opening.specs.Openings.{watch_of, text_with, space_after, SteppedIs}
use Rattle.watch_opening.specs.declared.phase.Phase.{Phase}
use Rattle.watch_opening.specs.declared.phase.Phase.TheVariants.{Opening, Running, Ruling, Ended}
use Rattle.watch_opening.specs.declared.phase.Stepped.{Stepped}

-- nothing is printed
silent : (output : List ℕ) → OutputIs [] output 0 output
silent output = printed_all [] output 0 output (printed_none output 0)

-- ---- `take_line`
module _ (line : List ℕ) (h : Space) (output : List ℕ) where
  module _ (z : Bool) (zs : z ≡ is_empty line) where
    -- `take_line`, the end of the input: nothing more is printed
    pub line_end_lem : z ≡ true → SteppedIs (event_step line h) line h output (record { phase = Ended; printed = 0 }) h output
    unfolding event_step pick
    line_end_lem e = rw (← zs, e) (record { watch = refl; left = refl; printed = silent output })

    module _ (n : z ≡ false) (b : Bool) (bs : b ≡ begins_rule line) where
      -- `take_line`, the word `rule`: `event_step` is `rule_step` of the line
      pub line_rule_lem : b ≡ true → (r : Stepped) (h' : Space) (output' : List ℕ) → SteppedIs (rule_step false line h) line h output r h' output' →
          SteppedIs (event_step line h) line h output r h' output'
      unfolding event_step pick
      line_rule_lem t r h' output' s = rw (← zs, n, ← bs, t) s

      -- `take_line`, another word: `event_step` is `line_step`
      pub line_event : b ≡ false → (r : ℕ) (h' : Space) (output' : List ℕ) → EventIs line h output r h' output' →
          SteppedIs (event_step line h) line h output (record { phase = Running; printed = r }) h' output'
      unfolding event_step pick
      line_event f r h' output' u =
          rw (← zs, n, ← bs, f) (record {
            watch = u.watch;
            left = sym (ap (λ (w : watching.Watch). space_after w h) u.watch);
            printed = printed_all _ output r output' u.printed;
          })

pub ruleset line_laws = (rules, line_end_lem, line_rule_lem, line_event)

-- ---- `step`
module _ (text : List ℕ) (from at : ℕ) (is : at ≡ min from (length text)) where
  -- nothing is left of the text where the line begins at its end
  ended_is : is_empty (drop from text) ≡ eqb at (length text)
  ended_is =
      by_test (eqb at (length text))
      (λ t. rw t (eq-eqb (length (drop from text)) 0 (omega (arith, length-drop from text, eqb-true at (length text) t))))
      (λ f. rw f (ne_eqb (length (drop from text)) 0 (λ q. eqb-false at (length text) f (omega (arith, length-drop from text)))))

  line_is : take (length text - at) (drop at text) ≡ drop from text
  line_is = go (dec_lt from (length text))
    where
      go : Dec (from < length text) → take (length text - at) (drop at text) ≡ drop from text
      go (yes p) = let e : at ≡ from = omega arith in rw e (part_to_end text from)
      go (no p) =
          let e : at ≡ length text = omega arith in
          part_to_end text at ∙ (drop_of_length-le text {i = at} (omega arith) ∙ sym (drop_of_length-le text {i = from} (omega arith)))

  module _ (phase : Phase) (heading masks nodes states output : List ℕ) where
    abbrev h : Space
    h = lent_space heading masks nodes states

    abbrev stepped : watching.Stepped
    stepped = step (drop from text) (watch_of phase (take from text) h)

    abbrev kept : List ℕ
    kept = text_with phase (take from text) (drop from text)

    -- `step`, the opening: `opening_step` of the text with this line
    pub step_opening : phase ≡ Opening → (r : Stepped) (h' : Space) (output' : List ℕ) → SteppedIs (opening_step (eqb at (length text)) text) text h output r h' output' →
        SteppedIs stepped kept h output r h' output'
    unfolding step
    step_opening e r h' output' s = rw (e, ended_is, take-append-drop from text) s

    -- `step`, an event: `event_step` of the line
    pub step_event : phase ≡ Running → (r : Stepped) (h' : Space) (output' : List ℕ) →
        SteppedIs (event_step (take (length text - at) (drop at text)) h) (take (length text - at) (drop at text)) h output r h' output' → SteppedIs stepped kept h output r h' output'
    unfolding step
    step_event e r h' output' s = rw e (rw line_is at s)

    -- `step`, a new rule: `rule_step` of its text with this line
    pub step_rule : phase ≡ Ruling → (r : Stepped) (h' : Space) (output' : List ℕ) → SteppedIs (rule_step (eqb at (length text)) text h) text h output r h' output' →
        SteppedIs stepped kept h output r h' output'
    unfolding step
    step_rule e r h' output' s = rw (e, ended_is, take-append-drop from text) s

    -- `step`, after the end: nothing
    pub step_over : phase ≡ Ended → SteppedIs stepped kept h output (record { phase = Ended; printed = 0 }) h output
    unfolding step
    step_over e = rw e (record { watch = refl; left = refl; printed = silent output })

pub ruleset step_laws = (rules, step_opening, step_event, step_rule, step_over)
