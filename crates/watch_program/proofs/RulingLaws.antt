-- A new rule (`replace_read`, `take_text`, `take_rule`): a law for each return.
use mathlib.Core.Path.{◌≡◌, refl, sym, ap, ◌∙◌}
use Prim.Native.Nat.{ℕ, ◌≤◌, ◌<◌}
use native.Mathlib.Omega.{arith}
use mathlib.Core.Bool.{Bool, true, false, not, ◌&&◌}
use mathlib.Core.List.{List, []}
use lib.Dec.{eqb}
use lib.ListN.{length, take, drop}
use borrow.Author.Rules.{rules}
use borrow.Author.Tests.{lt-ltb, le-ltb, ne_eqb}
use Rattle.definitions.specs.Limits.{accepted, rule_lines, max_input_bytes, input_long}
use Rattle.definitions.specs.Bounded.{pick}
use Rattle.definitions.specs.Tables.{Rule, rule_of}
use Rattle.definitions.specs.Lines.{line_length}
use Rattle.definitions.specs.RuleText.{scan_rule}
use Rattle.definitions.specs.Program.{refused_text}
use Rattle.definitions.specs.Sessions.{Space, lent_space, Call, Replace, replace_number, replaced, leaves}
use Rattle.definitions.specs.Watching as watching
use Rattle.definitions.specs.Watching.{event_text, status_text, begins_rule, replace_call, runs, refuses_event, calls, rule_so_far, rule_step}
use Rattle.lent.specs.Space.{laid}
use Rattle.lines.specs.declared.CutShort.{CutShort}
use Rattle.printing.specs.Printing.{Printed}
use Rattle.printing.proofs.PrintLaws.{printed_none}
use Rattle.printing.proofs.LineLaws.{printed_all}
use Rattle.report.proofs.ReportLaws.{refused_length}
use Rattle.rule_reader.specs.Reading.{RuleAccepted, RuleRefused}
use Rattle.rules.specs.Refusals.{number_of}
use Rattle.rules.specs.declared.refusal.Refusal.{Refusal}
use Rattle.rules.specs.declared.refusal.Refusal.TheVariants.{InputLong}
use Rattle.rules.specs.declared.rule.RuleHeading.{RuleHeading}
use Rattle.rules.proofs.RefusalLaws.{number_some}
use Rattle.session_status.specs.Status.{max_printed}
use Rattle.sessions.specs.Calls.{ReplaceIs}
use Rattle.watch_opening.specs.Openings.{SteppedIs}
use Rattle.watch_opening.specs.declared.phase.Phase.TheVariants.{Running, Ruling}
use Rattle.watch_opening.specs.declared.phase.Stepped.{Stepped}
use Rattle.watch_opening.proofs.OpeningLaws.{words_read}

-- an event that is refused, and one that is taken: what is printed is the line itself, or the session's
abbrev running : ℕ → Stepped
running r = record { phase = Running; printed = r }

tells_refused : (s : watching.Stepped) (number : ℕ) (line text : List ℕ) (h : Space) (output : List ℕ) (r : ℕ) (output' : List ℕ) → s ≡ refuses_event number line h →
    Printed (refused_text number (event_text line)) output 0 r output' → SteppedIs s text h output (running r) h output'
tells_refused s number line text h output r output' e p =
    rw e (record { watch = refl; left = refl; printed = printed_all (refused_text number (event_text line)) output r output' p })

tells_taken : (s : watching.Stepped) (text : List ℕ) (h h' : Space) (output : List ℕ) (r : ℕ) (output' : List ℕ) → s ≡ runs h' →
    Printed (status_text h') output 0 r output' → SteppedIs s text h output (running r) h' output'
tells_taken s text h h' output r output' e p = rw e (record { watch = refl; left = refl; printed = printed_all (status_text h') output r output' p })

-- ---- `replace_read`
module _ (rule : Rule) (text heading masks nodes states output heading' nodes' : List ℕ) where
  abbrev h : Space
  h = lent_space heading masks nodes states

  abbrev h' : Space
  h' = lent_space heading' masks nodes' states

  abbrev call : Call
  call = Replace rule

  module _ (number : ℕ) (o : ReplaceIs rule heading nodes number heading' nodes') where
    -- the masks and the states change neither its number nor what it leaves
    number_is : number ≡ replace_number rule h
    unfolding replace_number
    number_is = o.answered

    left_is : h' ≡ leaves call h
    unfolding leaves replace_number replaced pick
    left_is =
        ap (λ (k : Space). lent_space k.heading masks k.nodes states) o.left
        ∙ by_number (eqb (replace_number rule (lent_space heading [] nodes [])) accepted)
      where
        by_number : (z : Bool) → lent_space (pick z (replaced rule (lent_space heading [] nodes [])) (lent_space heading [] nodes [])).heading masks (pick z (replaced rule (lent_space heading [] nodes [])) (lent_space heading [] nodes [])).nodes states
            ≡ pick z (replaced rule h) h
        by_number true = refl
        by_number false = refl

  module _ (s : Stepped) (r : ℕ) (is : s ≡ running r) (output' : List ℕ) where
    -- `replace_read`, refused: `calls` prints the text's first line, and the former rule stays
    pub replace_refused : (e : Refusal) → ReplaceIs rule heading nodes (number_of e) heading' nodes' → Printed (refused_text (number_of e) (event_text text)) output 0 r output' →
        SteppedIs (calls text h call) text h output s h' output'
    unfolding calls leaves pick
    replace_refused e o p =
        let n = ne_eqb (number_of e) 0 (number_some e) in
        let kept : h' ≡ h = left_is (number_of e) o ∙ rw (← number_is (number_of e) o, n) refl in
        rw (is, kept) (tells_refused (calls text h call) (number_of e) text text h output r output' (rw (← number_is (number_of e) o, n) refl) p)

    -- `replace_read`, taken: `calls` goes on with what the call leaves, and prints its line
    pub replace_taken : ReplaceIs rule heading nodes accepted heading' nodes' → Printed (status_text h') output 0 r output' →
        SteppedIs (calls text h call) text h output s h' output'
    unfolding calls pick
    replace_taken o p =
        let goes : calls text h call ≡ runs (leaves call h) = rw (← number_is accepted o) refl in
        rw is (tells_taken (calls text h call) text h h' output r output' (goes ∙ ap runs (sym (left_is accepted o))) p)

pub ruleset replace_laws = (rules, replace_refused, replace_taken)

-- ---- `take_text`
module _ (ended : Bool) (text : List ℕ) (h : Space) (output : List ℕ) where
  module _ (cut : CutShort RuleHeading) (t : RuleRefused text cut) where
    denied : eqb (scan_rule text).number accepted ≡ false
    denied = ne_eqb (scan_rule text).number 0 (λ q. number_some cut.stop.refusal (t.number ∙ q))

    module _ (b : Bool) (bs : b ≡ (not ended && eqb (number_of cut.stop.refusal) rule_lines)) where
      lacks : (not ended && eqb (scan_rule text).number rule_lines) ≡ b
      lacks = sym (rw t.number at bs)

      -- `take_text`, only lines are missing: `rule_so_far` waits
      pub rule_waits : b ≡ true → SteppedIs (rule_so_far ended text h) text h output (record { phase = Ruling; printed = 0 }) h output
      unfolding rule_so_far pick
      rule_waits e = rw (denied, lacks ∙ e) (record { watch = refl; left = refl; printed = printed_all [] output 0 output (printed_none output 0) })

      -- `take_text`, a line is refused: `rule_so_far` prints it, and the former rule stays
      pub rule_refused : b ≡ false → (s : Stepped) (r : ℕ) → s ≡ running r → (output' : List ℕ) →
          Printed (refused_text (number_of cut.stop.refusal) (event_text (drop cut.stop.at text))) output 0 r output' →
          SteppedIs (rule_so_far ended text h) text h output s h output'
      unfolding rule_so_far pick
      rule_refused e s r se output' p =
          let is : rule_so_far ended text h ≡ refuses_event (scan_rule text).number (scan_rule text).rest h = rw (denied, lacks ∙ e) refl in
          rw se (tells_refused (rule_so_far ended text h) (scan_rule text).number (scan_rule text).rest text h output r output' is (rw (t.number, t.rest) at p))

  -- `take_text`, all was read: `rule_so_far` is the call
  pub rule_read_lem : (u : RuleHeading) (a : RuleAccepted text u) (entry words : List ℕ) → words ≡ laid (scan_rule text).words entry → (r : Stepped) (h' : Space) (output' : List ℕ) →
      SteppedIs (calls text h (Replace (rule_of u.controller u.count (take u.count words)))) text h output r h' output' →
      SteppedIs (rule_so_far ended text h) text h output r h' output'
  unfolding rule_so_far pick
  rule_read_lem u a entry words e r h' output' p =
      let fine : (scan_rule text).number ≡ 0 = sym a.number in
      let is : rule_so_far ended text h ≡ calls text h (replace_call (scan_rule text)) = rw fine refl in
      rw is (rw (words_read text entry words u a e, a.controller, a.count) at p)

pub ruleset text_laws = (rules, rule_waits, rule_refused, rule_read_lem)

-- ---- `take_rule`
pub long_room : (output : List ℕ) → max_printed ≤ length output → length (refused_text input_long []) ≤ length output
long_room output room = omega (arith, refused_length InputLong [] (omega arith))

module _ (ended : Bool) (text : List ℕ) (h : Space) (output : List ℕ) where
  -- too long: `rule_step` prints no line, and the former rule stays
  pub rule_long : max_input_bytes < length text → (s : Stepped) (r : ℕ) → s ≡ running r → (output' : List ℕ) → Printed (refused_text input_long []) output 0 r output' →
      SteppedIs (rule_step ended text h) text h output s h output'
  unfolding rule_step pick line_length
  rule_long l s r se output' p =
      let is : rule_step ended text h ≡ refuses_event input_long [] h = rw (lt-ltb max_input_bytes (length text) l) refl in
      rw se (tells_refused (rule_step ended text h) input_long [] text h output r output' is p)

  -- not too long: `rule_step` is the text so far
  pub rule_short : length text ≤ max_input_bytes → (r : Stepped) (h' : Space) (output' : List ℕ) → SteppedIs (rule_so_far ended text h) text h output r h' output' →
      SteppedIs (rule_step ended text h) text h output r h' output'
  unfolding rule_step pick
  rule_short l r h' output' p = rw (le-ltb max_input_bytes (length text) l) p

pub ruleset rule_laws = (rules, long_room, rule_long, rule_short)
