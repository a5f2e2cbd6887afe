-- The opening (`refuse`, `open_read`, `open_texts`, `open`): a law for each return, and room for what is printed.
use mathlib.Core.Path.{◌≡◌, refl, sym, ap, ◌∙◌}
use Prim.Native.Nat.{ℕ, ◌<◌, ◌≤◌}
use native.Mathlib.Omega.{arith}
use mathlib.Core.Bool.{Bool, true, false, not, ◌&&◌}
use mathlib.Core.List.{List, []}
use lib.Dec.{eqb}
use lib.ListN.{length, take, drop, drop_of_length-le}
use lib.Seq.{length-take-le, take_at}
use borrow.Author.Rules.{rules}
use borrow.Author.Tests.{ne_eqb, le-ltb, lt-ltb, eqb-true, eqb-false}
use Rattle.definitions.specs.Limits.{max_controllers, max_rule_nodes, max_states, max_input_bytes, accepted, recording_lines, input_long}
use Rattle.definitions.specs.Bounded.{pick}
use Rattle.definitions.specs.Tables.{Rule, rule_of}
use Rattle.definitions.specs.Lines.{line_of}
use Rattle.definitions.specs.RuleText.{scan_rule}
use Rattle.definitions.specs.Operations.{left}
use Rattle.definitions.specs.Program.{refused_text, rule_length, rule_text_in, recording_text_in}
use Rattle.definitions.specs.Sessions.{Space, space_of, Held, Call, Open, number_of as call_number, open_number, open_refusal, opened, leaves}
use Rattle.definitions.specs.Watching as watching
use Rattle.definitions.specs.Watching.{scan_session, Opened, Unfinished, Refuses, Opens, empty_space, open_call, opened_by, opened_on, opened_texts, opening_of, status_text, opens_on, opening_step}
use Rattle.theorems.proofs.Choice.{by_test, both_true}
use Rattle.theorems.proofs.LentSpace.{left_accepted}
use Rattle.theorems.proofs.InputSplit.{split_inside}
use Rattle.lent.specs.Space.{laid}
use Rattle.lines.specs.declared.CutShort.{CutShort}
use Rattle.lines.specs.declared.Stop.{Stop}
use Rattle.rule_reader.specs.Reading.{RuleAccepted, RuleRefused}
use Rattle.rules.specs.declared.rule.RuleHeading.{RuleHeading}
use Rattle.printing.specs.Printing.{Printed}
use Rattle.printing.proofs.PrintLaws.{printed_none}
use Rattle.printing.proofs.LineLaws.{printed_all}
use Rattle.program_input.specs.Splitting.{SplitIs}
use Rattle.program_input.specs.declared.Parts.{Parts}
use Rattle.report.specs.Reporting.{LineRoom}
use Rattle.report.proofs.ReportLaws.{refused_length}
use Rattle.rules.specs.Refusals.{number_of}
use Rattle.rules.specs.declared.refusal.Refusal.{Refusal}
use Rattle.rules.specs.declared.refusal.Refusal.TheVariants.{InputLong}
use Rattle.rules.proofs.RefusalLaws.{number_some}
use Rattle.session_status.specs.Status.{max_printed}
use Rattle.watch_opening.specs.Openings.{SessionRead, SessionStopped, OpenRoom, TextsRoom, opened_phase, opened_text, opened_space, RefusedIs, OpenStep, SteppedIs}
use Rattle.watch_opening.specs.declared.phase.Phase.TheVariants.{Opening, Running, Ended}
use Rattle.watch_opening.specs.declared.phase.Stepped.{Stepped}

-- ---- `refuse`
-- what is printed is the refusal of the line that begins there
pub refuse_done : (number : ℕ) (line output : List ℕ) (r : ℕ) (output' : List ℕ) → Printed (refused_text number line) output 0 r output' →
    RefusedIs (Refuses number line) output (record { phase = Ended; printed = r }) output'
unfolding opened_phase opened_text
refuse_done number line output r output' p = record { phase = refl; printed = p }

-- a refused line leaves lent space as it is
denied : (o : Opened) (number : ℕ) (line : List ℕ) (h : Space) (output output' : List ℕ) (r : Stepped) → o ≡ Refuses number line →
    RefusedIs (Refuses number line) output r output' → OpenStep o h output r h output'
unfolding opened_space
denied o number line h output output' r e d = rw e (record { phase = d.phase; printed = d.printed; left = refl })

-- ---- `open_read`
-- lent space of just its full size
pub record Sized (h : Space) : Type 0 where
  pub masks_full : length h.masks ≡ max_controllers
  pub nodes_full : length h.nodes ≡ max_rule_nodes
  pub states_full : length h.states ≡ max_states

-- what an opening answers and leaves there
whole_left : (full : ℕ) (content entry other : List ℕ) → length entry ≡ full → length other ≡ full → left accepted full content entry ≡ left accepted full content other
whole_left full content entry other p q =
    left_accepted full content entry
    ∙ (rw (drop_of_length-le entry {i = full} (omega arith), ← drop_of_length-le other {i = full} (omega arith)) (sym (left_accepted full content other)))

module _ (C : ℕ) (owned : List ℕ) (rule : Rule) where
  abbrev call : Call
  call = Open C owned rule

  number_sized : (h : Space) → Sized h → open_number C owned rule h ≡ open_refusal C owned rule
  unfolding open_number pick
  number_sized h s =
      rw (
        le-ltb (length h.masks) max_controllers (omega (arith, s.masks_full)),
        le-ltb (length h.nodes) max_rule_nodes (omega (arith, s.nodes_full)),
        le-ltb (length h.states) max_states (omega (arith, s.states_full)),
      )

  space_sized : (a : Held) (h k : Space) → Sized h → Sized k → space_of a h ≡ space_of a k
  unfolding space_of
  space_sized a h k s u =
      rw (
        whole_left max_controllers a.masks h.masks k.masks s.masks_full u.masks_full,
        whole_left max_rule_nodes a.rule.nodes h.nodes k.nodes s.nodes_full u.nodes_full,
        whole_left max_states a.states h.states k.states s.states_full u.states_full,
      )

  leaves_sized : (h k : Space) → Sized h → Sized k → open_number C owned rule h ≡ 0 → leaves call h ≡ leaves call k
  unfolding leaves pick
  leaves_sized h k s u z =
      let zk : open_number C owned rule k ≡ 0 = number_sized k u ∙ (sym (number_sized h s) ∙ z) in
      rw (z, zk) (space_sized (opened C owned rule) h k s u)

empty_sized : Sized empty_space
empty_sized = record { masks_full = refl; nodes_full = refl; states_full = refl }

opened_refuses : (text : List ℕ) (c : Call) (number : ℕ) → number ≡ call_number c empty_space → (number ≡ 0 → ⊥) → opened_by text c ≡ Refuses number (line_of text)
unfolding opened_by pick
opened_refuses text c number e z = rw (← e, ne_eqb number 0 z)

opened_opens : (text : List ℕ) (c : Call) → call_number c empty_space ≡ 0 → opened_by text c ≡ Opens c
unfolding opened_by pick
opened_opens text c e = rw e

pub first_line_room : (text output : List ℕ) → OpenRoom text output → LineRoom text 0 output
first_line_room text output room = record { inside = omega arith; fits = room.fits; room = omega (arith, room.room) }

module _ (C : ℕ) (owned : List ℕ) (rule : Rule) (text output : List ℕ) (h h' : Space) (sized : Sized h) (left : h' ≡ leaves (Open C owned rule) h) where
  abbrev opens : Opened
  opens = opened_by text (Open C owned rule)

  -- `open_read`, refused: `opened_by` is the refusal of the text's first line
  pub read_refused : (e : Refusal) → number_of e ≡ open_number C owned rule h → (r : Stepped) (output' : List ℕ) → RefusedIs (Refuses (number_of e) (line_of text)) output r output' →
      OpenStep opens h output r h' output'
  unfolding leaves pick
  read_refused e n r output' d =
      let number_is : number_of e ≡ open_number C owned rule empty_space
      = n ∙ (number_sized C owned rule h sized ∙ sym (number_sized C owned rule empty_space empty_sized)) in
      let kept : h' ≡ h = left ∙ rw (← n, ne_eqb (number_of e) 0 (number_some e)) refl in
      rw kept (denied opens (number_of e) (line_of text) h output output' r (opened_refuses text (Open C owned rule) (number_of e) number_is (number_some e)) d)

  -- `open_read`, taken: `opened_by` opens the session
  pub read_opened : accepted ≡ open_number C owned rule h → (r : ℕ) (output' : List ℕ) → Printed (status_text h') output 0 r output' →
      OpenStep opens h output (record { phase = Running; printed = r }) h' output'
  unfolding opened_phase opened_text opened_space
  read_opened n r output' p =
      let number_is : open_number C owned rule empty_space ≡ 0
      = number_sized C owned rule empty_space empty_sized ∙ (sym (number_sized C owned rule h sized) ∙ sym n) in
      let is : h' ≡ leaves (Open C owned rule) empty_space = left ∙ leaves_sized C owned rule h empty_space sized empty_sized (sym n) in
      rw (opened_opens text (Open C owned rule) number_is) (record { phase = refl; printed = rw (← is) p; left = is })

pub ruleset read_laws = (rules, first_line_room, read_refused, read_opened)

-- ---- `open_texts`
module _ (ended : Bool) (rule session : List ℕ) where
  rule_refuses : ((scan_rule rule).number ≡ 0 → ⊥) → opened_texts ended rule session ≡ Refuses (scan_rule rule).number (line_of (scan_rule rule).rest)
  unfolding opened_texts pick
  rule_refuses z = rw (ne_eqb (scan_rule rule).number 0 z)

  module _ (a : (scan_rule rule).number ≡ 0) where
    session_refuses : ((scan_session session).number ≡ 0 → ⊥) → (not ended && eqb (scan_session session).number recording_lines) ≡ false →
        opened_texts ended rule session ≡ Refuses (scan_session session).number (line_of (scan_session session).rest)
    unfolding opened_texts opened_on pick
    session_refuses z e = rw (a, ne_eqb (scan_session session).number 0 z, e)

    session_waits : ((scan_session session).number ≡ 0 → ⊥) → (not ended && eqb (scan_session session).number recording_lines) ≡ true →
        opened_texts ended rule session ≡ Unfinished
    unfolding opened_texts opened_on pick
    session_waits z e = rw (a, ne_eqb (scan_session session).number 0 z, e)

    session_opens : (scan_session session).number ≡ 0 → opened_texts ended rule session ≡ opened_by rule (open_call (scan_rule rule) (scan_session session))
    unfolding opened_texts opened_on pick
    session_opens z = rw (a, z)

not_true : (b : Bool) → not b ≡ true → b ≡ false
not_true true e = sym e
not_true false e = refl

waits : (o : Opened) (h : Space) (output : List ℕ) → o ≡ Unfinished → OpenStep o h output (record { phase = Opening; printed = 0 }) h output
unfolding opened_phase opened_text opened_space
waits o h output e = rw e (record { phase = refl; printed = printed_none output 0; left = refl })

module _ (rule session output : List ℕ) (room : TextsRoom rule session output) where
  pub texts_open_room : OpenRoom rule output
  texts_open_room = room.opens

  pub rule_room : (at : ℕ) → at ≤ length rule → LineRoom rule at output
  rule_room at h = record { inside = h; fits = room.opens.fits; room = omega (arith, room.opens.room) }

  pub session_room : (stop : Stop) → SessionStopped session stop → LineRoom session stop.at output
  session_room stop t = record { inside = t.inside; fits = room.fits; room = omega (arith, room.opens.room) }

-- what a rule text that is accepted leaves in lent space: its words at the front
pub words_read : (text entry words : List ℕ) (h : RuleHeading) → RuleAccepted text h → words ≡ laid (scan_rule text).words entry → take h.count words ≡ (scan_rule text).words
words_read text entry words h a e = rw e (take_at (scan_rule text).words (drop (length (scan_rule text).words) entry) h.count a.nodes_count)

module _ (ended : Bool) (rule session : List ℕ) (h : Space) (output : List ℕ) where
  abbrev texts : Opened
  texts = opened_texts ended rule session

  -- `open_texts`, the rule text is refused: so is `opened_texts`
  pub texts_rule_refused : (cut : CutShort RuleHeading) → RuleRefused rule cut → (r : Stepped) (output' : List ℕ) →
      RefusedIs (Refuses (number_of cut.stop.refusal) (line_of (drop cut.stop.at rule))) output r output' → OpenStep texts h output r h output'
  texts_rule_refused cut t r output' d =
      denied texts (scan_rule rule).number (line_of (scan_rule rule).rest) h output output' r
      (rule_refuses ended rule session (λ q. number_some cut.stop.refusal (t.number ∙ q))) (rw (t.number, t.rest) at d)

  module _ (u : RuleHeading) (a : RuleAccepted rule u) where
    rule_fine : (scan_rule rule).number ≡ 0
    rule_fine = sym a.number

    module _ (stop : Stop) (t : SessionStopped session stop) where
      session_some : (scan_session session).number ≡ 0 → ⊥
      session_some q = number_some stop.refusal (t.number ∙ q)

      -- `open_texts`, only lines are missing: `opened_texts` is unfinished
      pub texts_waiting : (b : Bool) → b ≡ (not ended && eqb (number_of stop.refusal) recording_lines) → b ≡ true →
          OpenStep texts h output (record { phase = Opening; printed = 0 }) h output
      texts_waiting b e z = waits texts h output (session_waits ended rule session rule_fine session_some (rw t.number at (sym e ∙ z)))

      -- `open_texts`, a line of the session is refused: so is `opened_texts`
      pub texts_session_refused : (b : Bool) → b ≡ (not ended && eqb (number_of stop.refusal) recording_lines) → b ≡ false → (r : Stepped) (output' : List ℕ) →
          RefusedIs (Refuses (number_of stop.refusal) (line_of (drop stop.at session))) output r output' → OpenStep texts h output r h output'
      texts_session_refused b e z r output' d =
          denied texts (scan_session session).number (line_of (scan_session session).rest) h output output' r
          (session_refuses ended rule session rule_fine session_some (rw t.number at (sym e ∙ z))) (rw (t.number, t.rest) at d)

    -- `open_texts`, both were read: `opened_texts` is `opened_by` of them
    pub texts_opened : (entry words : List ℕ) → words ≡ laid (scan_rule rule).words entry → (C : ℕ) (owned : List ℕ) → SessionRead session C owned →
        (r : Stepped) (h' : Space) (output' : List ℕ) → OpenStep (opened_by rule (Open C (take C owned) (rule_of u.controller u.count (take u.count words)))) h output r h' output' →
        OpenStep texts h output r h' output'
    texts_opened entry words e C owned t r h' output' p =
        rw (session_opens ended rule session rule_fine (sym t.number)) (rw (t.masks, words_read rule entry words u a e, t.controllers, a.controller, a.count) at p)

pub ruleset texts_laws = (rules, rule_room, texts_rule_refused, session_room, texts_waiting, texts_session_refused, texts_open_room, texts_opened)

-- ---- `open`
-- the step of the opening, by what its text comes to
by_opened : (text : List ℕ) (o : Opened) (h h' : Space) (output output' : List ℕ) (r : Stepped) → OpenStep o h output r h' output' →
    SteppedIs (opens_on text o) text h output r h' output'
unfolding opens_on opened_phase opened_text opened_space
by_opened text Unfinished h h' output output' r s = record { watch = rw s.phase; left = s.left; printed = printed_all [] output r.printed output' s.printed }
by_opened text (Refuses number line) h h' output output' r s =
    record { watch = rw s.phase; left = s.left; printed = printed_all (refused_text number line) output r.printed output' s.printed }
by_opened text (Opens c) h h' output output' r s =
    record { watch = rw s.phase (ap watching.Running (sym s.left)); left = s.left; printed = printed_all (status_text (leaves c empty_space)) output r.printed output' s.printed }

short_step : (ended : Bool) (text : List ℕ) → length text ≤ max_input_bytes → opening_step ended text ≡ opens_on text (opening_of ended text)
unfolding opening_step pick
short_step ended text l = rw (le-ltb max_input_bytes (length text) l)

long_step : (ended : Bool) (text : List ℕ) → max_input_bytes < length text → opening_step ended text ≡ opens_on text (Refuses input_long [])
unfolding opening_step pick opens_on
long_step ended text l = rw (lt-ltb max_input_bytes (length text) l)

pub long_room : (output : List ℕ) → length output ≡ max_printed → length (refused_text input_long []) ≤ length output
long_room output full = omega (arith, refused_length InputLong [] (omega arith))

module _ (ended : Bool) (text : List ℕ) (h : Space) (output : List ℕ) where
  -- `open`, over 16,384 bytes: `opening_step` is 14, with no line
  pub open_long : max_input_bytes < length text → (r : ℕ) (output' : List ℕ) → Printed (refused_text input_long []) output 0 r output' →
      SteppedIs (opening_step ended text) text h output (record { phase = Ended; printed = r }) h output'
  open_long l r output' p =
      rw (long_step ended text l)
      (by_opened text (Refuses input_long []) h h output output' _ (denied (Refuses input_long []) input_long [] h output output' _ refl (refuse_done input_long [] output r output' p)))

  module _ (short : length text ≤ max_input_bytes) (p : Parts) (is : SplitIs text p) where
    rule_ends : length p.rule.now ≡ rule_length (length text) text
    rule_ends = ap length is.rule ∙ length-take-le (rule_length (length text) text) text (split_inside (length text) text)

    waiting : (not ended && eqb (length p.rule.now) (length text)) ≡ true → opening_of ended text ≡ Unfinished
    unfolding opening_of pick
    waiting e =
        let (running, whole) = both_true (not ended) (eqb (length p.rule.now) (length text)) e in
        let goes : ended ≡ false = not_true ended running in
        let at = eqb-true (length p.rule.now) (length text) whole in
        rw (goes, le-ltb (rule_length (length text) text) (length text) (omega (arith, rule_ends)))

    complete : (not ended && eqb (length p.rule.now) (length text)) ≡ false → opening_of ended text ≡ opened_texts ended (rule_text_in text) (recording_text_in text)
    unfolding opening_of pick
    complete e =
        by_test ended
        (λ t. rw t)
        (λ f.
        let n = eqb-false (length p.rule.now) (length text) (rw f at e) in
        rw (f, lt-ltb (rule_length (length text) text) (length text) (omega (arith, rule_ends, is.rule_inside))))

    -- `open`, no line `-` has come: `opening_of` is unfinished
    pub open_waiting : (not ended && eqb (length p.rule.now) (length text)) ≡ true → SteppedIs (opening_step ended text) text h output (record { phase = Opening; printed = 0 }) h output
    open_waiting e = rw (short_step ended text short) (by_opened text (opening_of ended text) h h output output _ (waits (opening_of ended text) h output (waiting e)))

    pub open_room : length output ≡ max_printed → TextsRoom p.rule.now p.recording.now output
    open_room full = record {
      opens = record { fits = omega (arith, is.rule_inside); room = omega arith };
      fits = omega (arith, is.recording_inside);
    }

    -- `open`, the text is split: `opening_of` is `opened_texts` of its parts
    pub open_split : (not ended && eqb (length p.rule.now) (length text)) ≡ false → (r : Stepped) (h' : Space) (output' : List ℕ) →
        OpenStep (opened_texts ended p.rule.now p.recording.now) h output r h' output' →
        SteppedIs (opening_step ended text) text h output r h' output'
    open_split e r h' output' o =
        let q : OpenStep (opened_texts ended (rule_text_in text) (recording_text_in text)) h output r h' output' = rw (← is.rule, ← is.recording) o in
        rw (short_step ended text short) (by_opened text (opening_of ended text) h h' output output' r (rw (complete e) q))

pub ruleset open_laws = (rules, long_room, open_long, open_waiting, open_room, open_split)
