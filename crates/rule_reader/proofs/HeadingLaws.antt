-- Laws of the first line of a rule text: one for each return, and what a caller has of its answer.
use mathlib.Core.Path.{◌≡◌, sym}
use mathlib.Core.Bool.{true}
use mathlib.Core.List.{List}
use Prim.Native.Nat.{ℕ, ◌≤◌}
use native.Mathlib.Omega.{arith}
use lib.ListN.{take}
use Rattle.std.specs.Prelude.{Option, Some, Ok, Err}
use Rattle.std.specs.Option.{ok_or}
use Rattle.definitions.specs.Limits.{accepted, max_controllers, max_rule_nodes, rule_form, rule_lines}
use Rattle.definitions.specs.Tables.{rule_heading_refusal}
use Rattle.definitions.specs.Lines.{line_length, line_of, is_closed, rest_of, heading, heading_form, read}
use Rattle.definitions.specs.RuleText.{rule_word, rule_heading, rule_heading_line}
use Rattle.theorems.proofs.NodeLaws.{accepted_heading}
use Rattle.rules.specs.Refusals.{number_of}
use Rattle.rules.specs.declared.refusal.Refusal.{Refusal}
use Rattle.rules.specs.declared.refusal.Refusal.TheVariants.{RuleForm}
use Rattle.rules.specs.declared.rule.RuleHeading.{RuleHeading}
use Rattle.rules.proofs.RefusalLaws.{number_some}
use Rattle.fields.specs.Fields.{cap}
use Rattle.fields.specs.Forms.{capped_pair}
use Rattle.lines.specs.Reading.{end_refusal}
use Rattle.lines.specs.Told.{next_told}
use Rattle.fields.proofs.FieldLaws.{cap_below, cap_within_limits, cap_exact}
use Rattle.lines.proofs.NextLaws.{line_part, line_part_laws, end_fine}
use Rattle.lines.proofs.ToldLaws.{refused_told, read_told, told_unread, told_back, some_given, none_given}
use Rattle.fields.proofs.HeadingLaws.{CapCheck, first_malformed, first_denied, first_read}
use Rattle.rule_reader.specs.NextLines.{heading_of}

cap_heading : (c n : ℕ) → rule_heading_refusal (cap c) (cap n) ≡ rule_heading_refusal c n
unfolding rule_heading_refusal
cap_heading c n = rw (cap_below c max_controllers (omega arith), cap_within_limits 1 max_rule_nodes n (omega arith) (omega arith))

caps : CapCheck rule_heading_refusal
caps = record {
  same = cap_heading;
  first = λ c n e. cap_exact c (omega (arith, (accepted_heading (cap c) (cap n) e).0));
  second = λ c n e. cap_exact n (omega (arith, (accepted_heading (cap c) (cap n) e).1.1));
}

-- ---- `next_heading`
module _ (t : List ℕ) where
  -- `next_heading`, no line, or one that is not closed: `rule_heading_line` has that refusal
  pub heading_unread : (e : Refusal) → number_of e ≡ end_refusal rule_lines rule_form t → Err (number_of e) ≡ next_told heading_of (rule_heading_line t)
  heading_unread = told_unread heading_of rule_lines rule_form rule_heading (λ h. rule_heading_refusal h.first h.second) t

  module _ (there : accepted ≡ end_refusal rule_lines rule_form t) (len : ℕ) (is : len ≡ line_length t) (o : Option (ℕ × ℕ)) (os : o ≡ capped_pair (heading_form rule_word (take len t))) where
    closed : is_closed t ≡ true
    closed = end_fine rule_lines rule_form t (omega arith) (omega arith) there

    line : o ≡ capped_pair (heading_form rule_word (line_of t))
    line = rw (line_part t len is) at os

    -- `next_heading`, another form: `rule_heading_line` is refused by its form
    pub heading_malformed : (e : Refusal) → Err e ≡ ok_or o RuleForm → Err (number_of e) ≡ next_told heading_of (rule_heading_line t)
    heading_malformed e h =
        let q = none_given o RuleForm e h in
        rw q.1 (refused_told heading_of (rule_heading_line t) rule_form (first_malformed rule_lines rule_form rule_word rule_heading_refusal caps t closed (rw q.0 at line)))

    module _ (c n : ℕ) (h : Ok (c, n) ≡ ok_or o RuleForm) where
      some : Some (c, n) ≡ capped_pair (heading_form rule_word (line_of t))
      some = rw (some_given o RuleForm (c, n) h) at line

      -- `next_heading`, a controller or count that is refused: `rule_heading_line` has that refusal
      pub heading_refused : (e : Refusal) → number_of e ≡ rule_heading_refusal c n → Err (number_of e) ≡ next_told heading_of (rule_heading_line t)
      heading_refused e r =
          refused_told heading_of (rule_heading_line t) (number_of e)
          (first_denied rule_lines rule_form rule_word rule_heading_refusal caps t closed c n some (number_of e) (sym r) (number_some e))

      -- `next_heading`, accepted: `rule_heading_line` is the controller and the count
      pub heading_read : accepted ≡ rule_heading_refusal c n → Ok (heading_of (heading c n)) ≡ next_told heading_of (rule_heading_line t)
      heading_read r =
          read_told heading_of (rule_heading_line t) (heading c n) (rest_of t)
          (first_read rule_lines rule_form rule_word rule_heading_refusal caps t closed c n some (sym r))

pub ruleset heading_laws = (line_part_laws, heading_unread, heading_malformed, heading_refused, heading_read)

-- ---- what a caller has of an answer
-- the first line is accepted, with its controller and count
pub record Headed (t : List ℕ) (h : RuleHeading) : Type 0 where
  pub is : rule_heading_line t ≡ read (heading h.controller h.count) (rest_of t)
  pub few : h.count ≤ max_rule_nodes

pub headed : (t : List ℕ) (h : RuleHeading) → Ok h ≡ next_told heading_of (rule_heading_line t) → Headed t h
headed t h e =
    let a = told_back heading_of rule_lines rule_form rule_heading (λ g. rule_heading_refusal g.first g.second) t h e in
    record { is = rw (← a.gives) a.is; few = rw (← a.gives) (accepted_heading a.value.first a.value.second a.fine).1.1 }
