-- Laws of the line of a node: a capped operand is refused as the operand is; one law for each return, and what a caller has of its answer.
use mathlib.Core.Path.{◌≡◌, refl, ap, sym, ◌∙◌}
use mathlib.Core.Bool.{false}
use mathlib.Core.List.{List}
use Prim.Native.Nat.{ℕ, ◌<◌, ◌≤◌}
use native.Mathlib.Omega.{arith}
use lib.Dec.{eqb, ltb, leb}
use lib.ListN.{take}
use borrow.Author.Tests.{ltb-true, ltb-false, ne_eqb, le-leb}
use Rattle.std.specs.Prelude.{Option, Some, None, Ok, Err}
use Rattle.std.specs.Option.{ok_or}
use Rattle.definitions.specs.Limits.{accepted, max_rule_nodes, atom_count, rule_form, rule_lines}
use Rattle.definitions.specs.Nodes as table
use Rattle.definitions.specs.Nodes.{Kind, Unknown, node, node_word}
use Rattle.definitions.specs.Tables.{is_unknown, node_refusal}
use Rattle.definitions.specs.Lines.{line_length, line_of, Parsed, formed, malformed}
use Rattle.definitions.specs.RuleText.{node_form, node_line}
use Rattle.theorems.proofs.Choice.{by_test}
use Rattle.theorems.proofs.Inversions.{formed_same, never_formed}
use Rattle.theorems.proofs.NodeLaws.{AcceptedNode, accepted_node, first_below, second_below}
use Rattle.rules.specs.Kinds.{kind_in}
use Rattle.rules.specs.Meaning.{meaning, Wordable}
use Rattle.rules.specs.Refusals.{number_of}
use Rattle.rules.specs.declared.node.Node.{Node}
use Rattle.rules.specs.declared.refusal.Refusal.{Refusal}
use Rattle.rules.specs.declared.refusal.Refusal.TheVariants.{RuleForm}
use Rattle.fields.specs.Fields.{largest, cap}
use Rattle.fields.proofs.FieldLaws.{cap_over, cap_within}
use Rattle.lines.specs.Reading.{end_refusal}
use Rattle.lines.specs.Told.{next_told}
use Rattle.lines.proofs.NextLaws.{line_part, line_part_laws}
use Rattle.lines.proofs.ToldLaws.{told_unread, told_malformed, told_denied, told_read, some_given, none_given}
use Rattle.rule_reader.specs.NextLines.{meant, capped_form}

-- a test of a number up to the largest
cap_reaches : (low n : ℕ) → low ≤ largest → leb low (cap n) ≡ leb low n
cap_reaches low n l =
    by_test (ltb largest n)
    (λ e. let g = ltb-true largest n e in rw (← cap_over n g, le-leb low largest l, le-leb low n (omega arith)))
    (λ e. rw (← cap_within n (ltb-false largest n e)))

cap_zero : (n : ℕ) → eqb (cap n) 0 ≡ eqb n 0
cap_zero n =
    by_test (ltb largest n)
    (λ e. let g = ltb-true largest n e in rw (← cap_over n g, ne_eqb n 0 (λ q. omega arith)))
    (λ e. rw (← cap_within n (ltb-false largest n e)))

abbrev cap_node : table.Node → table.Node
cap_node m = node m.kind (cap m.first) (cap m.second)

cap_refusal : (i : ℕ) (m : table.Node) → i ≤ max_rule_nodes → node_refusal false i (cap_node m) ≡ node_refusal false i m
unfolding node_refusal
cap_refusal i m h =
    rw (
      cap_reaches atom_count m.first (omega arith),
      cap_zero m.first,
      cap_zero m.second,
      cap_reaches i m.first (omega arith),
      cap_reaches i m.second (omega arith),
    )

-- the node of a line that was read
record FormIs (p : Parsed table.Node) (n : table.Node) : Type 0 where
  value : table.Node
  read : p ≡ formed value
  same : n ≡ cap_node value

form_is : (p : Parsed table.Node) (n : Node) → meant (Some n) ≡ capped_form p → FormIs p (meaning n)
unfolding meant capped_form
form_is (formed m) n e = record { value = m; read = refl; same = formed_same (meaning n) (cap_node m) e }
form_is malformed n e = absurd (never_formed (meaning n) (sym e))

form_not : (p : Parsed table.Node) → meant None ≡ capped_form p → p ≡ malformed
unfolding meant capped_form
form_not (formed m) e = absurd (never_formed (cap_node m) e)
form_not malformed e = refl

known_kind : (k : Kind) → is_unknown k ≡ false → k ≡ Unknown → ⊥
known_kind k f e = let z : is_unknown Unknown ≡ false = rw e at f in cc

-- ---- `next_node`
module _ (i : ℕ) (t : List ℕ) where
  -- `next_node`, no line, or one that is not closed: `node_line` has that refusal
  pub node_unread : (e : Refusal) → number_of e ≡ end_refusal rule_lines rule_form t → Err (number_of e) ≡ next_told node_word (node_line i t)
  node_unread = told_unread node_word rule_lines rule_form node_form (node_refusal false i) t

  module _ (there : accepted ≡ end_refusal rule_lines rule_form t) (len : ℕ) (is : len ≡ line_length t) (o : Option Node) (os : meant o ≡ capped_form (node_form (take len t))) where
    line : meant o ≡ capped_form (node_form (line_of t))
    line = rw (line_part t len is) at os

    -- `next_node`, another form: `node_line` is refused by its form
    pub node_malformed : (e : Refusal) → Err e ≡ ok_or o RuleForm → Err (number_of e) ≡ next_told node_word (node_line i t)
    node_malformed e h =
        let q = none_given o RuleForm e h in
        rw q.1 (told_malformed node_word rule_lines rule_form node_form (node_refusal false i) t (omega arith) (omega arith) there (form_not (node_form (line_of t)) (rw q.0 at line)))

    module _ (few : i ≤ max_rule_nodes) (n : Node) (h : Ok n ≡ ok_or o RuleForm) where
      form : FormIs (node_form (line_of t)) (meaning n)
      form = form_is (node_form (line_of t)) n (rw (some_given o RuleForm n h) at line)

      the_refusal : node_refusal false i (meaning n) ≡ node_refusal false i form.value
      the_refusal = ap (node_refusal false i) form.same ∙ cap_refusal i form.value few

      -- `next_node`, a node that is refused: `node_line` has the refusal of `node_refusal`
      pub node_refused : (e : Refusal) → number_of e ≡ node_refusal false i (meaning n) → Err (number_of e) ≡ next_told node_word (node_line i t)
      node_refused e r =
          told_denied node_word rule_lines rule_form node_form (node_refusal false i) t (omega arith) (omega arith) there form.value form.read e (r ∙ the_refusal)

      module _ (r : accepted ≡ node_refusal false i (meaning n)) where
        node_fine : AcceptedNode i (meaning n)
        node_fine = accepted_node i (meaning n) (sym r)

        value_fine : AcceptedNode i form.value
        value_fine = accepted_node i form.value (sym (r ∙ the_refusal))

        first_low : n.first < max_rule_nodes
        first_low = first_below i (meaning n) node_fine few

        second_low : n.second < max_rule_nodes
        second_low = second_below i (meaning n) node_fine few

        pub node_wordable : Wordable n
        node_wordable = record { kind = known_kind (kind_in n.kind) node_fine.known; first = omega (arith, first_low); second = omega (arith, second_low) }

        exactly : meaning n ≡ form.value
        exactly =
            let v = form.value in
            let a : cap v.first ≡ v.first = sym (cap_within v.first (omega (arith, first_below i v value_fine few))) in
            let b : cap v.second ≡ v.second = sym (cap_within v.second (omega (arith, second_below i v value_fine few))) in
            form.same ∙ rw (a, b)

        -- `next_node`, accepted: `node_line` is the node of that word
        pub node_read : (w : ℕ) → w ≡ node_word (meaning n) → Ok w ≡ next_told node_word (node_line i t)
        node_read w ws =
            told_read node_word rule_lines rule_form node_form (node_refusal false i) t (omega arith) (omega arith) there form.value form.read (r ∙ the_refusal) w
            (ws ∙ ap node_word exactly)

pub ruleset node_laws = (line_part_laws, node_unread, node_malformed, node_refused, node_wordable, node_read)
