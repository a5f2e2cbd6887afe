-- An accepted rule text, with byte 10 at each line, is the text that is written of what was read, and its table is accepted.
use mathlib.Core.Path.{◌≡◌, refl, ap, sym, ◌∙◌}
use Prim.Native.Nat.{ℕ, zero, suc, ◌+◌, ◌<◌, ◌≤◌}
use mathlib.Core.Bool.{true, false}
use mathlib.Core.List.{List, [], ◌∷◌}
use lib.ListN.{length}
use native.Mathlib.Omega.{arith}
use lib.Dec.{eqb}
use borrow.Author.Tests.{ne_eqb}
use Rattle.definitions.specs.Limits.{rule_form, rule_lines, max_rule_nodes}
use Rattle.definitions.specs.Bounded.{pick}
use Rattle.definitions.specs.Nodes.{Kind, Unknown, Node, node, operands, node_word, node_of}
use Rattle.definitions.specs.Tables.{is_unknown, node_refusal, nodes_refusal, rule_heading_refusal}
use Rattle.definitions.specs.Lines.{tab, has, up_to, after, is_closed, line_of, rest_of, with_newlines, formed, malformed, decimal, Heading, heading_form, read, more}
use Rattle.definitions.specs.RuleText.{rule_word, kind_word, word_kind, unknown_form, operands_form, node_form, node_line, scan_nodes, rule_heading, rule_heading_line, rule_nodes, scan_rule, node_text, nodes_text}
use Rattle.theorems.proofs.Choice.{by_test, pick_must, pick_other}
use Rattle.theorems.proofs.Inversions.{first_picked, second_picked, parsed_must, never_formed, formed_same, first_accepted}
use Rattle.theorems.proofs.SplitLaws.{join, all_front}
use Rattle.theorems.proofs.EndingLaws.{with_line}
use Rattle.theorems.proofs.DecimalLaws.{read_prints}
use Rattle.theorems.proofs.WordLaws.{kind_word_lem}
use Rattle.theorems.proofs.NodeWords.{node_of_word}
use Rattle.theorems.proofs.NodeLaws.{accepted_node, first_below}
use Rattle.theorems.proofs.FieldLaws.{two_fields_back, worded_back}
use Rattle.theorems.proofs.NextLines.{by_next, next_back, next_some}
use Rattle.theorems.proofs.RuleTextSteps.{text_none, text_one, text_two, nodes_stop, nodes_step, rule_stop_lem, rule_step_lem, heading_text}

-- a line of a known kind word is the text of its node
module _ (k : Kind) (s : List ℕ) (word : kind_word k ≡ up_to tab s) (n : Node) where
  pub operands_back : operands_form k s ≡ formed n → node_text n ≡ s
  unfolding operands_form
  operands_back e =
      by_test (eqb (operands k) 0)
      (λ z.
      let p = pick_other (formed n) (has tab s) malformed (formed (node k 0 0)) (first_picked (formed n) _ _ _ z e) (never_formed n) in
      rw (← formed_same (node k 0 0) n p.1) (text_none (node k 0 0) z ∙ (word ∙ all_front tab s p.0)))
      (λ z.
      let p = pick_must (formed n) (has tab s) _ malformed (second_picked (formed n) _ _ _ z e) (never_formed n) in
      by_test (eqb (operands k) 1)
      (λ y.
      let f = parsed_must (formed n) (decimal (after tab s)) malformed _ (first_picked (formed n) _ _ _ y p.1) (never_formed n) in
      rw (← formed_same (node k f.value 0) n f.gives)
      (text_one (node k f.value 0) z y ∙ rw (word, read_prints (after tab s) f.value f.read) (join tab s p.0)))
      (λ y.
      let f = two_fields_back (node k) n (after tab s) (second_picked (formed n) _ _ _ y p.1) in
      rw (← f.made) (text_two (node k f.first f.second) z y ∙ rw (word, f.text) (join tab s p.0))))

-- a line of an unknown kind word is an unknown node
unknown_back : (s : List ℕ) (n : Node) → unknown_form s ≡ formed n → node Unknown 0 0 ≡ n
unfolding unknown_form
unknown_back s n e = formed_same (node Unknown 0 0) n (pick_other (formed n) _ malformed (formed (node Unknown 0 0)) e (never_formed n)).1

-- a line of a known kind is the text of its node
node_back : (s : List ℕ) (n : Node) → node_form s ≡ formed n → is_unknown n.kind ≡ false → node_text n ≡ s
unfolding node_form
node_back s n e u =
    let k = word_kind (up_to tab s) in
    by_test (is_unknown k)
    (λ z. let q : true ≡ false = ap (λ (m : Node). is_unknown m.kind) (unknown_back s n (first_picked (formed n) _ _ _ z e)) ∙ u in cc)
    (λ z. operands_back k s (kind_word_lem (up_to tab s) z) n (second_picked (formed n) _ _ _ z e))

-- the first line of an accepted text: it is closed, it is the text of node i, and the other lines are read as node i + 1 and on
record FirstNode (lines i : ℕ) (t : List ℕ) : Type 0 where
  item : Node
  closed : is_closed t ≡ true
  line : node_text item ≡ line_of t
  fine : node_refusal false i (node_of (node_word item)) ≡ 0
  same_item : node_of (node_word item) ≡ item
  scan : scan_nodes (suc lines) i t ≡ more (node_word item) (scan_nodes lines (i + 1) (rest_of t))

read_node : (lines i : ℕ) (t : List ℕ) (n : Node) (rest : List ℕ) → i < max_rule_nodes → node_line i t ≡ read n rest → FirstNode lines i t
read_node lines i t n rest h e =
    let l = next_back rule_lines rule_form node_form (node_refusal false i) t n rest e in
    let g = accepted_node i n l.fine in
    let b : n.first < 64 = first_below i n g (omega arith) in
    let w : node_of (node_word n) ≡ n = node_of_word n (omega arith) in
    record {
      item = n;
      closed = l.closed;
      line = node_back (line_of t) n l.is g.known;
      fine = rw w l.fine;
      same_item = w;
      scan = nodes_step lines i t n rest e ∙ ap (λ (u : List ℕ). more (node_word n) (scan_nodes lines (i + 1) u)) l.left;
    }

first_node : (lines i : ℕ) (t : List ℕ) → i < max_rule_nodes → (scan_nodes (suc lines) i t).number ≡ 0 → FirstNode lines i t
first_node lines i t h e =
    by_next (node_line i t)
    (λ k r.
    let z : k ≡ 0 = rw (nodes_stop lines i t k r) at e in
    absurd (next_some rule_lines rule_form node_form (node_refusal false i) t (omega arith) (omega arith) k r z))
    (λ n rest r. read_node lines i t n rest h r)

-- what was read of the lines of nodes that were accepted: as many words, an accepted table, the text written of it
pub record ReadNodes (lines i : ℕ) (t words : List ℕ) : Type 0 where
  pub count : length words ≡ lines
  pub fine : nodes_refusal false i lines words ≡ 0
  pub text : nodes_text words ≡ with_newlines t

no_nodes_lem : (i : ℕ) (t : List ℕ) → (scan_nodes 0 i t).number ≡ 0 → ReadNodes 0 i t (scan_nodes 0 i t).words
unfolding scan_nodes nodes_refusal nodes_text with_newlines pick
no_nodes_lem i [] e = record { count = refl; fine = refl; text = refl }
no_nodes_lem i (x ∷ t) e = absurd (omega (arith, rw (ne_eqb (suc (length t)) 0 (λ q. omega arith)) at e))

more_nodes : (lines i : ℕ) (t words : List ℕ) (f : FirstNode lines i t) → ReadNodes lines (i + 1) (rest_of t) words
    → ReadNodes (suc lines) i t (node_word f.item ∷ words)
unfolding nodes_refusal nodes_text
more_nodes lines i t words f r = record {
  count = ap suc r.count;
  fine = first_accepted _ _ f.fine ∙ r.fine;
  text = rw (f.same_item, f.line, r.text) (sym (with_line t f.closed));
}

-- accepted node lines, with byte 10 at each, are the text of their words
pub nodes_back : (lines i : ℕ) (t : List ℕ) → i + lines ≤ max_rule_nodes → (scan_nodes lines i t).number ≡ 0 → ReadNodes lines i t (scan_nodes lines i t).words
nodes_back zero i t h e = no_nodes_lem i t e
nodes_back (suc lines) i t h e =
    let f = first_node lines i t (omega arith) e in
    rw f.scan (more_nodes lines i t _ f (nodes_back lines (i + 1) (rest_of t) (omega arith) (rw f.scan at e)))

-- the first line of an accepted rule text, and what follows it
pub record FirstLine (t : List ℕ) : Type 0 where
  pub heading : Heading
  pub closed : is_closed t ≡ true
  pub line : heading_text heading.first heading.second ≡ line_of t
  pub fine : rule_heading_refusal heading.first heading.second ≡ 0
  pub scan : scan_rule t ≡ rule_nodes heading (scan_nodes heading.second 0 (rest_of t))

-- a first line is the text of its heading
pub heading_back : (s : List ℕ) (h : Heading) → rule_heading s ≡ formed h → heading_text h.first h.second ≡ s
unfolding heading_form heading_text
heading_back s h e =
    let w = worded_back rule_word _ h s e in
    let f = two_fields_back _ h (after tab s) w.1 in
    rw (← f.made, f.text) w.0

read_heading : (t : List ℕ) (h : Heading) (rest : List ℕ) → rule_heading_line t ≡ read h rest → FirstLine t
read_heading t h rest e =
    let l = next_back rule_lines rule_form rule_heading (λ x. rule_heading_refusal x.first x.second) t h rest e in
    record {
      heading = h;
      closed = l.closed;
      line = heading_back (line_of t) h l.is;
      fine = l.fine;
      scan = rule_step_lem t h rest e ∙ ap (λ (u : List ℕ). rule_nodes h (scan_nodes h.second 0 u)) l.left;
    }

pub first_line_lem : (t : List ℕ) → (scan_rule t).number ≡ 0 → FirstLine t
first_line_lem t e =
    by_next (rule_heading_line t)
    (λ k r.
    let z : k ≡ 0 = rw (rule_stop_lem t k r) at e in
    absurd (next_some rule_lines rule_form rule_heading (λ h. rule_heading_refusal h.first h.second) t (omega arith) (omega arith) k r z))
    (λ h rest r. read_heading t h rest r)
