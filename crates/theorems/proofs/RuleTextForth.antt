-- The text that is written of an accepted rule reads as that rule, and it is short.
use mathlib.Core.Path.{◌≡◌, refl, ap, ◌∙◌}
use Prim.Native.Nat.{ℕ, zero, suc, ◌+◌, ◌*◌, ◌<◌, ◌≤◌}
use mathlib.Core.Bool.{true, false}
use mathlib.Core.List.{List, [], ◌∷◌, ◌++◌}
use lib.ListN.{length, take, length-append}
use native.Mathlib.Omega.{arith}
use lib.Dec.{eqb, leb}
use borrow.Author.Tests.{eq-eqb, ne_eqb, leb-true}
use Rattle.definitions.specs.Limits.{rule_form, rule_lines, max_rule_nodes}
use Rattle.definitions.specs.Bounded.{pick}
use Rattle.definitions.specs.Nodes.{Kind, Node, node, operands, node_of}
use Rattle.definitions.specs.Tables.{is_unknown, unused_set, node_refusal, nodes_refusal, rule_heading_refusal}
use Rattle.definitions.specs.Lines.{tab, newline, carriage_return, up_to, formed, malformed, on_parsed, decimal, Heading, heading_form, two_fields, digits, more}
use Rattle.definitions.specs.RuleText.{rule_word, kind_word, operands_form, node_form, scan_nodes, rule_heading, rule_nodes, scan_rule, node_text, nodes_text}
use Rattle.theorems.proofs.Choice.{or_else_none}
use Rattle.theorems.proofs.SplitLaws.{Without, without_cons, without_append, split_front, split_rest, split_found, all_front, without_whole}
use Rattle.theorems.proofs.EndingLaws.{Unbroken}
use Rattle.theorems.proofs.DecimalLaws.{digits_without, printed_reads, two_digits}
use Rattle.theorems.proofs.NodeWords.{by_kind, word_of_node}
use Rattle.theorems.proofs.WordLaws.{word_kind_lem, kind_word_without, rule_word_without}
use Rattle.theorems.proofs.NodeLaws.{accepted_node, first_unused, second_unused, first_below, second_below}
use Rattle.theorems.proofs.FieldLaws.{two_fields_forth, worded_forth}
use Rattle.theorems.proofs.NextLines.{next_forth}
use Rattle.theorems.proofs.RuleTextSteps.{by_operands, nodes_step, rule_step_lem, heading_text}

-- the line of a known kind, by how many operands it uses
module _ (k : Kind) (known : is_unknown k ≡ false) where
  of_kind : (s : List ℕ) → up_to tab s ≡ kind_word k → node_form s ≡ operands_form k s
  unfolding node_form pick
  of_kind s e = rw (e, word_kind_lem k, known)

  none_forth : operands k ≡ 0 → node_form (kind_word k) ≡ formed (node k 0 0)
  unfolding operands_form pick
  none_forth z =
      let w = without_whole tab (kind_word k) (kind_word_without tab k (omega arith)) in
      of_kind (kind_word k) (all_front tab (kind_word k) w) ∙ rw (eq-eqb (operands k) 0 z, w)

  module _ (z : operands k ≡ 0 → ⊥) where
    some_forth : (t : List ℕ) → node_form (kind_word k ++ (tab ∷ t))
        ≡ pick (eqb (operands k) 1) (on_parsed (decimal t) malformed (λ a. formed (node k a 0))) (two_fields decimal decimal (node k) t)
    unfolding operands_form pick
    some_forth t =
        let w = kind_word_without tab k (omega arith) in
        of_kind (kind_word k ++ (tab ∷ t)) (split_front tab t (kind_word k) w)
        ∙ rw (ne_eqb (operands k) 0 z, split_found tab t (kind_word k) w, split_rest tab t (kind_word k) w)

    one_forth : (a : ℕ) → operands k ≡ 1 → node_form (kind_word k ++ (tab ∷ digits a)) ≡ formed (node k a 0)
    unfolding pick on_parsed
    one_forth a y = some_forth (digits a) ∙ rw (eq-eqb (operands k) 1 y, printed_reads a)

    two_forth : (a b : ℕ) → (operands k ≡ 1 → ⊥) → node_form (kind_word k ++ (tab ∷ (digits a ++ (tab ∷ digits b)))) ≡ formed (node k a b)
    unfolding pick
    two_forth a b y = some_forth (digits a ++ (tab ∷ digits b)) ∙ rw (ne_eqb (operands k) 1 y) (two_fields_forth (node k) a b)

same_node : (k : Kind) (a b c d : ℕ) → c ≡ a → d ≡ b → formed (node k a b) ≡ formed (node k c d)
same_node k a b c d p q = rw (p, q)

-- a node's text reads as that node
node_forth : (n : Node) → is_unknown n.kind ≡ false → unused_set n ≡ false → node_form (node_text n) ≡ formed n
node_forth n h u =
    let k = n.kind in
    by_operands (λ t. node_form t ≡ formed n) n
    (λ z. none_forth k h z ∙ same_node k 0 0 n.first n.second (first_unused n u z) (second_unused n u (omega arith)))
    (λ z y. one_forth k h z n.first y ∙ same_node k n.first 0 n.first n.second refl (second_unused n u (omega arith)))
    (λ z y. two_forth k h z n.first n.second y)

-- no line has a byte 10 or 13
module _ (b : ℕ) (low : b < 48) (other : tab ≡ b → ⊥) where
  tab_without : (t : List ℕ) → Without b t → Without b (tab ∷ t)
  tab_without t h = without_cons b tab t other h

  fields_without : (word : List ℕ) (m n : ℕ) → Without b word → Without b (word ++ (tab ∷ (digits m ++ (tab ∷ digits n))))
  fields_without word m n w =
      without_append b word (tab ∷ (digits m ++ (tab ∷ digits n))) w
      (tab_without (digits m ++ (tab ∷ digits n)) (without_append b (digits m) (tab ∷ digits n) (digits_without b m low)
      (tab_without (digits n) (digits_without b n low))))

  node_without : (n : Node) → Without b (node_text n)
  node_without n =
      let w = kind_word_without b n.kind (omega arith) in
      let a = tab_without (digits n.first) (digits_without b n.first low) in
      by_operands (λ t. Without b t) n
      (λ z. w)
      (λ z y. without_append b (kind_word n.kind) (tab ∷ digits n.first) w a)
      (λ z y. fields_without (kind_word n.kind) n.first n.second w)

  heading_without : (c n : ℕ) → Without b (heading_text c n)
  unfolding heading_text
  heading_without c n = fields_without rule_word c n (rule_word_without b (omega arith))

unbroken : (line : List ℕ) → ((b : ℕ) → b < 48 → (tab ≡ b → ⊥) → Without b line) → Unbroken line
unbroken line h = record { newlines = h newline (omega arith) (λ q. omega arith); returns = h carriage_return (omega arith) (λ q. omega arith) }

pub node_unbroken : (n : Node) → Unbroken (node_text n)
node_unbroken n = unbroken (node_text n) (λ b l o. node_without b l o n)

pub heading_unbroken : (c n : ℕ) → Unbroken (heading_text c n)
heading_unbroken c n = unbroken (heading_text c n) (λ b l o. heading_without b l o c n)

-- the line of an accepted node is read as its word, and then the rest
node_read : (lines i w : ℕ) (rest : List ℕ) → node_refusal false i (node_of w) ≡ 0
    → scan_nodes (suc lines) i (node_text (node_of w) ++ (newline ∷ rest)) ≡ more w (scan_nodes lines (i + 1) rest)
node_read lines i w rest e =
    let n = node_of w in
    let g = accepted_node i n e in
    let r = next_forth rule_lines rule_form node_form (node_refusal false i) (node_text n) rest n (node_unbroken n) (node_forth n g.known g.unused) e in
    nodes_step lines i (node_text n ++ (newline ∷ rest)) n rest r ∙ rw (word_of_node w g.known)

-- the lines of accepted nodes read as their words, as many as the count
pub nodes_forth : (lines i : ℕ) (ws : List ℕ) → nodes_refusal false i lines ws ≡ 0
    → scan_nodes lines i (nodes_text (take lines ws)) ≡ record { number = 0; words = take lines ws; rest = [] }
unfolding nodes_refusal nodes_text scan_nodes pick
nodes_forth zero i ws e = refl
nodes_forth (suc lines) i [] e = absurd (omega arith)
nodes_forth (suc lines) i (w ∷ ws) e =
    let p = or_else_none (node_refusal false i (node_of w)) (nodes_refusal false (i + 1) lines ws) e in
    node_read lines i w (nodes_text (take lines ws)) p.0 ∙ ap (more w) (nodes_forth lines (i + 1) ws p.1)

-- a first line reads as its controller and count
heading_forth : (c n : ℕ) → rule_heading (heading_text c n) ≡ formed (record { first = c; second = n })
unfolding heading_form heading_text
heading_forth c n =
    worded_forth rule_word _ (digits c ++ (tab ∷ digits n)) (rule_word_without tab (omega arith)) ∙ two_fields_forth _ c n

-- the first line of an accepted rule is read, and then its nodes
pub heading_read : (c n : ℕ) (rest : List ℕ) → rule_heading_refusal c n ≡ 0
    → scan_rule (heading_text c n ++ (newline ∷ rest)) ≡ rule_nodes (record { first = c; second = n }) (scan_nodes n 0 rest)
heading_read c n rest e =
    let h : Heading = record { first = c; second = n } in
    rule_step_lem (heading_text c n ++ (newline ∷ rest)) h rest
    (next_forth rule_lines rule_form rule_heading (λ x. rule_heading_refusal x.first x.second) (heading_text c n) rest h (heading_unbroken c n) (heading_forth c n) e)

-- a line is at most eleven bytes and byte 10
short_word_lem : (k : Kind) → leb (length (kind_word k)) 5 ≡ true
short_word_lem = by_kind (λ k. leb (length (kind_word k)) 5 ≡ true) refl refl refl refl refl refl refl refl refl refl refl

fields_length : (word : List ℕ) (a b : ℕ) → a < 100 → b < 100 → length (word ++ (tab ∷ (digits a ++ (tab ∷ digits b)))) ≤ length word + 6
fields_length word a b h k =
    omega (arith, two_digits a h, two_digits b k, length-append word (tab ∷ (digits a ++ (tab ∷ digits b))), length-append (digits a) (tab ∷ digits b))

node_length : (n : Node) → n.first < 100 → n.second < 100 → length (node_text n) ≤ 11
node_length n h k =
    let w = leb-true (length (kind_word n.kind)) 5 (short_word_lem n.kind) in
    by_operands (λ t. length t ≤ 11) n
    (λ z. omega arith)
    (λ z y. omega (arith, two_digits n.first h, length-append (kind_word n.kind) (tab ∷ digits n.first)))
    (λ z y. omega (arith, fields_length (kind_word n.kind) n.first n.second h k))

pub nodes_length : (lines i : ℕ) (ws : List ℕ) → i + lines ≤ max_rule_nodes → nodes_refusal false i lines ws ≡ 0 → length (nodes_text (take lines ws)) ≤ lines * 12
unfolding nodes_refusal nodes_text
nodes_length zero i ws h e = omega arith
nodes_length (suc lines) i [] h e = absurd (omega arith)
nodes_length (suc lines) i (w ∷ ws) h e =
    let p = or_else_none (node_refusal false i (node_of w)) (nodes_refusal false (i + 1) lines ws) e in
    let g = accepted_node i (node_of w) p.0 in
    let a = first_below i (node_of w) g (omega arith) in
    let b = second_below i (node_of w) g (omega arith) in
    let s = node_length (node_of w) (omega arith) (omega arith) in
    let r = nodes_length lines (i + 1) ws (omega arith) p.1 in
    omega (arith, length-append (node_text (node_of w)) (newline ∷ nodes_text (take lines ws)))

pub heading_length : (c n : ℕ) → c < 100 → n < 100 → length (heading_text c n) ≤ 10
unfolding heading_text
heading_length c n h k = fields_length rule_word c n h k
