-- One line of a rule text, read or written.
use mathlib.Core.Path.{◌≡◌}
use Prim.Native.Nat.{ℕ, suc, ◌+◌}
use mathlib.Core.Bool.{true, false}
use mathlib.Core.List.{List, ◌∷◌, ◌++◌, append_assoc}
use lib.Dec.{eqb}
use borrow.Author.Tests.{eqb-true, eqb-false}
use Rattle.definitions.specs.Bounded.{pick}
use Rattle.definitions.specs.Nodes.{Node, operands, node_word}
use Rattle.definitions.specs.Lines.{tab, newline, Heading, digits, refused, read, on_next, stop, more}
use Rattle.definitions.specs.RuleText.{rule_word, kind_word, node_line, scan_nodes, rule_heading_line, rule_stop, rule_nodes, scan_rule, node_text, nodes_text, rule_text}
use Rattle.theorems.proofs.Choice.{by_test}

-- the text of a node, by how many operands its kind uses
module _ (n : Node) where
  pub text_none : eqb (operands n.kind) 0 ≡ true → node_text n ≡ kind_word n.kind
  unfolding node_text pick
  text_none z = rw z

  module _ (z : eqb (operands n.kind) 0 ≡ false) where
    pub text_one : eqb (operands n.kind) 1 ≡ true → node_text n ≡ kind_word n.kind ++ (tab ∷ digits n.first)
    unfolding node_text pick
    text_one y = rw (z, y)

    pub text_two : eqb (operands n.kind) 1 ≡ false → node_text n ≡ kind_word n.kind ++ (tab ∷ (digits n.first ++ (tab ∷ digits n.second)))
    unfolding node_text pick
    text_two y = rw (z, y)

-- a law of a node's text, from its case at each count of operands
pub by_operands : (P : List ℕ → Type 0) (n : Node)
    → (operands n.kind ≡ 0 → P (kind_word n.kind))
    → ((operands n.kind ≡ 0 → ⊥) → operands n.kind ≡ 1 → P (kind_word n.kind ++ (tab ∷ digits n.first)))
    → ((operands n.kind ≡ 0 → ⊥) → (operands n.kind ≡ 1 → ⊥) → P (kind_word n.kind ++ (tab ∷ (digits n.first ++ (tab ∷ digits n.second)))))
    → P (node_text n)
by_operands P n none one two =
    let k = operands n.kind in
    by_test (eqb k 0)
    (λ z. rw (text_none n z) (none (eqb-true k 0 z)))
    (λ z. by_test (eqb k 1)
    (λ y. rw (text_one n z y) (one (eqb-false k 0 z) (eqb-true k 1 y)))
    (λ y. rw (text_two n z y) (two (eqb-false k 0 z) (eqb-false k 1 y))))

-- a node line is refused, or read and then the rest
module _ (lines i : ℕ) (t : List ℕ) where
  pub nodes_stop : (number : ℕ) → node_line i t ≡ refused number → scan_nodes (suc lines) i t ≡ stop number t
  unfolding scan_nodes on_next
  nodes_stop number e = rw e

  pub nodes_step : (n : Node) (rest : List ℕ) → node_line i t ≡ read n rest → scan_nodes (suc lines) i t ≡ more (node_word n) (scan_nodes lines (i + 1) rest)
  unfolding scan_nodes on_next
  nodes_step n rest e = rw e

-- the first line is refused, or read and then the nodes
module _ (t : List ℕ) where
  pub rule_stop_lem : (number : ℕ) → rule_heading_line t ≡ refused number → scan_rule t ≡ rule_stop number t
  unfolding scan_rule on_next
  rule_stop_lem number e = rw e

  pub rule_step_lem : (h : Heading) (rest : List ℕ) → rule_heading_line t ≡ read h rest → scan_rule t ≡ rule_nodes h (scan_nodes h.second 0 rest)
  unfolding scan_rule on_next
  rule_step_lem h rest e = rw e

-- the first line, without byte 10
unfoldable pub heading_text : ℕ → ℕ → List ℕ
heading_text controller count = rule_word ++ (tab ∷ (digits controller ++ (tab ∷ digits count)))

pub rule_lines_lem : (controller count : ℕ) (ws : List ℕ) → rule_text controller count ws ≡ heading_text controller count ++ (newline ∷ nodes_text ws)
unfolding rule_text heading_text
rule_lines_lem controller count ws = simp append_assoc
