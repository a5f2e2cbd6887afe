-- Laws of writing nodes, node lines and the first line: one for each call that wants room, and for each return.
use mathlib.Core.Path.{◌≡◌, refl, ap, sym, ◌∙◌}
use mathlib.Core.Bool.{false}
use mathlib.Core.List.{List, [], ◌∷◌, ◌++◌, append_assoc}
use Prim.Native.Nat.{ℕ, ◌+◌, ◌<◌, ◌≤◌}
use native.Mathlib.Omega.{arith}
use native.Mathlib.Numerals.{add-one}
use lib.Dec.{eqb}
use lib.ListN.{length, take, drop, get_or, length-append, take-append-drop}
use lib.Seq.{take-suc, take_all}
use borrow.Author.Rules.{rules}
use borrow.Author.Tests.{eq-eqb, ne_eqb, eqb-true, eqb-false}
use Rattle.definitions.specs.Nodes as table
use Rattle.definitions.specs.Nodes.{Kind, node, node_of, operands}
use Rattle.definitions.specs.Lines.{tab, newline, digits}
use Rattle.definitions.specs.RuleText.{rule_word, kind_word, node_text, nodes_text}
use Rattle.theorems.proofs.Choice.{by_test}
use Rattle.theorems.proofs.RuleTextSteps.{text_none, text_one, text_two}
use Rattle.printing.specs.Printing.{Printed}
use Rattle.printing.proofs.PrintLaws.{printed_seq, printed_none}
use Rattle.rules.specs.Meaning.{meaning, OfWord}
use Rattle.rules.specs.declared.node.Node.{Node}
use Rattle.rule_writer.specs.Writing.{heading_line, heading_size}

-- ---- `put_node`
module _ (k : Kind) (a b uses : ℕ) (us : uses ≡ operands k) where
  none : uses ≡ 0 → node_text (node k a b) ≡ kind_word k
  none e = text_none (node k a b) (eq-eqb (operands k) 0 (sym us ∙ e))

  some : (uses ≡ 0 → ⊥) → eqb (operands k) 0 ≡ false
  some z = ne_eqb (operands k) 0 (λ q. z (us ∙ q))

  one : (uses ≡ 0 → ⊥) → uses ≡ 1 → node_text (node k a b) ≡ kind_word k ++ (tab ∷ digits a)
  one z e = text_one (node k a b) (some z) (eq-eqb (operands k) 1 (sym us ∙ e))

  two : (uses ≡ 0 → ⊥) → (uses ≡ 1 → ⊥) → node_text (node k a b) ≡ (kind_word k ++ (tab ∷ digits a)) ++ (tab ∷ digits b)
  two z e = text_two (node k a b) (some z) (ne_eqb (operands k) 1 (λ q. e (us ∙ q))) ∙ simp append_assoc

  module _ (o : List ℕ) (at : ℕ) (room : at + length (node_text (node k a b)) ≤ length o) where
    room_first : (uses ≡ 0 → ⊥) → at + length (kind_word k ++ (tab ∷ digits a)) ≤ length o
    room_first z =
        by_test (eqb uses 1)
        (λ y. omega (arith, ap length (one z (eqb-true uses 1 y))))
        (λ y. omega (arith, ap length (two z (eqb-false uses 1 y)), length-append (kind_word k ++ (tab ∷ digits a)) (tab ∷ digits b)))

    pub node_room : at + length (kind_word k) ≤ length o
    node_room =
        by_test (eqb uses 0)
        (λ z. omega (arith, ap length (none (eqb-true uses 0 z))))
        (λ z. omega (arith, room_first (eqb-false uses 0 z), length-append (kind_word k) (tab ∷ digits a)))

    module _ (p : ℕ) (o' : List ℕ) (word : Printed (kind_word k) o at p o') where
      -- `put_node`, no operand: `node_text` is the kind's word
      pub node_none : uses ≡ 0 → Printed (node_text (node k a b)) o at p o'
      node_none e = rw (none e) word

      module _ (z : uses ≡ 0 → ⊥) where
        pub node_first_room : length o' ≡ length o → p + length (tab ∷ digits a) ≤ length o'
        node_first_room kept = omega (arith, room_first z, length-append (kind_word k) (tab ∷ digits a), word.next)

        module _ (q : ℕ) (o'' : List ℕ) (first : Printed (tab ∷ digits a) o' p q o'') where
          both : Printed (kind_word k ++ (tab ∷ digits a)) o at q o''
          both = printed_seq (kind_word k) (tab ∷ digits a) o o' o'' at p q node_room word first

          -- `put_node`, one operand: `node_text` is the word and its field
          pub node_one : uses ≡ 1 → Printed (node_text (node k a b)) o at q o''
          node_one e = rw (one z e) both

          module _ (m : uses ≡ 1 → ⊥) where
            pub node_second_room : length o' ≡ length o → length o'' ≡ length o' → q + length (tab ∷ digits b) ≤ length o''
            node_second_room h j = omega (arith, ap length (two z m), length-append (kind_word k ++ (tab ∷ digits a)) (tab ∷ digits b), both.next)

            -- `put_node`, two operands: `node_text` is the word and both fields
            pub node_two : (r : ℕ) (o''' : List ℕ) → Printed (tab ∷ digits b) o'' q r o''' → Printed (node_text (node k a b)) o at r o'''
            node_two r o''' second = rw (two z m) (printed_seq (kind_word k ++ (tab ∷ digits a)) (tab ∷ digits b) o o'' o''' at q r (room_first z) both second)

pub ruleset pen_laws = (rules, node_room, node_none, node_first_room, node_one, node_second_room, node_two)

-- ---- `put_nodes`
nodes_append : (xs ys : List ℕ) → nodes_text (xs ++ ys) ≡ nodes_text xs ++ nodes_text ys
unfolding nodes_text
nodes_append [] ys = refl
nodes_append (x ∷ xs) ys = rw (nodes_append xs ys) (simp append_assoc)

nodes_one : (w : ℕ) → nodes_text (w ∷ []) ≡ node_text (node_of w) ++ (newline ∷ [])
unfolding nodes_text
nodes_one w = refl

-- the first i lines are written
pub record Lined (ws o : List ℕ) (start : ℕ) (o' : List ℕ) (at i : ℕ) : Type 0 where
  pub within : i ≤ length ws
  pub kept : length o' ≡ length o
  pub lies : Printed (nodes_text (take i ws)) o start at o'

-- `put_nodes`, before the first turn: no line of `nodes_text` is written
pub lined_none : (ws o : List ℕ) (start : ℕ) → Lined ws o start o start 0
unfolding nodes_text
lined_none ws o start = record { within = omega arith; kept = refl; lies = printed_none o start }

module _ (ws o : List ℕ) (start : ℕ) (o' : List ℕ) (at i : ℕ) (inv : Lined ws o start o' at i) (room : start + length (nodes_text ws) ≤ length o) where
  -- `put_nodes`, all words are written: the lines are `nodes_text`
  pub lined_done : length ws ≤ i → Printed (nodes_text ws) o start at o'
  lined_done h = rw (take_all i ws h) at inv.lies

  module _ (h : i < length ws) (n : Node) (is : OfWord (get_or ws i 0) n) where
    step : nodes_text (take (i + 1) ws) ≡ nodes_text (take i ws) ++ (node_text (meaning n) ++ (newline ∷ []))
    step = rw (add-one, take-suc ws i 0 h, nodes_append, nodes_one) (ap (λ (m : table.Node). nodes_text (take i ws) ++ (node_text m ++ (newline ∷ []))) (sym is.meant))

    fits : start + length (nodes_text (take i ws)) + length (node_text (meaning n)) + 1 ≤ length o
    fits =
        let front = nodes_text (take (i + 1) ws) in
        let back = nodes_text (drop (i + 1) ws) in
        let all : length front + length back ≡ length (nodes_text ws) =
        sym (length-append front back) ∙ (ap length (sym (nodes_append (take (i + 1) ws) (drop (i + 1) ws))) ∙ ap (λ (l : List ℕ). length (nodes_text l)) (take-append-drop (i + 1) ws)) in
        omega (arith, all, ap length step, length-append (nodes_text (take i ws)) (node_text (meaning n) ++ (newline ∷ [])), length-append (node_text (meaning n)) (newline ∷ []))

    pub line_room : at + length (node_text (meaning n)) ≤ length o'
    line_room = omega (arith, fits, inv.kept, inv.lies.next)

    module _ (q : ℕ) (o'' : List ℕ) (line : Printed (node_text (meaning n)) o' at q o'') (kept : length o'' ≡ length o') where
      pub end_room : q < length o''
      end_room = omega (arith, fits, inv.kept, inv.lies.next, line.next)

      -- `put_nodes`, a turn: `nodes_text` of one word more is written
      pub lined_next : (r : ℕ) (o''' : List ℕ) → Printed (newline ∷ []) o'' q r o''' → length o''' ≡ length o'' → Lined ws o start o''' r (i + 1)
      lined_next r o''' end held = record {
        within = omega arith;
        kept = held ∙ (kept ∙ inv.kept);
        lies = rw step (printed_seq (nodes_text (take i ws)) (node_text (meaning n) ++ (newline ∷ [])) o o' o''' start at r (omega (arith, fits)) inv.lies
            (printed_seq (node_text (meaning n)) (newline ∷ []) o' o'' o''' at q r line_room line end));
      }

pub ruleset lined_laws = (rules, lined_none, lined_done, line_room, end_room, lined_next)

-- ---- `put_heading`
-- `put_heading`: the word, the two fields and the end of line are `heading_line`
pub heading_written : (c n p q r e : ℕ) (o o₁ o₂ o₃ o₄ : List ℕ) → heading_size c n ≤ length o
    → Printed rule_word o 0 p o₁ → length o₁ ≡ length o → Printed (tab ∷ digits c) o₁ p q o₂ → length o₂ ≡ length o₁ → Printed (tab ∷ digits n) o₂ q r o₃
    → Printed (newline ∷ []) o₃ r e o₄ → Printed (heading_line c n) o 0 e o₄
unfolding heading_line
heading_written c n p q r e o o₁ o₂ o₃ o₄ room word kept first kept₂ second end =
    printed_seq rule_word ((tab ∷ digits c) ++ ((tab ∷ digits n) ++ (newline ∷ []))) o o₁ o₄ 0 p e (omega arith) word
    (printed_seq (tab ∷ digits c) ((tab ∷ digits n) ++ (newline ∷ [])) o₁ o₂ o₄ p q e (omega (arith, word.next)) first
    (printed_seq (tab ∷ digits n) (newline ∷ []) o₂ o₃ o₄ q r e (omega (arith, word.next, first.next)) second end))

pub ruleset heading_laws = (rules, heading_written)
