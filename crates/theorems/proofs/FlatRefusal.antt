-- The refusal of a list of signs, found without its tree: by the flat reading, and by counting over the signs.
use mathlib.Core.Path.{◌≡◌, refl, sym, ◌∙◌}
use Prim.Native.Nat.{ℕ}
use native.Mathlib.Omega.{arith}
use mathlib.Core.Bool.{Bool, true, false, not, ◌&&◌, ◌||◌}
use mathlib.Core.List.{List}
use lib.ListN.{length}
use lib.Dec.{ltb, leb}
use borrow.Author.Tests.{ltb-true, ltb-false, le-leb, lt-leb}
use Rattle.definitions.specs.Limits.{accepted, atom_count, max_controllers, max_rule_nodes, max_open_brackets, rule_limits, line_form, brackets_deep}
use Rattle.definitions.specs.Bounded.{pick}
use Rattle.definitions.specs.Lines.{on_parsed}
use Rattle.definitions.specs.OneLineSigns.{Sign}
use Rattle.definitions.specs.OneLineGrammar.{Tree, Sentence, open_at_once}
use Rattle.definitions.specs.OneLineNodes.{rule_tree_of, nodes_of, largest_atom}
use Rattle.definitions.specs.OneLineReading.{tree_of}
use Rattle.definitions.specs.OneLine.{sentence_refusal}
use Rattle.theorems.proofs.Choice.{by_test}
use Rattle.theorems.proofs.Phrases.{flat, operand, weight, low_atoms, phrase_weight, phrase_low}
use Rattle.theorems.proofs.SentenceTrees.{flat_no_tree, flat_tree}
use Rattle.theorems.proofs.OneLineTables.{nodes_size}

-- 15, 16, 2 or 0
unfoldable pub flat_refusal : ℕ → List Sign → ℕ
flat_refusal controller s =
    pick (flat s operand 0)
    (pick (ltb max_open_brackets (open_at_once s)) brackets_deep
    (pick (ltb max_rule_nodes (weight s) || not (low_atoms s) || leb max_controllers controller) rule_limits accepted))
    line_form

-- as many nodes as the signs add
pub sentence_weight : (s : List Sign) (t : Tree) → Sentence s t → length (nodes_of t) ≡ weight s
unfolding weight
sentence_weight s t x = nodes_size (rule_tree_of t) 0 ∙ (sym (omega arith) ∙ phrase_weight x)

-- no atom is above the limit where none of the signs is
pub sentence_low : (s : List Sign) (t : Tree) → Sentence s t → low_atoms s ≡ ltb (largest_atom t) atom_count
unfolding low_atoms
sentence_low s t x = phrase_low x ∙ and_yes (ltb (largest_atom t) atom_count)
  where
    and_yes : (a : Bool) → (a && true) ≡ a
    and_yes true = refl
    and_yes false = refl

not_low : (n k : ℕ) → not (ltb n k) ≡ leb k n
not_low n k = by_test (ltb n k) (λ e. rw (e, lt-leb k n (ltb-true n k e))) (λ e. rw (e, le-leb k n (ltb-false n k e)))

-- it is the refusal of the definitions
pub flat_refusal_lem : (controller : ℕ) (s : List Sign) → flat_refusal controller s ≡ on_parsed (tree_of s) line_form (sentence_refusal controller s)
unfolding flat_refusal sentence_refusal pick on_parsed
flat_refusal_lem controller s =
    by_test (flat s operand 0)
    (λ e.
    let d = flat_tree s e in
    rw (
      e,
      d.computed,
      ← (sentence_weight s d.tree d.sentence),
      sentence_low s d.tree d.sentence,
      not_low (largest_atom d.tree) atom_count,
    ))
    (λ e. rw (e, flat_no_tree s e))
