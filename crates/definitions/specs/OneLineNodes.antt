-- "Rules in one line" (document 02): the nodes of a tree, in the order in which they come out, and its largest atom.
use Rattle.std.specs.Prelude.{ℕ, ◌+◌, ◌-◌, List, [], ◌∷◌, ◌++◌}
use Rattle.definitions.specs.Nodes as table
use Rattle.definitions.specs.Nodes.{Kind, Node, node}
use Rattle.definitions.specs.OneLineSigns.{Prefix, Not, Next, Prev, Future, Always, Infix, Implies, Or, And, Until, Since}
use Rattle.definitions.specs.OneLineGrammar.{Tree, truth, atom, prefixed, joined, larger}

-- a rule in the kinds that a table has
pub data RuleTree : Type 0 where
  atomic : Kind → ℕ → RuleTree
  unary : Kind → RuleTree → RuleTree
  binary : Kind → RuleTree → RuleTree → RuleTree

abbrev pub negation : RuleTree → RuleTree
negation p = unary table.Not p

-- "`F p` becomes true, p, until"
abbrev pub eventually : RuleTree → RuleTree
eventually p = binary table.Until (atomic table.True 0) p

-- "`! | X Y U S` are not, or, next, prev, until and since"; "`G p` is `!F!p`"
abbrev pub prefix_tree : Prefix → (p : RuleTree) → RuleTree
prefix_tree Not p = negation p
prefix_tree Next p = unary table.Next p
prefix_tree Prev p = unary table.Prev p
prefix_tree Future p = eventually p
prefix_tree Always p = negation (eventually (negation p))

-- "`p & q` is `!(!p|!q)`; `p -> q` is `!p|q`"
abbrev pub infix_tree : Infix → (p q : RuleTree) → RuleTree
infix_tree Implies p q = binary table.Or (negation p) q
infix_tree Or p q = binary table.Or p q
infix_tree And p q = negation (binary table.Or (negation p) (negation q))
infix_tree Until p q = binary table.Until p q
infix_tree Since p q = binary table.Since p q

-- what a tree stands for
unfoldable pub rule_tree_of : Tree → RuleTree
rule_tree_of truth = atomic table.True 0
rule_tree_of (atom n) = atomic table.Atom n
rule_tree_of (prefixed x p) = prefix_tree x (rule_tree_of p)
rule_tree_of (joined x p q) = infix_tree x (rule_tree_of p) (rule_tree_of q)

-- how many nodes come out
unfoldable pub size : RuleTree → ℕ
size (atomic k n) = 1
size (unary k p) = size p + 1
size (binary k p q) = size p + (size q + 1)

-- "Operands come out before their operator, left first": the first node is node b
unfoldable pub nodes_from : (b : ℕ) → RuleTree → List Node
nodes_from b (atomic k n) = node k n 0 ∷ []
nodes_from b (unary k p) = nodes_from b p ++ (node k (b + size p - 1) 0 ∷ [])
nodes_from b (binary k p q) = nodes_from b p ++ (nodes_from (b + size p) q ++ (node k (b + size p - 1) (b + size p + size q - 1) ∷ []))

-- the nodes of a tree
abbrev pub nodes_of : Tree → List Node
nodes_of t = nodes_from 0 (rule_tree_of t)

-- the largest atom number of a tree, 0 where there is none
unfoldable pub largest_atom : Tree → ℕ
largest_atom truth = 0
largest_atom (atom n) = n
largest_atom (prefixed x p) = largest_atom p
largest_atom (joined x p q) = larger (largest_atom p) (largest_atom q)
