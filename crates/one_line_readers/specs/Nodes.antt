-- The nodes of a prefix or of a sign between two operands, as they come out around the operands.
use Rattle.std.specs.Prelude.{ℕ, ◌+◌, ◌-◌, List, [], ◌∷◌, map}
use Rattle.definitions.specs.Nodes as table
use Rattle.definitions.specs.Nodes.{Kind, Node, node, node_word}
use Rattle.definitions.specs.OneLineSigns.{Prefix, Not, Next, Prev, Future, Always, Infix, Implies, Or, And, Until, Since}

-- the words of nodes
abbrev pub words : List Node → List ℕ
words ns = map node_word ns

-- the nodes before a prefix's operand
unfoldable pub prefix_first : Prefix → List Node
prefix_first Not = []
prefix_first Next = []
prefix_first Prev = []
prefix_first Future = node table.True 0 0 ∷ []
prefix_first Always = node table.True 0 0 ∷ []

-- the nodes after a prefix's operand: the prefix begins at node b, the operand ends before node e
unfoldable pub prefix_last : Prefix → ℕ → ℕ → List Node
prefix_last Not b e = node table.Not (e - 1) 0 ∷ []
prefix_last Next b e = node table.Next (e - 1) 0 ∷ []
prefix_last Prev b e = node table.Prev (e - 1) 0 ∷ []
prefix_last Future b e = node table.Until b (e - 1) ∷ []
prefix_last Always b e = node table.Not (e - 1) 0 ∷ node table.Until b e ∷ node table.Not (e + 1) 0 ∷ []

-- the nodes between the operands of a sign, the first of which ends before node m
unfoldable pub infix_middle : Infix → ℕ → List Node
infix_middle Implies m = node table.Not (m - 1) 0 ∷ []
infix_middle Or m = []
infix_middle And m = node table.Not (m - 1) 0 ∷ []
infix_middle Until m = []
infix_middle Since m = []

-- the nodes after the second operand, which ends before node e
unfoldable pub infix_last : Infix → ℕ → ℕ → List Node
infix_last Implies m e = node table.Or m (e - 1) ∷ []
infix_last Or m e = node table.Or (m - 1) (e - 1) ∷ []
infix_last And m e = node table.Not (e - 1) 0 ∷ node table.Or m e ∷ node table.Not (e + 1) 0 ∷ []
infix_last Until m e = node table.Until (m - 1) (e - 1) ∷ []
infix_last Since m e = node table.Since (m - 1) (e - 1) ∷ []

-- not of the node before e
abbrev pub not_words : ℕ → List ℕ
not_words e = words (node table.Not (e - 1) 0 ∷ [])

-- not of the node before e, an operator over it, not of that
abbrev pub dual_words : Kind → ℕ → ℕ → List ℕ
dual_words k a e = words (node table.Not (e - 1) 0 ∷ node k a e ∷ node table.Not (e + 1) 0 ∷ [])
