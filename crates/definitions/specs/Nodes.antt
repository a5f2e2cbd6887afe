-- "The rule table" (document 01): kinds and their numbers, nodes, and the word that a node is in lent space.
use Rattle.std.specs.Prelude.{ℕ, ◌+◌, ◌*◌, ◌/◌, ◌%◌, List, get_or, eqb}
use Rattle.definitions.specs.Bounded.{pick}

-- "true 0, atom 1, not 2, or 3, next 4, until 5, prev 6, since 7, run 8, end 9"; any other number is an unknown kind
pub data Kind : Type 0 where
  True Atom Not Or Next Until Prev Since Run End Unknown : Kind

-- "Each kind has one fixed number"
abbrev pub kind_number : Kind → ℕ
kind_number True = 0
kind_number Atom = 1
kind_number Not = 2
kind_number Or = 3
kind_number Next = 4
kind_number Until = 5
kind_number Prev = 6
kind_number Since = 7
kind_number Run = 8
kind_number End = 9
kind_number Unknown = 10

-- the kind of a number
unfoldable pub kind_of : ℕ → Kind
kind_of k =
    pick (eqb k 0) True
    (pick (eqb k 1) Atom
    (pick (eqb k 2) Not
    (pick (eqb k 3) Or
    (pick (eqb k 4) Next
    (pick (eqb k 5) Until
    (pick (eqb k 6) Prev
    (pick (eqb k 7) Since
    (pick (eqb k 8) Run
    (pick (eqb k 9) End Unknown)))))))))

-- "Two operands; an unused one is 0"
pub record Node : Type 0 where
  pub kind : Kind
  pub first : ℕ
  pub second : ℕ

-- a node of a kind with its operands
abbrev pub node : (k : Kind) (a b : ℕ) → Node
node k a b = record { kind = k; first = a; second = b }

-- a node that is not there
abbrev pub no_node : Node
no_node = node True 0 0

-- node m of a table
abbrev pub node_at : (ns : List Node) (m : ℕ) → Node
node_at ns m = get_or ns m no_node

-- how many operands a kind uses
abbrev pub operands : Kind → ℕ
operands True = 0
operands Atom = 1
operands Not = 1
operands Or = 2
operands Next = 1
operands Until = 2
operands Prev = 1
operands Since = 2
operands Run = 0
operands End = 0
operands Unknown = 0

-- a node in lent space is one word: the kind's number in its low 8 bits, the first operand in the next 12, the second in the rest
abbrev pub kind_span : ℕ
kind_span = 256

-- an operand is below 4,096, above every number in a table of 1,024 nodes
abbrev pub operand_span : ℕ
operand_span = 4096

-- the word of a node
abbrev pub node_word : Node → ℕ
node_word n = kind_number n.kind + n.first * kind_span + n.second * (kind_span * operand_span)

-- the node that a word is
abbrev pub node_of : ℕ → Node
node_of w = node (kind_of (w % kind_span)) (w / kind_span % operand_span) (w / (kind_span * operand_span))
