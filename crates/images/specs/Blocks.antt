-- The lists of documents 01 and 02 as rows: a node's operands are numbers of the opening or names, and names get a meaning when a block is laid.
use Rattle.std.specs.Prelude.{Bool, true, false, not, ◌&&◌, List, [], ◌∷◌, ◌++◌, map, ◌≡◌, ℕ, suc, ◌<◌, ◌≤◌, length, set, get_or, ltb, IsTrue, All}
use Rattle.std.specs.List.{list_all}
use Rattle.definitions.specs.Nodes as table
use Rattle.definitions.specs.Nodes.{True, Atom, Not, Or, node, operand_span}
use Rattle.definitions.specs.Tables.{is_unknown}
use Rattle.definitions.specs.Rewriting.{Operand, Emit, #, ·, one, two, itself, foreign_atom, plain_next, plain_until, plain_prev, plain_since, short_next, short_until, short_since, closing}
use Rattle.rules.specs.declared.node.Node.{Node}
use Rattle.rules.specs.Kinds.{kind_in}
use Rattle.rules.specs.Meaning.{meaning, Wordable}
use Rattle.images.specs.declared.blocks.Block.{Block}
use Rattle.images.specs.declared.blocks.Row.{Row}
use Rattle.images.specs.declared.blocks.Form.{Form}
use Rattle.images.specs.declared.blocks.Form.TheVariants.{TrueItself, OwnAtom, ForeignAtom, NotBoth, OrBoth, PlainNext, PlainUntil, PlainPrev, PlainSince, ShortNext, ShortUntil, ShortSince}

-- the names, in the code's order: a and b are the weak images, a' and b' the strong ones
abbrev pub dot : ℕ
dot = 10

abbrev a : ℕ
a = 11

abbrev a' : ℕ
a' = 12

abbrev b : ℕ
b = 13

abbrev b' : ℕ
b' = 14

abbrev x : ℕ
x = 15

abbrev g : ℕ
g = 16

abbrev n : ℕ
n = 17

-- "weak image w first, then strong image s"
pub record Lists : Type 0 where
  pub weak : List Emit
  pub strong : List Emit

-- the lists of each form
unfoldable pub lists_of : Form → Lists
lists_of TrueItself = record { weak = itself true True 0; strong = itself false True 0 }
lists_of OwnAtom = record { weak = itself true Atom n; strong = itself false Atom n }
lists_of ForeignAtom = record { weak = foreign_atom true x n; strong = foreign_atom false x n }
lists_of NotBoth = record { weak = one Not (# a') ∷ []; strong = one Not (# a) ∷ [] }
lists_of OrBoth = record { weak = two Or (# a) (# b) ∷ []; strong = two Or (# a') (# b') ∷ [] }
lists_of PlainNext = record { weak = plain_next true a; strong = plain_next false a' }
lists_of PlainUntil = record { weak = plain_until true x a b; strong = plain_until false g a' b' }
lists_of PlainPrev = record { weak = plain_prev a; strong = plain_prev a' }
lists_of PlainSince = record { weak = plain_since x a b; strong = plain_since g a' b' }
lists_of ShortNext = record { weak = short_next true a; strong = short_next false a' }
lists_of ShortUntil = record { weak = short_until true a b; strong = short_until false a' b' }
lists_of ShortSince = record { weak = short_since a b; strong = short_since a' b' }

-- an operand of a list, and a list, as rows
abbrev row_operand : Operand → ℕ
row_operand (# k) = k
row_operand · = dot

abbrev pub rows_of : List Emit → List table.Node
rows_of [] = []
rows_of (e ∷ es) = node e.kind (row_operand e.first) (row_operand e.second) ∷ rows_of es

-- a row as a node
abbrev pub row_in : Row → table.Node
row_in r = node (kind_in r.0) r.1 r.2

abbrev pub rows_in : List Row → List table.Node
rows_in rows = map row_in rows

-- a row is of a known kind, and its operands have a meaning
abbrev pub is_fine : Row → Bool
is_fine r = not (is_unknown (kind_in r.0)) && (ltb r.1 18 && ltb r.2 18)

-- there are few rows, and all are fine
pub record FineRows (rows : List Row) : Type 0 where
  pub few : length rows ≤ 11
  pub fine : IsTrue (list_all is_fine rows)

-- the lists of a closing
abbrev pub closing_lists : Lists
closing_lists = record { weak = closing true a; strong = closing false a' }

-- block k has the lists
pub record IsBlock (l : Lists) (k : Block) : Type 0 where
  pub some : 0 < k.weak
  pub inside : k.weak ≤ length k.rows.now
  pub weak : k.weak ≡ length l.weak
  pub fine : FineRows k.rows.now
  pub same : rows_in k.rows.now ≡ rows_of (l.weak ++ l.strong)

-- what the operands of rows stand for: every number of the opening for itself
abbrev pub naming : ℕ → ℕ → ℕ → ℕ → ℕ → ℕ → ℕ → ℕ → List ℕ
naming just a a' b b' x g n = 0 ∷ 1 ∷ 2 ∷ 3 ∷ 4 ∷ 5 ∷ 6 ∷ 7 ∷ 8 ∷ 9 ∷ just ∷ a ∷ a' ∷ b ∷ b' ∷ x ∷ g ∷ n ∷ []

pub record SmallNames (f : List ℕ) : Type 0 where
  pub low : All (λ o. o < operand_span) f

-- the node of a row
abbrev pub become : List ℕ → table.Node → table.Node
become f t = node t.kind (get_or f t.first 0) (get_or f t.second 0)

-- r is the node of a row
pub record Made (w : Row) (f : List ℕ) (r : Node) : Type 0 where
  pub meant : meaning r ≡ become f (row_in w)
  pub word : Wordable r

-- the nodes of some rows from number n on; each is then "the node just emitted"
abbrev pub laid : List ℕ → ℕ → List table.Node → List table.Node
laid f n [] = []
laid f n (t ∷ ts) = become f t ∷ laid (set f dot n) (suc n) ts
