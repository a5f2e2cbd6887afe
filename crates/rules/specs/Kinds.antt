-- What a kind of the code means, kinds without operand nodes, and the node that an accepted table holds.
use Rattle.std.specs.Prelude.{Bool, true, false, ◌≡◌, ℕ, ◌<◌}
use Rattle.definitions.specs.Limits.{atom_count}
use Rattle.definitions.specs.Nodes.{Kind, True, Atom, Not, Or, Next, Until, Prev, Since, Run, End, Unknown, kind_of, Node}
use Rattle.rules.specs.declared.kind.Kind as told
use Rattle.rules.specs.declared.kind.Kind.TheVariants as code

-- the kind that is meant
abbrev pub kind_in : told.Kind → Kind
kind_in code.True = True
kind_in code.Atom = Atom
kind_in code.Not = Not
kind_in code.Or = Or
kind_in code.Next = Next
kind_in code.Until = Until
kind_in code.Prev = Prev
kind_in code.Since = Since
kind_in code.Run = Run
kind_in code.End = End
kind_in (code.Unknown n) = Unknown

-- the number that a kind is told by
abbrev pub number_in : told.Kind → ℕ
number_in code.True = 0
number_in code.Atom = 1
number_in code.Not = 2
number_in code.Or = 3
number_in code.Next = 4
number_in code.Until = 5
number_in code.Prev = 6
number_in code.Since = 7
number_in code.Run = 8
number_in code.End = 9
number_in (code.Unknown n) = n

-- the kind of a number, which it keeps
pub record OfNumber (number : ℕ) (kind : told.Kind) : Type 0 where
  pub meant : kind_in kind ≡ kind_of number
  pub kept : number_in kind ≡ number

-- a kind that has no operand nodes
abbrev pub is_leaf : Kind → Bool
is_leaf True = true
is_leaf Atom = true
is_leaf Not = false
is_leaf Or = false
is_leaf Next = false
is_leaf Until = false
is_leaf Prev = false
is_leaf Since = false
is_leaf Run = true
is_leaf End = true
is_leaf Unknown = true

-- node i of an accepted table: its atom is an atom, its operands are earlier nodes (an unused one is 0)
pub record Fit (i : ℕ) (n : Node) : Type 0 where
  pub known : n.kind ≡ Unknown → ⊥
  pub atom : n.kind ≡ Atom → n.first < atom_count
  pub first : is_leaf n.kind ≡ false → n.first < i
  pub second : is_leaf n.kind ≡ false → n.second < i
