-- The images of one node of a rule, from those of its operands: `part` and `tolerant_of` of the definitions with the operands' images looked up.
use Rattle.std.specs.Prelude.{Bool, true, false, not, ◌&&◌, List, [], ◌∷◌, ◌++◌, ◌≡◌, ℕ, ◌+◌, ◌-◌, ◌<◌, ◌≤◌, length}
use Rattle.definitions.specs.Bounded.{pick}
use Rattle.definitions.specs.Nodes.{Kind, True, Atom, Not, Or, Next, Until, Prev, Since, Run, End, Unknown, Node, operand_span}
use Rattle.definitions.specs.Rewriting as table
use Rattle.definitions.specs.Rewriting.{Emit, #, one, two, itself, foreign_atom, plain_next, plain_until, plain_prev, plain_since, short_next, short_until, short_since, closing, part, image_of}
use Rattle.images.specs.declared.image.Image.{Image}
use Rattle.images.specs.declared.blocks.Form.{Form}
use Rattle.images.specs.declared.blocks.Form.TheVariants.{TrueItself, OwnAtom, ForeignAtom, NotBoth, OrBoth, PlainNext, PlainUntil, PlainPrev, PlainSince, ShortNext, ShortUntil, ShortSince}
use Rattle.images.specs.declared.Tops.{Tops}
use Rattle.images.specs.Emission.{Emitted}
use Rattle.images.specs.Blocks.{naming, SmallNames}

-- what the image type of the code means
abbrev pub meant : Image → table.Image
meant i = record { weak = i.weak; strong = i.strong; tolerant = i.tolerant }

-- a block begins at number `at`, and so many of its rows are the weak image's
pub record Begun (at weak : ℕ) : Type 0 where
  pub some : 0 < at
  pub low : at + weak < operand_span

-- r says what the operands of rows stand for as the block begins
pub record Named (at weak n : ℕ) (P Q : table.Image) (r : List ℕ) : Type 0 where
  pub same : r ≡ naming (at - 1) P.weak P.strong Q.weak Q.strong at (at + weak) n
  pub small : SmallNames r

-- `part` of the definitions: `own` is whether the atom is own, P and Q are the operands' images
unfoldable pub part_of : Bool → Bool → table.Image → table.Image → ℕ → ℕ → Bool → Kind → ℕ → List Emit
part_of short own P Q x g weak k a =
    part short weak k (record {
      x = x;
      g = g;
      a = image_of weak P;
      b = image_of weak Q;
      opposite = image_of (not weak) P;
      atom_number = a;
      own = own;
      tolerant_first = P.tolerant;
      tolerant_both = P.tolerant && Q.tolerant;
    })

-- the form of a node: which of the lists are its images; no rule holds run, end or an unknown kind
abbrev pub form_by : Bool → Bool → Bool → Bool → Kind → Form
form_by short own p q True = TrueItself
form_by short own p q Atom = pick own OwnAtom ForeignAtom
form_by short own p q Not = NotBoth
form_by short own p q Or = OrBoth
form_by short own p q Next = pick (short && p) ShortNext PlainNext
form_by short own p q Until = pick (short && (p && q)) ShortUntil PlainUntil
form_by short own p q Prev = PlainPrev
form_by short own p q Since = pick (short && (p && q)) ShortSince PlainSince
form_by short own p q Run = TrueItself
form_by short own p q End = TrueItself
form_by short own p q Unknown = TrueItself

-- `tolerant_of` of the definitions
abbrev pub tolerant_by : Bool → Bool → Bool → Kind → Bool
tolerant_by own p q True = true
tolerant_by own p q Atom = own
tolerant_by own p q Not = p
tolerant_by own p q Or = p && q
tolerant_by own p q Next = false
tolerant_by own p q Until = true
tolerant_by own p q Prev = true
tolerant_by own p q Since = p && q
tolerant_by own p q Run = false
tolerant_by own p q End = false
tolerant_by own p q Unknown = false

-- both images of node n are emitted from node `at` on, and r is what they are
pub record Stepped (short own : Bool) (P Q : table.Image) (n : Node) (o : List ℕ) (at : ℕ) (r : Image) (o' : List ℕ) : Type 0 where
  pub middle : ℕ
  pub weakly : middle ≡ at + length (part_of short own P Q at at true n.kind n.first)
  pub emits : Emitted (part_of short own P Q at at true n.kind n.first ++ part_of short own P Q at middle false n.kind n.first) o at (r.strong + 1) o'
  pub weak : r.weak + 1 ≡ middle
  pub grown : r.weak ≤ r.strong
  pub most : r.strong + 1 ≤ at + 11
  pub tolerant : r.tolerant ≡ tolerant_by own P.tolerant Q.tolerant n.kind

-- the closing is emitted from node `at` on, and r tells the count and the tops
pub record ClosedBy (i : table.Image) (o : List ℕ) (at : ℕ) (r : Tops) (o' : List ℕ) : Type 0 where
  pub emits : Emitted (closing true i.weak ++ closing false i.strong) o at r.count o'
  pub weak : r.weak ≡ at + 3
  pub strong : r.strong ≡ at + 7
