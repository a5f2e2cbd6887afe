-- "The plain rewriting" and "The short rewriting" (document 01), the short one with "Shorter rules about the past" (document 02).
use Rattle.std.specs.Prelude.{ℕ, suc, ◌-◌, Bool, true, false, not, ◌&&◌, List, [], ◌∷◌, ◌++◌, length, get_or}
use Rattle.definitions.specs.Bounded.{pick, bit_of}
use Rattle.definitions.specs.Nodes.{Kind, True, Atom, Not, Or, Next, Until, Prev, Since, Run, End, Unknown, Node, node}

-- an operand of an emitted node: a node's number, or "·", "the node just emitted"
pub data Operand : Type 0 where
  # : ℕ → Operand
  · : Operand

-- a node to emit
pub record Emit : Type 0 where
  pub kind : Kind
  pub first : Operand
  pub second : Operand

-- true, an atom, run or end
abbrev pub leaf : Kind → ℕ → Emit
leaf k a = record { kind = k; first = # a; second = # 0 }

-- a kind of one operand
abbrev pub one : Kind → Operand → Emit
one k a = record { kind = k; first = a; second = # 0 }

-- a kind of two operands
abbrev pub two : Kind → Operand → Operand → Emit
two k a b = record { kind = k; first = a; second = b }

-- the number of an operand
abbrev pub operand : (just : ℕ) (o : Operand) → ℕ
operand just (# a) = a
operand just · = just

-- the nodes emitted: `just` is the number of the node just emitted, n that of the next one
abbrev pub emitted : (just n : ℕ) (es : List Emit) → List Node
emitted just n [] = []
emitted just n (e ∷ es) = node e.kind (operand just e.first) (operand just e.second) ∷ emitted n (suc n) es

-- a table with more nodes at its end
abbrev pub emit : (T : List Node) (es : List Emit) → List Node
emit T es = T ++ emitted (length T - 1) (length T) es

-- "Opening, numbers 0 to 10: run; not 0; prev 1; end; not 3; or 2 4; not 5; or 0 6 (*state*); not 7; prev 3; not 9"
abbrev pub opening : List Node
opening =
    node Run 0 0 ∷ node Not 0 0 ∷ node Prev 1 0 ∷ node End 0 0 ∷ node Not 3 0 ∷ node Or 2 4 ∷ node Not 5 0 ∷ node Or 0 6 ∷ node Not 7 0
    ∷ node Prev 3 0 ∷ node Not 9 0 ∷ []

-- "true, own atom: itself, w and s the same (1 node)"
abbrev pub itself : (weak : Bool) (k : Kind) (a : ℕ) → List Emit
itself true k a = leaf k a ∷ []
itself false k a = []

-- "foreign atom: atom; or 1 · (w); not of the atom; or 1 ·; not · (s) (5)"; x is the number of the atom
abbrev pub foreign_atom : (weak : Bool) (x a : ℕ) → List Emit
foreign_atom true x a = leaf Atom a ∷ two Or (# 1) · ∷ []
foreign_atom false x a = one Not (# x) ∷ two Or (# 1) · ∷ one Not · ∷ []

-- "next: w: or 8 a; not ·; until 8 ·; not ·; next ·. s: not a; or 8 ·; not ·; until 8 ·; next · (10)"
abbrev pub plain_next : (weak : Bool) (a : ℕ) → List Emit
plain_next true a = two Or (# 8) (# a) ∷ one Not · ∷ two Until (# 8) · ∷ one Not · ∷ one Next · ∷ []
plain_next false a = one Not (# a) ∷ two Or (# 8) · ∷ one Not · ∷ two Until (# 8) · ∷ one Next · ∷ []

-- "until: w: or 8 a (call it g); not b; or 8 ·; not ·; or · 9; until g ·. s: the same without "or · 9" (11)"
abbrev pub plain_until : (weak : Bool) (g a b : ℕ) → List Emit
plain_until true g a b = two Or (# 8) (# a) ∷ one Not (# b) ∷ two Or (# 8) · ∷ one Not · ∷ two Or · (# 9) ∷ two Until (# g) · ∷ []
plain_until false g a b = two Or (# 8) (# a) ∷ one Not (# b) ∷ two Or (# 8) · ∷ one Not · ∷ two Until (# g) · ∷ []

-- "prev: not a; or 1 ·; not ·; since 1 ·; prev ·, twice (10)"
abbrev pub plain_prev : ℕ → List Emit
plain_prev a = one Not (# a) ∷ two Or (# 1) · ∷ one Not · ∷ two Since (# 1) · ∷ one Prev · ∷ []

-- "since: or 8 a (g); not b; or 8 ·; not ·; since g ·, twice (10)"
abbrev pub plain_since : (g a b : ℕ) → List Emit
plain_since g a b = two Or (# 8) (# a) ∷ one Not (# b) ∷ two Or (# 8) · ∷ one Not · ∷ two Since (# g) · ∷ []

-- "next of a tolerant operand: w: next a; or 3 ·. s: next a; not ·; or 3 ·; not · (6)"
abbrev pub short_next : (weak : Bool) (a : ℕ) → List Emit
short_next true a = one Next (# a) ∷ two Or (# 3) · ∷ []
short_next false a = one Next (# a) ∷ one Not · ∷ two Or (# 3) · ∷ one Not · ∷ []

-- "until of two tolerant operands: w: or 9 b; until a ·. s: not b; or 9 ·; not ·; until a · (6)"
abbrev pub short_until : (weak : Bool) (a b : ℕ) → List Emit
short_until true a b = two Or (# 9) (# b) ∷ two Until (# a) · ∷ []
short_until false a b = one Not (# b) ∷ two Or (# 9) · ∷ one Not · ∷ two Until (# a) · ∷ []

-- document 02: "Since of two tolerant operands becomes tolerant, with image since a b for each reading (2 nodes)"
abbrev pub short_since : (a b : ℕ) → List Emit
short_since a b = two Since (# a) (# b) ∷ []

-- the images of a rule's node, "w" and "s", and whether it is tolerant
pub record Image : Type 0 where
  pub weak : ℕ
  pub strong : ℕ
  pub tolerant : Bool

-- the image of a node that is not there
abbrev pub no_image : Image
no_image = record { weak = 0; strong = 0; tolerant = false }

-- the image of one reading
abbrev pub image_of : (weak : Bool) (i : Image) → ℕ
image_of true i = i.weak
image_of false i = i.strong

-- the image of node a in one reading
abbrev pub image : (weak : Bool) (is : List Image) (a : ℕ) → ℕ
image weak is a = image_of weak (get_or is a no_image)

-- node a is tolerant
abbrev pub tolerant_at : (is : List Image) (a : ℕ) → Bool
tolerant_at is a = (get_or is a no_image).tolerant

-- "Tolerant: true, own atom, every until; not and or of tolerant operands; nothing else", and by document 02: "Prev becomes tolerant, with its present
-- image. Since of two tolerant operands becomes tolerant .. Other sinces stay as they were"
abbrev pub tolerant_of : (mask : ℕ) (is : List Image) (k : Kind) (a b : ℕ) → Bool
tolerant_of mask is True a b = true
tolerant_of mask is Atom a b = bit_of mask a
tolerant_of mask is Not a b = tolerant_at is a
tolerant_of mask is Or a b = tolerant_at is a && tolerant_at is b
tolerant_of mask is Next a b = false
tolerant_of mask is Until a b = true
tolerant_of mask is Prev a b = true
tolerant_of mask is Since a b = tolerant_at is a && tolerant_at is b
tolerant_of mask is Run a b = false
tolerant_of mask is End a b = false
tolerant_of mask is Unknown a b = false

-- what the letters of the lists mean, in one image of a rule's node
pub record Meanings : Type 0 where
  -- the first node emitted for the rule's node
  pub x : ℕ
  -- the first node of this image, "call it g" where it is named
  pub g : ℕ
  -- "a and b are the operands' images of the same reading"
  pub a : ℕ
  pub b : ℕ
  -- the first operand's image of the other reading
  pub opposite : ℕ
  -- of an atom, its number, and whether it is own
  pub atom_number : ℕ
  pub own : Bool
  -- the first operand is tolerant; both are
  pub tolerant_first : Bool
  pub tolerant_both : Bool

-- what they mean in an image of the rule's node n
abbrev pub meanings_of : (mask : ℕ) (is : List Image) (n : Node) (weak : Bool) (x g : ℕ) → Meanings
meanings_of mask is n weak x g = record {
  x = x;
  g = g;
  a = image weak is n.first;
  b = image weak is n.second;
  opposite = image (not weak) is n.first;
  atom_number = n.first;
  own = bit_of mask n.first;
  tolerant_first = tolerant_at is n.first;
  tolerant_both = tolerant_at is n.first && tolerant_at is n.second;
}

-- what is emitted for one image of a rule's node, by its kind; "not: not of the operand's s (w); not of its w (s) (2). or: or a b, twice (2)"
abbrev pub part : (short weak : Bool) (k : Kind) (m : Meanings) → List Emit
part short weak True m = itself weak True 0
part short weak Atom m = pick m.own (itself weak Atom m.atom_number) (foreign_atom weak m.x m.atom_number)
part short weak Not m = one Not (# m.opposite) ∷ []
part short weak Or m = two Or (# m.a) (# m.b) ∷ []
part short weak Next m = pick (short && m.tolerant_first) (short_next weak m.a) (plain_next weak m.a)
part short weak Until m = pick (short && m.tolerant_both) (short_until weak m.a m.b) (plain_until weak m.g m.a m.b)
part short weak Prev m = plain_prev m.a
part short weak Since m = pick (short && m.tolerant_both) (short_since m.a m.b) (plain_since m.g m.a m.b)
part short weak Run m = []
part short weak End m = []
part short weak Unknown m = []

-- the nodes emitted so far, and the images of the rule's nodes so far
pub record Draft : Type 0 where
  pub nodes : List Node
  pub images : List Image

-- "Then each rule node in turn, weak image w first, then strong image s"
abbrev pub step : (short : Bool) (mask : ℕ) (D : Draft) (n : Node) → Draft
step short mask D n =
    let x = length D.nodes in
    let T = emit D.nodes (part short true n.kind (meanings_of mask D.images n true x x)) in
    let U = emit T (part short false n.kind (meanings_of mask D.images n false x (length T))) in
    record {
      nodes = U;
      images = D.images
          ++ (record { weak = length T - 1; strong = length U - 1; tolerant = tolerant_of mask D.images n.kind n.first n.second } ∷ []);
    }

-- the rule's nodes in turn
abbrev pub steps : (short : Bool) (mask : ℕ) (D : Draft) (ns : List Node) → Draft
steps short mask D [] = D
steps short mask D (n ∷ ns) = steps short mask (step short mask D n) ns

-- "The result carries node count and both tops"
pub record Rewritten : Type 0 where
  pub nodes : List Node
  pub weak_top : ℕ
  pub strong_top : ℕ

-- "Closing, from the rule's w: or 8 w; not ·; until 8 ·; not · (top weak); from its s: not s; or 8 ·; not ·; until 8 · (top strong) (8)"
abbrev pub closing : (weak : Bool) (a : ℕ) → List Emit
closing true w = two Or (# 8) (# w) ∷ one Not · ∷ two Until (# 8) · ∷ one Not · ∷ []
closing false s = one Not (# s) ∷ two Or (# 8) · ∷ one Not · ∷ two Until (# 8) · ∷ []

-- "a tolerant rule has no closing; its tops are its own w and s" (short only)
abbrev pub closed : (tolerant : Bool) (T : List Node) (i : Image) → Rewritten
closed true T i = record { nodes = T; weak_top = i.weak; strong_top = i.strong }
closed false T i =
    let U = emit T (closing true i.weak) in
    let W = emit U (closing false i.strong) in
    record { nodes = W; weak_top = length U - 1; strong_top = length W - 1 }

-- "the last is the rule"
abbrev pub last_image : List Image → Image
last_image is = get_or is (length is - 1) no_image

-- the table of a rule for the own mask, plain or short
unfoldable pub rewriting : (short : Bool) (mask : ℕ) (ns : List Node) → Rewritten
rewriting short mask ns =
    let D = steps short mask (record { nodes = opening; images = [] }) ns in
    closed (short && (last_image D.images).tolerant) D.nodes (last_image D.images)
