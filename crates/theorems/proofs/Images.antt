-- The images of the rewritings as terms: what a rewriting emits is the term written out, and its image the node in which the term ends.
use mathlib.Core.Path.{◌≡◌, refl, sym}
use Prim.Native.Nat.{ℕ, ◌-◌, ◌<◌}
use native.Mathlib.Omega.{arith}
use mathlib.Core.Bool.{Bool, true, false, not, ◌&&◌}
use mathlib.Core.List.{List, [], ◌∷◌, ◌++◌}
use lib.ListN.{length}
use Rattle.definitions.specs.Bounded.{pick, bit_of}
use Rattle.definitions.specs.Nodes.{Kind, True, Atom, Not, Or, Next, Until, Prev, Since, Run, End, Unknown, Node, node}
use Rattle.definitions.specs.Rewriting.{emitted, emit, itself, foreign_atom, plain_next, plain_until, plain_since, short_next, short_until, short_since, closing, Image, image, tolerant_at, tolerant_of, meanings_of, part, Draft, step, Rewritten, closed}
use Rattle.theorems.proofs.RuleNodes.{RuleNode}
use Rattle.theorems.proofs.Terms.{Term, ref, yes₀, atom₀, one, two, not₁, next₁, prev₁, or₂, until₂, since₂, comp, top, size, code, comp_size, top_last, comp_code}

abbrev pub at_state : Term → Term
at_state x = one not₁ (two or₂ (ref 8) (one not₁ x))

-- x at the next state
abbrev pub find_x : Bool → Term → Term
find_x true x = one not₁ (two until₂ (ref 8) (one not₁ (two or₂ (ref 8) x)))
find_x false x = two until₂ (ref 8) (one not₁ (two or₂ (ref 8) (one not₁ x)))

-- a leaf, which the strong image finds at x
abbrev pub itself_x : Bool → Term → ℕ → Term
itself_x true leaf x = leaf
itself_x false leaf x = ref x

abbrev pub foreign_x : Bool → ℕ → ℕ → Term
foreign_x true x a = two or₂ (ref 1) (atom₀ a)
foreign_x false x a = one not₁ (two or₂ (ref 1) (one not₁ (ref x)))

abbrev pub until_x : Bool → Term → Term → Term
until_x true a b = two until₂ (two or₂ (ref 8) a) (two or₂ (at_state b) (ref 9))
until_x false a b = two until₂ (two or₂ (ref 8) a) (at_state b)

abbrev pub prev_x : Term → Term
prev_x a = one prev₁ (two since₂ (ref 1) (one not₁ (two or₂ (ref 1) (one not₁ a))))

abbrev pub since_x : Term → Term → Term
since_x a b = two since₂ (two or₂ (ref 8) a) (at_state b)

abbrev pub short_next_x : Bool → Term → Term
short_next_x true a = two or₂ (ref 3) (one next₁ a)
short_next_x false a = one not₁ (two or₂ (ref 3) (one not₁ (one next₁ a)))

abbrev pub short_until_x : Bool → Term → Term → Term
short_until_x true a b = two until₂ a (two or₂ (ref 9) b)
short_until_x false a b = two until₂ a (one not₁ (two or₂ (ref 9) (one not₁ b)))

abbrev pub short_since_x : Term → Term → Term
short_since_x a b = two since₂ a b

abbrev pub image_x : Bool → List Image → ℕ → Term
image_x d is a = ref (image d is a)

-- the image of a rule's node; x is the number of the first node emitted for it
abbrev pub term_of : Bool → ℕ → List Image → ℕ → Bool → Kind → ℕ → ℕ → Term
term_of short mask is x d True a b = itself_x d yes₀ x
term_of short mask is x d Atom a b = pick (bit_of mask a) (itself_x d (atom₀ a) x) (foreign_x d x a)
term_of short mask is x d Not a b = one not₁ (image_x (not d) is a)
term_of short mask is x d Or a b = two or₂ (image_x d is a) (image_x d is b)
term_of short mask is x d Next a b = pick (short && tolerant_at is a) (short_next_x d (image_x d is a)) (one next₁ (find_x d (image_x d is a)))
term_of short mask is x d Until a b =
    pick (short && (tolerant_at is a && tolerant_at is b)) (short_until_x d (image_x d is a) (image_x d is b)) (until_x d (image_x d is a) (image_x d is b))
term_of short mask is x d Prev a b = prev_x (image_x d is a)
term_of short mask is x d Since a b =
    pick (short && (tolerant_at is a && tolerant_at is b)) (short_since_x (image_x d is a) (image_x d is b)) (since_x (image_x d is a) (image_x d is b))
term_of short mask is x d Run a b = ref x
term_of short mask is x d End a b = ref x
term_of short mask is x d Unknown a b = ref x

-- what is emitted are the term's nodes, one case for each list of the definitions
module _ (j n : ℕ) where
  itself_code : (d : Bool) (x : ℕ) → emitted j n (itself d True 0) ≡ code (itself_x d yes₀ x) n
  itself_code true x = refl
  itself_code false x = refl

  atom_code_lem : (own d : Bool) (x a : ℕ) →
      emitted j n (pick own (itself d Atom a) (foreign_atom d x a)) ≡ code (pick own (itself_x d (atom₀ a) x) (foreign_x d x a)) n
  unfolding pick
  atom_code_lem true true x a = refl
  atom_code_lem true false x a = refl
  atom_code_lem false true x a = refl
  atom_code_lem false false x a = refl

  next_code : (c d : Bool) (a : ℕ) →
      emitted j n (pick c (short_next d a) (plain_next d a)) ≡ code (pick c (short_next_x d (ref a)) (one next₁ (find_x d (ref a)))) n
  unfolding pick
  next_code true true a = refl
  next_code true false a = refl
  next_code false true a = refl
  next_code false false a = refl

  until_code : (c d : Bool) (a b : ℕ) →
      emitted j n (pick c (short_until d a b) (plain_until d n a b)) ≡ code (pick c (short_until_x d (ref a) (ref b)) (until_x d (ref a) (ref b))) n
  unfolding pick
  until_code true true a b = refl
  until_code true false a b = refl
  until_code false true a b = refl
  until_code false false a b = refl

  since_code : (c : Bool) (a b : ℕ) →
      emitted j n (pick c (short_since a b) (plain_since n a b)) ≡ code (pick c (short_since_x (ref a) (ref b)) (since_x (ref a) (ref b))) n
  unfolding pick
  since_code true a b = refl
  since_code false a b = refl

  pub closing_code : (d : Bool) (a : ℕ) → emitted j n (closing d a) ≡ code (find_x d (ref a)) n
  closing_code true a = refl
  closing_code false a = refl

  part_code : (short : Bool) (mask : ℕ) (is : List Image) (x : ℕ) (d : Bool) (k : Kind) (a b : ℕ) →
      emitted j n (part short d k (meanings_of mask is (node k a b) d x n)) ≡ code (term_of short mask is x d k a b) n
  part_code short mask is x d True a b = itself_code d x
  part_code short mask is x d Atom a b = atom_code_lem (bit_of mask a) d x a
  part_code short mask is x d Not a b = refl
  part_code short mask is x d Or a b = refl
  part_code short mask is x d Next a b = next_code (short && tolerant_at is a) d (image d is a)
  part_code short mask is x d Until a b = until_code (short && (tolerant_at is a && tolerant_at is b)) d (image d is a) (image d is b)
  part_code short mask is x d Prev a b = refl
  part_code short mask is x d Since a b = since_code (short && (tolerant_at is a && tolerant_at is b)) (image d is a) (image d is b)
  part_code short mask is x d Run a b = refl
  part_code short mask is x d End a b = refl
  part_code short mask is x d Unknown a b = refl

-- a part emitted is its term written out
pub emit_part : (T : List Node) (short : Bool) (mask : ℕ) (is : List Image) (x : ℕ) (d : Bool) (k : Kind) (a b : ℕ) →
    emit T (part short d k (meanings_of mask is (node k a b) d x (length T))) ≡ comp (term_of short mask is x d k a b) T
emit_part T short mask is x d k a b =
    rw (part_code (length T - 1) (length T) short mask is x d k a b) (sym (comp_code (term_of short mask is x d k a b) T))

pub emit_closing : (T : List Node) (d : Bool) (a : ℕ) → emit T (closing d a) ≡ comp (find_x d (ref a)) T
emit_closing T d a = rw (closing_code (length T - 1) (length T) d a) (sym (comp_code (find_x d (ref a)) T))

-- how many nodes the images of a leaf have
weak_atom : (c : Bool) (a x : ℕ) → 0 < size (pick c (itself_x true (atom₀ a) x) (foreign_x true x a))
unfolding pick
weak_atom true a x = omega arith
weak_atom false a x = omega arith

next_some : (c d : Bool) (a : ℕ) → 0 < size (pick c (short_next_x d (ref a)) (one next₁ (find_x d (ref a))))
unfolding pick
next_some true true a = omega arith
next_some true false a = omega arith
next_some false true a = omega arith
next_some false false a = omega arith

until_some : (c d : Bool) (a b : ℕ) → 0 < size (pick c (short_until_x d (ref a) (ref b)) (until_x d (ref a) (ref b)))
unfolding pick
until_some true true a b = omega arith
until_some true false a b = omega arith
until_some false true a b = omega arith
until_some false false a b = omega arith

since_some : (c : Bool) (a b : ℕ) → 0 < size (pick c (short_since_x (ref a) (ref b)) (since_x (ref a) (ref b)))
unfolding pick
since_some true a b = omega arith
since_some false a b = omega arith

-- a rule's node has a weak image of at least one node
pub weak_some : (short : Bool) (mask : ℕ) (is : List Image) (n x : ℕ) (k : Kind) (a b : ℕ) → RuleNode n k a b →
    0 < size (term_of short mask is x true k a b)
weak_some short mask is n x True a b r = omega arith
weak_some short mask is n x Atom a b r = weak_atom (bit_of mask a) a x
weak_some short mask is n x Not a b r = omega arith
weak_some short mask is n x Or a b r = omega arith
weak_some short mask is n x Next a b r = next_some (short && tolerant_at is a) true (image true is a)
weak_some short mask is n x Until a b r = until_some (short && (tolerant_at is a && tolerant_at is b)) true (image true is a) (image true is b)
weak_some short mask is n x Prev a b r = omega arith
weak_some short mask is n x Since a b r = since_some (short && (tolerant_at is a && tolerant_at is b)) (image true is a) (image true is b)
weak_some short mask is n x Run a b r = absurd r
weak_some short mask is n x End a b r = absurd r
weak_some short mask is n x Unknown a b r = absurd r

module _ (short : Bool) (mask : ℕ) (is : List Image) (n : ℕ) (T : List Node) where
  -- the number of the weak image is the node in which its term ends
  pub weak_top_lem : (k : Kind) (a b : ℕ) → RuleNode n k a b →
      length (comp (term_of short mask is (length T) true k a b) T) - 1 ≡ top (term_of short mask is (length T) true k a b) T
  weak_top_lem k a b r = top_last (term_of short mask is (length T) true k a b) T (weak_some short mask is n (length T) k a b r)

  -- so is that of the strong image, which for true and an own atom is the weak one
  strong_atom : (c : Bool) (a : ℕ) → let W = comp (pick c (itself_x true (atom₀ a) (length T)) (foreign_x true (length T) a)) T in
      length (comp (pick c (itself_x false (atom₀ a) (length T)) (foreign_x false (length T) a)) W) - 1
      ≡ top (pick c (itself_x false (atom₀ a) (length T)) (foreign_x false (length T) a)) W
  unfolding pick
  strong_atom true a = omega (arith, comp_size (atom₀ a) T)
  strong_atom false a = top_last (foreign_x false (length T) a) (comp (foreign_x true (length T) a) T) (omega arith)

  pub strong_top_lem : (k : Kind) (a b : ℕ) → RuleNode n k a b → let W = comp (term_of short mask is (length T) true k a b) T in
      length (comp (term_of short mask is (length T) false k a b) W) - 1 ≡ top (term_of short mask is (length T) false k a b) W
  strong_top_lem True a b r = omega (arith, comp_size yes₀ T)
  strong_top_lem Atom a b r = strong_atom (bit_of mask a) a
  strong_top_lem Not a b r = top_last (term_of short mask is (length T) false Not a b) (comp (term_of short mask is (length T) true Not a b) T) (omega arith)
  strong_top_lem Or a b r = top_last (term_of short mask is (length T) false Or a b) (comp (term_of short mask is (length T) true Or a b) T) (omega arith)
  strong_top_lem Next a b r =
      top_last (term_of short mask is (length T) false Next a b) (comp (term_of short mask is (length T) true Next a b) T)
      (next_some (short && tolerant_at is a) false (image false is a))
  strong_top_lem Until a b r =
      top_last (term_of short mask is (length T) false Until a b) (comp (term_of short mask is (length T) true Until a b) T)
      (until_some (short && (tolerant_at is a && tolerant_at is b)) false (image false is a) (image false is b))
  strong_top_lem Prev a b r = top_last (term_of short mask is (length T) false Prev a b) (comp (term_of short mask is (length T) true Prev a b) T) (omega arith)
  strong_top_lem Since a b r =
      top_last (term_of short mask is (length T) false Since a b) (comp (term_of short mask is (length T) true Since a b) T)
      (since_some (short && (tolerant_at is a && tolerant_at is b)) (image false is a) (image false is b))
  strong_top_lem Run a b r = absurd r
  strong_top_lem End a b r = absurd r
  strong_top_lem Unknown a b r = absurd r

-- a step of a rewriting, in terms
abbrev pub step_x : Bool → ℕ → Draft → Node → Draft
step_x short mask D m =
    let T = D.nodes in
    let w = term_of short mask D.images (length T) true m.kind m.first m.second in
    let s = term_of short mask D.images (length T) false m.kind m.first m.second in
    record {
      nodes = comp s (comp w T);
      images = D.images ++ (record { weak = top w T; strong = top s (comp w T); tolerant = tolerant_of mask D.images m.kind m.first m.second } ∷ []);
    }

pub step_terms : (short : Bool) (mask n : ℕ) (D : Draft) (m : Node) → RuleNode n m.kind m.first m.second →
    step short mask D m ≡ step_x short mask D m
step_terms short mask n D m r =
    let T : List Node = D.nodes in
    let is : List Image = D.images in
    let k : Kind = m.kind in
    let a : ℕ = m.first in
    let b : ℕ = m.second in
    let w : Term = term_of short mask is (length T) true k a b in
    let ew : emit T (part short true k (meanings_of mask is (node k a b) true (length T) (length T))) ≡ comp w T = emit_part T short mask is (length T) true k a b in
    rw (
      ew,
      emit_part (comp w T) short mask is (length T) false k a b,
      weak_top_lem short mask is n T k a b r,
      strong_top_lem short mask is n T k a b r,
    )

-- the closing, in terms
abbrev pub closed_x : List Node → Image → Rewritten
closed_x T i =
    let w = find_x true (ref i.weak) in
    let s = find_x false (ref i.strong) in
    record { nodes = comp s (comp w T); weak_top = top w T; strong_top = top s (comp w T) }

pub closed_terms : (T : List Node) (i : Image) → closed false T i ≡ closed_x T i
closed_terms T i =
    let w : Term = find_x true (ref i.weak) in
    let s : Term = find_x false (ref i.strong) in
    rw (
      emit_closing T true i.weak,
      emit_closing (comp w T) false i.strong,
      top_last w T (omega arith),
      top_last s (comp w T) (omega arith),
    )
