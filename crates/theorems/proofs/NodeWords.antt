-- Kinds and their numbers, and a node and the word that it is in lent space: each is read back from the other.
use mathlib.Core.Path.{◌≡◌, refl, sym}
use Prim.Native.Nat.{ℕ, ◌+◌, ◌*◌, ◌/◌, ◌%◌, ◌<◌}
use native.Mathlib.Nat.{div-div-eq-div-mul}
use native.Mathlib.Omega.{arith}
use mathlib.Core.Bool.{Bool, true, false, true≢false}
use mathlib.Core.List.{List, [], ◌∷◌, ◌++◌, map}
use lib.ListN.{length}
use lib.Dec.{eqb, ltb}
use borrow.Author.Tests.{eqb-true, ltb-true}
use Rattle.definitions.specs.Bounded.{pick}
use Rattle.definitions.specs.Nodes.{Kind, True, Atom, Not, Or, Next, Until, Prev, Since, Run, End, Unknown, Node, kind_number, kind_of, kind_span, operand_span, node_word, node_of}
use Rattle.definitions.specs.Tables.{is_unknown, nodes_in}

-- a law of every kind, from its case at each
pub by_kind : (P : Kind → Type 0) → P True → P Atom → P Not → P Or → P Next → P Until → P Prev → P Since → P Run → P End → P Unknown → (k : Kind) → P k
by_kind P t a n o x u p s r e m True = t
by_kind P t a n o x u p s r e m Atom = a
by_kind P t a n o x u p s r e m Not = n
by_kind P t a n o x u p s r e m Or = o
by_kind P t a n o x u p s r e m Next = x
by_kind P t a n o x u p s r e m Until = u
by_kind P t a n o x u p s r e m Prev = p
by_kind P t a n o x u p s r e m Since = s
by_kind P t a n o x u p s r e m Run = r
by_kind P t a n o x u p s r e m End = e
by_kind P t a n o x u p s r e m Unknown = m

pub kind_of_number : (k : Kind) → kind_of (kind_number k) ≡ k
unfolding kind_of pick
kind_of_number = by_kind (λ k. kind_of (kind_number k) ≡ k) refl refl refl refl refl refl refl refl refl refl refl

-- one link of the chains `kind_of` and `word_kind`: f takes the kind back to x
pub link : {A : Type 0} (f : Kind → A) (x : A) (z : Bool) (k o : Kind)
    → (z ≡ true → f k ≡ x) → (is_unknown o ≡ false → f o ≡ x) → is_unknown (pick z k o) ≡ false → f (pick z k o) ≡ x
unfolding pick
link f x true k o t r h = t refl
link f x false k o t r h = r h

pub unknown_no : {P : Type 0} → is_unknown Unknown ≡ false → P
unknown_no h = absurd (true≢false h)

pub number_of_kind : (n : ℕ) → is_unknown (kind_of n) ≡ false → kind_number (kind_of n) ≡ n
unfolding kind_of
number_of_kind n =
    let at : (m : ℕ) → eqb n m ≡ true → m ≡ n = λ m e. sym (eqb-true n m e) in
    link kind_number n (eqb n 0) True _ (at 0) (
    link kind_number n (eqb n 1) Atom _ (at 1) (
    link kind_number n (eqb n 2) Not _ (at 2) (
    link kind_number n (eqb n 3) Or _ (at 3) (
    link kind_number n (eqb n 4) Next _ (at 4) (
    link kind_number n (eqb n 5) Until _ (at 5) (
    link kind_number n (eqb n 6) Prev _ (at 6) (
    link kind_number n (eqb n 7) Since _ (at 7) (
    link kind_number n (eqb n 8) Run _ (at 8) (
    link kind_number n (eqb n 9) End _ (at 9) unknown_no)))))))))

number_low : (k : Kind) → kind_number k < kind_span
number_low k = ltb-true (kind_number k) kind_span (by_kind (λ k. ltb (kind_number k) kind_span ≡ true) refl refl refl refl refl refl refl refl refl refl refl k)

-- the word of a word's node, if its kind is known
pub word_of_node : (w : ℕ) → is_unknown (kind_of (w % kind_span)) ≡ false → node_word (node_of w) ≡ w
word_of_node w u =
    let k : kind_number (kind_of (w % kind_span)) ≡ w % kind_span = number_of_kind (w % kind_span) u in
    let q : w / (kind_span * operand_span) ≡ w / kind_span / operand_span = sym (div-div-eq-div-mul w kind_span operand_span) in
    rw (k, q) (omega arith)

-- the parts of a word
module _ (k a b : ℕ) (kind : k < kind_span) (first : a < operand_span) where
  word_low : (k + a * kind_span + b * (kind_span * operand_span)) % kind_span ≡ k
  word_low = omega arith

  word_middle : (k + a * kind_span + b * (kind_span * operand_span)) / kind_span % operand_span ≡ a
  word_middle = let e : (k + a * kind_span + b * (kind_span * operand_span)) / kind_span ≡ a + b * operand_span = omega arith in rw e (omega arith)

  word_high : (k + a * kind_span + b * (kind_span * operand_span)) / (kind_span * operand_span) ≡ b
  word_high = omega arith

-- the node of a node's word, if its first operand fits
pub node_of_word : (n : Node) → n.first < operand_span → node_of (node_word n) ≡ n
node_of_word n h =
    let k = kind_number n.kind in
    let l = number_low n.kind in
    rw (word_low k n.first n.second l h, word_middle k n.first n.second l h, word_high k n.first n.second l h, kind_of_number n.kind)

-- nodes whose first operands fit
abbrev pub AllHeld : List Node → Type 0
AllHeld [] = Unit {0}
AllHeld (n ∷ T) = (n.first < operand_span) × AllHeld T

pub nodes_words : (T : List Node) (more : List ℕ) → AllHeld T → nodes_in (length T) (map node_word T ++ more) ≡ T
nodes_words [] more h = refl
nodes_words (n ∷ T) more h = rw (node_of_word n h.0, nodes_words T more h.1)
