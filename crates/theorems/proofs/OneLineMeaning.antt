-- What a rule in one line means, by the readings of document 01: the verdict of its table is its own reading, and `F`, `G`, `&` and `->` read as people take them.
use mathlib.Core.Path.{◌≡◌, refl, sym, ap, fun_ext, ◌∙◌}
use Prim.Native.Nat.{ℕ, zero, suc, ◌+◌, ◌-◌, ◌<◌}
use native.Mathlib.Omega.{arith}
use mathlib.Core.Bool.{Bool, true, false, not, ◌&&◌, ◌||◌}
use mathlib.Core.List.{[]}
use lib.ListN.{length}
use Rattle.definitions.specs.Bounded.{some_of, every_of, some, every}
use Rattle.definitions.specs.Nodes.{True, Atom, Until, Prev, Since}
use Rattle.definitions.specs.Readings.{Trace, reading, verdict}
use Rattle.definitions.specs.OneLineSigns as sign
use Rattle.definitions.specs.OneLineGrammar as tree
use Rattle.definitions.specs.OneLineGrammar.{Tree}
use Rattle.definitions.specs.OneLineNodes as rule_tree
use Rattle.definitions.specs.OneLineNodes.{RuleTree, atomic, unary, binary, negation, prefix_tree, infix_tree, rule_tree_of, nodes_from, nodes_of}
use Rattle.theorems.proofs.Recursions.{some_cong}
use Rattle.theorems.proofs.Semantics.{Row, no_row, reading_is, verdict_is}
use Rattle.theorems.proofs.Terms.{Unary, not₁, next₁, prev₁, Binary, or₂, until₂, since₂, Term, yes₀, atom₀, one, two, kind₁, kind₂, op₁, op₂, den, comp, top, Below, comp_den, size, above, top_from, code, top_last, comp_code}

-- ---- the reading of a rule's tree

-- the readings of two operands, as numbers 0 and 1
abbrev operands_of : Row → Row → ℕ → Row
operands_of p q zero = p
operands_of p q (suc n) = q

-- the reading of a rule's tree: that of a node of its kind, from the readings of its operands
unfoldable pub means : Trace → RuleTree → Row
means t (atomic k n) = reading t (operands_of no_row no_row) k n 0
means t (unary k p) = reading t (operands_of (means t p) no_row) k 0 0
means t (binary k p q) = reading t (operands_of (means t p) (means t q)) k 0 1

-- ---- what people type

every_true : (n k : ℕ) → every_of n k (λ j. true) ≡ true
every_true zero k = refl
every_true (suc n) k = every_true n (suc k)

and_yes : (a : Bool) → (a && true) ≡ a
and_yes true = refl
and_yes false = refl

twice : (a : Bool) → not (not a) ≡ a
twice true = refl
twice false = refl

not_or : (a b : Bool) → not (a || b) ≡ (not a && not b)
not_or true b = refl
not_or false b = refl

not_some : (f : ℕ → Bool) (n k : ℕ) → not (some_of n k (λ j. not (f j))) ≡ every_of n k f
not_some f zero k = refl
not_some f (suc n) k = not_or (not (f k)) (some_of n (suc k) (λ j. not (f j))) ∙ rw (twice (f k), not_some f n (suc k))

-- "F p": p at some place from here on; weak also since the trace may go on
pub eventually_means : (t : Trace) (p : RuleTree) (weak : Bool) (i : ℕ) → means t (prefix_tree sign.Future p) weak i ≡ (some i t.places (means t p weak) || weak)
unfolding means
eventually_means t p weak i =
    let e : every_of (t.places - i) i (λ j. true) ≡ true = every_true (t.places - i) i in
    let s : some_of (t.places - i) i (λ k. means t p weak k && every i k (λ j. true)) ≡ some_of (t.places - i) i (means t p weak) =
    some_cong (λ k. means t p weak k && every i k (λ j. true)) (means t p weak) (t.places - i) i
    (λ k a b. rw (every_true (k - i) i, and_yes (means t p weak k))) in
    rw (s, e, and_yes weak)

not_some_not : (t : Trace) (p : RuleTree) (weak : Bool) (i : ℕ) → not (some i t.places (means t (negation p) (not weak))) ≡ every i t.places (means t p weak)
unfolding means
not_some_not t p true i = not_some (means t p true) (t.places - i) i
not_some_not t p false i = not_some (means t p false) (t.places - i) i

-- "G p": p at every place from here on; strong never, since the trace may go on
pub always_means : (t : Trace) (p : RuleTree) (weak : Bool) (i : ℕ) → means t (prefix_tree sign.Always p) weak i ≡ (every i t.places (means t p weak) && weak)
unfolding means
always_means t p weak i =
    ap not (eventually_means t (negation p) (not weak) i)
    ∙ (not_or (some i t.places (means t (negation p) (not weak))) (not weak) ∙ rw (not_some_not t p weak i, twice weak))

-- "p & q": both
pub both_mean : (t : Trace) (p q : RuleTree) (weak : Bool) (i : ℕ) → means t (infix_tree sign.And p q) weak i ≡ (means t p weak i && means t q weak i)
unfolding means
both_mean t p q weak i =
    rw (twice weak) (not_or (not (means t p weak i)) (not (means t q weak i)) ∙ rw (twice (means t p weak i), twice (means t q weak i)))

-- "p -> q": q, or not p, which is p in the other reading
pub implies_means : (t : Trace) (p q : RuleTree) (weak : Bool) (i : ℕ) → means t (infix_tree sign.Implies p q) weak i ≡ (not (means t p (not weak) i) || means t q weak i)
unfolding means
implies_means t p q weak i = refl

-- ---- the table of a tree

-- a rule's tree as a term that is written out at the end of a table
pub data Writes : RuleTree → Term → Type 0 where
  writes_true : Writes (atomic True 0) yes₀
  writes_atom : (n : ℕ) → Writes (atomic Atom n) (atom₀ n)
  writes_one : {p : RuleTree} {x : Term} (o : Unary) → Writes p x → Writes (unary (kind₁ o) p) (one o x)
  writes_two : {p q : RuleTree} {x y : Term} (o : Binary) → Writes p x → Writes q y → Writes (binary (kind₂ o) p q) (two o x y)

abbrev pub term_of : Tree → Term
term_of tree.truth = yes₀
term_of (tree.atom n) = atom₀ n
term_of (tree.prefixed sign.Not p) = one not₁ (term_of p)
term_of (tree.prefixed sign.Next p) = one next₁ (term_of p)
term_of (tree.prefixed sign.Prev p) = one prev₁ (term_of p)
term_of (tree.prefixed sign.Future p) = two until₂ yes₀ (term_of p)
term_of (tree.prefixed sign.Always p) = one not₁ (two until₂ yes₀ (one not₁ (term_of p)))
term_of (tree.joined sign.Implies p q) = two or₂ (one not₁ (term_of p)) (term_of q)
term_of (tree.joined sign.Or p q) = two or₂ (term_of p) (term_of q)
term_of (tree.joined sign.And p q) = one not₁ (two or₂ (one not₁ (term_of p)) (one not₁ (term_of q)))
term_of (tree.joined sign.Until p q) = two until₂ (term_of p) (term_of q)
term_of (tree.joined sign.Since p q) = two since₂ (term_of p) (term_of q)

pub tree_writes : (t : Tree) → Writes (rule_tree_of t) (term_of t)
unfolding rule_tree_of
tree_writes tree.truth = writes_true
tree_writes (tree.atom n) = writes_atom n
tree_writes (tree.prefixed sign.Not p) = writes_one not₁ (tree_writes p)
tree_writes (tree.prefixed sign.Next p) = writes_one next₁ (tree_writes p)
tree_writes (tree.prefixed sign.Prev p) = writes_one prev₁ (tree_writes p)
tree_writes (tree.prefixed sign.Future p) = writes_two until₂ writes_true (tree_writes p)
tree_writes (tree.prefixed sign.Always p) = writes_one not₁ (writes_two until₂ writes_true (writes_one not₁ (tree_writes p)))
tree_writes (tree.joined sign.Implies p q) = writes_two or₂ (writes_one not₁ (tree_writes p)) (tree_writes q)
tree_writes (tree.joined sign.Or p q) = writes_two or₂ (tree_writes p) (tree_writes q)
tree_writes (tree.joined sign.And p q) = writes_one not₁ (writes_two or₂ (writes_one not₁ (tree_writes p)) (writes_one not₁ (tree_writes q)))
tree_writes (tree.joined sign.Until p q) = writes_two until₂ (tree_writes p) (tree_writes q)
tree_writes (tree.joined sign.Since p q) = writes_two since₂ (tree_writes p) (tree_writes q)

above_sum : (k n : ℕ) → above k n ≡ n + k
above_sum zero n = omega arith
above_sum (suc k) n = omega (arith, above_sum k n)

-- the nodes of the rule's tree are those of the term
record Laid (b : ℕ) (f : RuleTree) (x : Term) : Type 0 where
  sizes : rule_tree.size f ≡ size x
  some : 0 < size x
  nodes : nodes_from b f ≡ code x b
  ends : b + rule_tree.size f - 1 ≡ top_from x b

laid : {f : RuleTree} {x : Term} → Writes f x → (b : ℕ) → Laid b f x
unfolding rule_tree.size nodes_from
laid writes_true b = record { sizes = refl; some = omega arith; nodes = refl; ends = omega arith }
laid (writes_atom n) b = record { sizes = refl; some = omega arith; nodes = refl; ends = omega arith }
laid (writes_one {x = x} o w) b =
    let e = laid w b in
    record { sizes = omega (arith, e.sizes); some = omega arith; nodes = rw (e.nodes, e.ends); ends = omega (arith, e.sizes, above_sum (size x) b) }
laid (writes_two {p} {q} {x} {y} o v w) b =
    let e = laid v b in
    let a : b + rule_tree.size p ≡ above (size x) b = omega (arith, e.sizes, above_sum (size x) b) in
    let f : Laid (above (size x) b) q y = rw a at (laid w (b + rule_tree.size p)) in
    record {
      sizes = omega (arith, e.sizes, f.sizes);
      some = omega arith;
      nodes = rw (e.nodes, e.ends, a, f.nodes, f.ends);
      ends = omega (arith, a, f.sizes, above_sum (size y) (above (size x) b));
    }

-- a term reads as the rule's tree
term_means : (t : Trace) {f : RuleTree} {x : Term} → Writes f x → den t x (λ i. no_row) ≡ means t f
unfolding means
term_means t writes_true = refl
term_means t (writes_atom n) = refl
term_means t (writes_one {p} {x} o w) = rw (term_means t w) (unary_means o)
  where
    unary_means : (o : Unary) → op₁ t o (means t p) ≡ reading t (operands_of (means t p) no_row) (kind₁ o) 0 0
    unary_means not₁ = refl
    unary_means next₁ = refl
    unary_means prev₁ = fun_ext (λ d. fun_ext (λ i. sym (reading_is t (operands_of (means t p) no_row) Prev 0 0 d i)))
term_means t (writes_two {p} {q} {x} {y} o v w) = rw (term_means t v, term_means t w) (binary_means o)
  where
    binary_means : (o : Binary) → op₂ t o (means t p) (means t q) ≡ reading t (operands_of (means t p) (means t q)) (kind₂ o) 0 1
    binary_means or₂ = refl
    binary_means until₂ = fun_ext (λ d. fun_ext (λ i. sym (reading_is t (operands_of (means t p) (means t q)) Until 0 1 d i)))
    binary_means since₂ = fun_ext (λ d. fun_ext (λ i. sym (reading_is t (operands_of (means t p) (means t q)) Since 0 1 d i)))

terms_below : {f : RuleTree} {x : Term} → Writes f x → Below 0 x
terms_below writes_true = tt
terms_below (writes_atom n) = tt
terms_below (writes_one o w) = terms_below w
terms_below (writes_two o v w) = (terms_below v, terms_below w)

-- the verdict of a tree's table is the reading of what the tree stands for
pub table_means : (trace : Trace) (t : Tree) (weak : Bool) → 0 < trace.places
    → verdict trace (nodes_of t) (length (nodes_of t) - 1) weak ≡ means trace (rule_tree_of t) weak 0
table_means trace t weak h =
    let w = tree_writes t in
    let x = term_of t in
    let e = laid w 0 in
    let n : nodes_of t ≡ comp x [] = e.nodes ∙ sym (comp_code x []) in
    let l : length (comp x []) - 1 ≡ top x [] = top_last x [] e.some in
    rw (n, l) (verdict_is trace (comp x []) (top x []) weak h ∙ (ap (λ (r : Row). r weak 0) (comp_den trace x [] (terms_below w) ∙ term_means trace w)))
