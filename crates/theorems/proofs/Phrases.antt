-- Phrases of the grammar: what comes after them is shorter; their nodes, atoms and brackets are counted by their signs; and
-- a flat reading goes through them, in which only an operand or an operator is due and brackets are counted.
use mathlib.Core.Path.{◌≡◌, refl, ◌∙◌}
use Prim.Native.Nat.{ℕ, zero, suc, ◌+◌, ◌-◌, ◌<◌, ◌≤◌}
use native.Mathlib.Omega.{arith}
use mathlib.Core.Bool.{Bool, true, false, ◌&&◌}
use mathlib.Core.List.{List, [], ◌∷◌}
use lib.ListN.{length}
use lib.Dec.{ltb}
use borrow.Author.Tests.{lt-ltb, ltb-true, ltb-false}
use Rattle.definitions.specs.Limits.{atom_count}
use Rattle.definitions.specs.Bounded.{pick}
use Rattle.definitions.specs.OneLineSigns.{Sign, true_sign, atom_sign, prefix_sign, infix_sign, open_bracket, close_bracket, Prefix, Not, Next, Prev, Future, Always, Infix, Implies, Or, And, Until, Since}
use Rattle.definitions.specs.OneLineGrammar.{Tree, prefixed, joined, Level, Phrase, arrow, no_arrow, or, no_or, and, no_and, until, since, no_until, prefix, no_prefix, truth_alone, atom_alone, bracketed, larger, most_open}
use Rattle.definitions.specs.OneLineNodes.{rule_tree_of, size, largest_atom}
use Rattle.definitions.specs.OneLineReading.{strength}
use Rattle.theorems.proofs.Choice.{by_test}

-- what is due next
pub data Due : Type 0 where
  operand operator : Due

-- the signs end a sentence in which k brackets are open
unfoldable pub flat : List Sign → Due → ℕ → Bool
flat [] operand k = false
flat [] operator zero = true
flat [] operator (suc k) = false
flat (true_sign ∷ s) operand k = flat s operator k
flat (true_sign ∷ s) operator k = false
flat (atom_sign n ∷ s) operand k = flat s operator k
flat (atom_sign n ∷ s) operator k = false
flat (prefix_sign x ∷ s) operand k = flat s operand k
flat (prefix_sign x ∷ s) operator k = false
flat (infix_sign x ∷ s) operand k = false
flat (infix_sign x ∷ s) operator k = flat s operand k
flat (open_bracket ∷ s) operand k = flat s operand (suc k)
flat (open_bracket ∷ s) operator k = false
flat (close_bracket ∷ s) operand k = false
flat (close_bracket ∷ s) operator zero = false
flat (close_bracket ∷ s) operator (suc k) = flat s operator k

-- how tightly a sign binds, 0 where it stands between no operands
abbrev pub sign_strength : Sign → ℕ
sign_strength true_sign = 0
sign_strength (atom_sign n) = 0
sign_strength (prefix_sign x) = 0
sign_strength (infix_sign x) = strength x
sign_strength open_bracket = 0
sign_strength close_bracket = 0

-- how tightly the first sign binds
abbrev pub tight : List Sign → ℕ
tight [] = 0
tight (x ∷ s) = sign_strength x

-- how many nodes a sign adds
unfoldable pub prefix_nodes : Prefix → ℕ
prefix_nodes Not = 1
prefix_nodes Next = 1
prefix_nodes Prev = 1
prefix_nodes Future = 2
prefix_nodes Always = 4

unfoldable pub infix_nodes : Infix → ℕ
infix_nodes Implies = 2
infix_nodes Or = 1
infix_nodes And = 4
infix_nodes Until = 1
infix_nodes Since = 1

unfoldable pub sign_nodes : Sign → ℕ
sign_nodes true_sign = 1
sign_nodes (atom_sign n) = 1
sign_nodes (prefix_sign x) = prefix_nodes x
sign_nodes (infix_sign x) = infix_nodes x
sign_nodes open_bracket = 0
sign_nodes close_bracket = 0

-- how many nodes the signs add
unfoldable pub weight : List Sign → ℕ
weight [] = 0
weight (x ∷ s) = sign_nodes x + weight s

-- each atom is below the limit
unfoldable pub sign_low : Sign → Bool
sign_low true_sign = true
sign_low (atom_sign n) = ltb n atom_count
sign_low (prefix_sign x) = true
sign_low (infix_sign x) = true
sign_low open_bracket = true
sign_low close_bracket = true

unfoldable pub low_atoms : List Sign → Bool
low_atoms [] = true
low_atoms (x ∷ s) = sign_low x && low_atoms s

pub tight_most : (u : List Sign) → tight u < 5
tight_most [] = omega arith
tight_most (true_sign ∷ u) = omega arith
tight_most (atom_sign n ∷ u) = omega arith
tight_most (prefix_sign x ∷ u) = omega arith
tight_most (infix_sign Implies ∷ u) = omega arith
tight_most (infix_sign Or ∷ u) = omega arith
tight_most (infix_sign And ∷ u) = omega arith
tight_most (infix_sign Until ∷ u) = omega arith
tight_most (infix_sign Since ∷ u) = omega arith
tight_most (open_bracket ∷ u) = omega arith
tight_most (close_bracket ∷ u) = omega arith

-- an operand was due, and then an operator is
pub phrase_flat : {l : Level} {s u : List Sign} {t : Tree} → Phrase l s u t → (k : ℕ) → flat s operand k ≡ flat u operator k
unfolding flat
phrase_flat (arrow x y) k = phrase_flat x k ∙ phrase_flat y k
phrase_flat (no_arrow x) k = phrase_flat x k
phrase_flat (or x y) k = phrase_flat x k ∙ phrase_flat y k
phrase_flat (no_or x) k = phrase_flat x k
phrase_flat (and x y) k = phrase_flat x k ∙ phrase_flat y k
phrase_flat (no_and x) k = phrase_flat x k
phrase_flat (until x y) k = phrase_flat x k ∙ phrase_flat y k
phrase_flat (since x y) k = phrase_flat x k ∙ phrase_flat y k
phrase_flat (no_until x) k = phrase_flat x k
phrase_flat (prefix x y) k = phrase_flat y k
phrase_flat (no_prefix x) k = phrase_flat x k
phrase_flat truth_alone k = refl
phrase_flat (atom_alone n) k = refl
phrase_flat (bracketed x) k = phrase_flat x (suc k)

pub phrase_shorter : {l : Level} {s u : List Sign} {t : Tree} → Phrase l s u t → length u < length s
phrase_shorter (arrow x y) = omega (arith, phrase_shorter x, phrase_shorter y)
phrase_shorter (no_arrow x) = phrase_shorter x
phrase_shorter (or x y) = omega (arith, phrase_shorter x, phrase_shorter y)
phrase_shorter (no_or x) = phrase_shorter x
phrase_shorter (and x y) = omega (arith, phrase_shorter x, phrase_shorter y)
phrase_shorter (no_and x) = phrase_shorter x
phrase_shorter (until x y) = omega (arith, phrase_shorter x, phrase_shorter y)
phrase_shorter (since x y) = omega (arith, phrase_shorter x, phrase_shorter y)
phrase_shorter (no_until x) = phrase_shorter x
phrase_shorter (prefix x y) = omega (arith, phrase_shorter y)
phrase_shorter (no_prefix x) = phrase_shorter x
phrase_shorter truth_alone = omega arith
phrase_shorter (atom_alone n) = omega arith
phrase_shorter (bracketed x) = omega (arith, phrase_shorter x)

-- a prefix and an infix sign add so many nodes
pub prefix_size : (x : Prefix) (p : Tree) → size (rule_tree_of (prefixed x p)) ≡ size (rule_tree_of p) + prefix_nodes x
unfolding size rule_tree_of prefix_nodes
prefix_size Not p = refl
prefix_size Next p = refl
prefix_size Prev p = refl
prefix_size Future p = omega arith
prefix_size Always p = omega arith

pub infix_size : (x : Infix) (p q : Tree) → size (rule_tree_of (joined x p q)) ≡ size (rule_tree_of p) + (size (rule_tree_of q) + infix_nodes x)
unfolding size rule_tree_of infix_nodes
infix_size Implies p q = omega arith
infix_size Or p q = refl
infix_size And p q = omega arith
infix_size Until p q = refl
infix_size Since p q = refl

-- the nodes of a phrase are those that its signs add
pub phrase_weight : {l : Level} {s u : List Sign} {t : Tree} → Phrase l s u t → size (rule_tree_of t) + weight u ≡ weight s
unfolding size rule_tree_of weight sign_nodes
phrase_weight (arrow {p = p} {q = q} x y) = omega (arith, phrase_weight x, phrase_weight y, infix_size Implies p q)
phrase_weight (no_arrow x) = phrase_weight x
phrase_weight (or {p = p} {q = q} x y) = omega (arith, phrase_weight x, phrase_weight y, infix_size Or p q)
phrase_weight (no_or x) = phrase_weight x
phrase_weight (and {p = p} {q = q} x y) = omega (arith, phrase_weight x, phrase_weight y, infix_size And p q)
phrase_weight (no_and x) = phrase_weight x
phrase_weight (until {p = p} {q = q} x y) = omega (arith, phrase_weight x, phrase_weight y, infix_size Until p q)
phrase_weight (since {p = p} {q = q} x y) = omega (arith, phrase_weight x, phrase_weight y, infix_size Since p q)
phrase_weight (no_until x) = phrase_weight x
phrase_weight (prefix {p = p} x y) = omega (arith, phrase_weight y, prefix_size x p)
phrase_weight (no_prefix x) = phrase_weight x
phrase_weight truth_alone = refl
phrase_weight (atom_alone n) = refl
phrase_weight (bracketed x) = omega (arith, phrase_weight x)

pub larger_low : (m n k : ℕ) → ltb (larger m n) k ≡ (ltb m k && ltb n k)
unfolding larger pick
larger_low m n k =
    by_test (ltb m n)
    (λ e. let l = ltb-true m n e in
    by_test (ltb n k) (λ f. let g = ltb-true n k f in rw (e, f, lt-ltb m k (omega arith))) (λ f. rw (e, f) (no (ltb m k))))
    (λ e. let l = ltb-false m n e in
    by_test (ltb m k) (λ f. let g = ltb-true m k f in rw (e, f, lt-ltb n k (omega arith))) (λ f. rw (e, f)))
  where
    no : (b : Bool) → false ≡ (b && false)
    no true = refl
    no false = refl

and_of : (a b c : Bool) → ((a && b) && c) ≡ (a && (b && c))
and_of true b c = refl
and_of false b c = refl

low_two : (p q : Tree) (a b c : Bool) → a ≡ (ltb (largest_atom p) atom_count && b) → b ≡ (ltb (largest_atom q) atom_count && c)
    → a ≡ (ltb (larger (largest_atom p) (largest_atom q)) atom_count && c)
low_two p q a b c e f =
    e ∙ rw (f, larger_low (largest_atom p) (largest_atom q) atom_count, and_of (ltb (largest_atom p) atom_count) (ltb (largest_atom q) atom_count) c)

-- the atoms of a phrase are low where those of its signs are
pub phrase_low : {l : Level} {s u : List Sign} {t : Tree} → Phrase l s u t → low_atoms s ≡ (ltb (largest_atom t) atom_count && low_atoms u)
unfolding low_atoms sign_low largest_atom
phrase_low (arrow {p = p} {q = q} x y) = low_two p q _ _ _ (phrase_low x) (phrase_low y)
phrase_low (no_arrow x) = phrase_low x
phrase_low (or {p = p} {q = q} x y) = low_two p q _ _ _ (phrase_low x) (phrase_low y)
phrase_low (no_or x) = phrase_low x
phrase_low (and {p = p} {q = q} x y) = low_two p q _ _ _ (phrase_low x) (phrase_low y)
phrase_low (no_and x) = phrase_low x
phrase_low (until {p = p} {q = q} x y) = low_two p q _ _ _ (phrase_low x) (phrase_low y)
phrase_low (since {p = p} {q = q} x y) = low_two p q _ _ _ (phrase_low x) (phrase_low y)
phrase_low (no_until x) = phrase_low x
phrase_low (prefix x y) = phrase_low y
phrase_low (no_prefix x) = phrase_low x
phrase_low truth_alone = refl
phrase_low (atom_alone n) = refl
phrase_low (bracketed x) = phrase_low x

pub larger_first : (m n : ℕ) → m ≤ larger m n
unfolding larger pick
larger_first m n = by_test (ltb m n) (λ e. rw e (omega (arith, ltb-true m n e))) (λ e. rw e (omega arith))

pub larger_second : (m n : ℕ) → n ≤ larger m n
unfolding larger pick
larger_second m n = by_test (ltb m n) (λ e. rw e (omega arith)) (λ e. rw e (omega (arith, ltb-false m n e)))

-- the most brackets open at once are no fewer than those so far
pub most_grows : (most k : ℕ) (s : List Sign) → most ≤ most_open most k s
unfolding most_open
most_grows most k [] = omega arith
most_grows most k (true_sign ∷ s) = most_grows most k s
most_grows most k (atom_sign n ∷ s) = most_grows most k s
most_grows most k (prefix_sign x ∷ s) = most_grows most k s
most_grows most k (infix_sign x ∷ s) = most_grows most k s
most_grows most k (open_bracket ∷ s) = omega (arith, larger_first most (k + 1), most_grows (larger most (k + 1)) (k + 1) s)
most_grows most k (close_bracket ∷ s) = most_grows most (k - 1) s

-- as many brackets are open after a phrase as before it
pub record Opened (most k : ℕ) (s u : List Sign) : Type 0 where
  pub more : ℕ
  pub grows : most ≤ more
  pub on : most_open most k s ≡ most_open more k u

opened_two : {most k : ℕ} {s v u : List Sign} (x : Infix) → Opened most k s (infix_sign x ∷ v) → ((m : ℕ) → Opened m k v u) → Opened most k s u
unfolding most_open
opened_two x e f =
    let g = f e.more in
    record { more = g.more; grows = omega (arith, e.grows, g.grows); on = e.on ∙ g.on }

opened_in : (most k : ℕ) (s u : List Sign) → Opened (larger most (k + 1)) (k + 1) s (close_bracket ∷ u) → Opened most k (open_bracket ∷ s) u
unfolding most_open
opened_in most k s u e =
    let z : k + 1 - 1 ≡ k = omega arith in
    record { more = e.more; grows = omega (arith, larger_first most (k + 1), e.grows); on = e.on ∙ rw z }

opened_none : (most k : ℕ) (s u : List Sign) → most_open most k s ≡ most_open most k u → Opened most k s u
opened_none most k s u e = record { more = most; grows = omega arith; on = e }

pub phrase_opened : {l : Level} {s u : List Sign} {t : Tree} → Phrase l s u t → (most k : ℕ) → Opened most k s u
unfolding most_open
phrase_opened (arrow x y) most k = opened_two Implies (phrase_opened x most k) (λ m. phrase_opened y m k)
phrase_opened (no_arrow x) most k = phrase_opened x most k
phrase_opened (or x y) most k = opened_two Or (phrase_opened x most k) (λ m. phrase_opened y m k)
phrase_opened (no_or x) most k = phrase_opened x most k
phrase_opened (and x y) most k = opened_two And (phrase_opened x most k) (λ m. phrase_opened y m k)
phrase_opened (no_and x) most k = phrase_opened x most k
phrase_opened (until x y) most k = opened_two Until (phrase_opened x most k) (λ m. phrase_opened y m k)
phrase_opened (since x y) most k = opened_two Since (phrase_opened x most k) (λ m. phrase_opened y m k)
phrase_opened (no_until x) most k = phrase_opened x most k
phrase_opened (prefix x y) most k = let e = phrase_opened y most k in record { more = e.more; grows = e.grows; on = e.on }
phrase_opened (no_prefix x) most k = phrase_opened x most k
phrase_opened (truth_alone {u = u}) most k = opened_none most k (true_sign ∷ u) u refl
phrase_opened (atom_alone {u = u} n) most k = opened_none most k (atom_sign n ∷ u) u refl
phrase_opened (bracketed {s = s} {u = u} x) most k = opened_in most k s u (phrase_opened x (larger most (k + 1)) (k + 1))
