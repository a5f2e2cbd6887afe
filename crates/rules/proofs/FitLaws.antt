-- A node that fits is refused by nothing; of another one, its kind and its second operand tell the number.
use mathlib.Core.Bool.{Bool, true, false, not, ◌&&◌, ◌||◌}
use mathlib.Core.Path.{◌≡◌, refl, sym, ap}
use Prim.Native.Nat.{ℕ, ◌<◌}
use native.Mathlib.Decide.{ℕ_discrete, dec_lt}
use native.Mathlib.Omega.{arith}
use borrow.Author.Rules.{rules}
use borrow.Author.Tests.{ne_eqb, eq-eqb, lt-ltb, le-ltb, lt-leb, le-leb}
use lib.Dec.{eqb, ltb, leb}
use Rattle.definitions.specs.Limits.{atom_count, accepted, rule_limits, rule_operand}
use Rattle.definitions.specs.Bounded.{pick}
use Rattle.definitions.specs.Nodes.{Kind, True, Atom, Not, Or, Next, Until, Prev, Since, Run, End, Unknown, Node, node, operands}
use Rattle.definitions.specs.Tables.{node_refusal}
use Rattle.rules.specs.Fits.{takes_nodes, node_fits}
use Rattle.rules.specs.Refusals.{number_of}
use Rattle.rules.specs.declared.refusal.Refusal.{Refusal}

-- the tests of the definition as those of the code
late : (i a : ℕ) → leb i a ≡ not (ltb a i)
late i a = go (dec_lt a i)
  where
    go : Dec (a < i) → leb i a ≡ not (ltb a i)
    go (yes h) = rw (lt-leb i a h, lt-ltb a i h)
    go (no h) = rw (le-leb i a (omega arith), le-ltb a i (omega arith))

zero_test : (a : ℕ) → eqb a 0 ≡ ltb a 1
zero_test a = go (ℕ_discrete a 0)
  where
    go : Dec (a ≡ 0) → eqb a 0 ≡ ltb a 1
    go (yes e) = rw (eq-eqb a 0 e, lt-ltb a 1 (omega arith))
    go (no e) = rw (ne_eqb a 0 e, le-ltb a 1 (omega arith))

-- what holds of any two answers
by_tests : (P : Bool → Bool → Type 0) → P true true → P true false → P false true → P false false → (x y : Bool) → P x y
by_tests P p q r s true true = p
by_tests P p q r s true false = q
by_tests P p q r s false true = r
by_tests P p q r s false false = s

abbrev number : Kind → ℕ → ℕ
number k b = pick (takes_nodes k && (eqb (operands k) 2 || eqb b 0)) rule_operand rule_limits

-- of a kind with one operand: the number, by the tests of both operands
by_first : (x y z : Bool) → (y && (x && z)) ≡ (y && x) → pick (not y) rule_limits (pick (not x || false) rule_operand accepted) ≡ pick (y && ((x && z) || false)) accepted (pick y rule_operand rule_limits)
unfolding pick
by_first true true true h = refl
by_first true true false h = ap (λ v. pick (v || false) accepted rule_operand) (sym h)
by_first false true z h = refl
by_first x false z h = refl

-- an unused second operand is before i where the first is
both_early : (i a b : ℕ) → (eqb b 0 && (ltb a i && ltb b i)) ≡ (eqb b 0 && ltb a i)
both_early i a b = go (ℕ_discrete b 0) (dec_lt a i)
  where
    go : Dec (b ≡ 0) → Dec (a < i) → (eqb b 0 && (ltb a i && ltb b i)) ≡ (eqb b 0 && ltb a i)
    go (yes e) (yes h) = rw (eq-eqb b 0 e, lt-ltb a i h, lt-ltb b i (omega arith))
    go (yes e) (no h) = rw (eq-eqb b 0 e, le-ltb a i (omega arith))
    go (no e) h = rw (ne_eqb b 0 e)

module _ (i a b : ℕ) where
  unused : pick (not (eqb a 0) || not (eqb b 0)) rule_limits accepted ≡ pick (eqb b 0 && ltb a 1) accepted rule_limits
  unfolding pick
  unused = rw (zero_test a) (by_tests (λ x y. pick (not x || not y) rule_limits accepted ≡ pick (y && x) accepted rule_limits) refl refl refl refl (ltb a 1) (eqb b 0))

  one : pick (not (eqb b 0)) rule_limits (pick (leb i a || false) rule_operand accepted) ≡ pick (eqb b 0 && ((ltb a i && ltb b i) || false)) accepted (pick (eqb b 0) rule_operand rule_limits)
  unfolding pick
  one = rw (late i a) (by_first (ltb a i) (eqb b 0) (ltb b i) (both_early i a b))

  two : pick (leb i a || leb i b) rule_operand accepted ≡ pick ((ltb a i && ltb b i) || false) accepted rule_operand
  unfolding pick
  two = rw (late i a, late i b) (by_tests (λ x y. pick (not x || not y) rule_operand accepted ≡ pick ((x && y) || false) accepted rule_operand) refl refl refl refl (ltb a i) (ltb b i))

  atom : pick (leb atom_count a) rule_limits (pick (not (eqb b 0)) rule_limits accepted) ≡ pick (eqb b 0 && ltb a atom_count) accepted rule_limits
  unfolding pick
  atom = rw (late atom_count a)
      (by_tests (λ x y. pick (not x) rule_limits (pick (not y) rule_limits accepted) ≡ pick (y && x) accepted rule_limits) refl refl refl refl (ltb a atom_count) (eqb b 0))

  refusal_is : (rewritten : Bool) (k : Kind) → node_refusal rewritten i (node k a b) ≡ pick (node_fits rewritten i (node k a b)) accepted (number k b)
  unfolding node_refusal node_fits pick
  refusal_is rewritten True = unused
  refusal_is rewritten Atom = atom
  refusal_is rewritten Not = one
  refusal_is rewritten Or = two
  refusal_is rewritten Next = one
  refusal_is rewritten Until = two
  refusal_is rewritten Prev = one
  refusal_is rewritten Since = two
  refusal_is true Run = unused
  refusal_is false Run = refl
  refusal_is true End = unused
  refusal_is false End = refl
  refusal_is rewritten Unknown = refl

module _ (rewritten : Bool) (i : ℕ) (n : Node) where
  -- `check_node`, the node fits: `node_refusal` is 0
  pub fits_none : (z : Bool) → z ≡ node_fits rewritten i n → z ≡ true → accepted ≡ node_refusal rewritten i n
  unfolding pick
  fits_none z e t = rw (refusal_is i n.first n.second rewritten n.kind, ← e, t)

  -- `misfit`: of every node that doesn't fit, its number is `node_refusal`
  pub misfit_refused : node_fits rewritten i n ≡ false → number n.kind n.second ≡ node_refusal rewritten i n
  unfolding pick
  misfit_refused f = rw (refusal_is i n.first n.second rewritten n.kind, f)

-- a choice of refusals is a choice of their numbers
pub number_picked : (z : Bool) (a b : Refusal) → number_of (pick z a b) ≡ pick z (number_of a) (number_of b)
unfolding pick
number_picked true a b = refl
number_picked false a b = refl

pub ruleset fit_laws = (rules, fits_none)
