-- Laws of the pass over the signs.
use mathlib.Core.Path.{◌≡◌, refl, sym, ap, ◌∙◌}
use Prim.Native.Nat.{ℕ, zero, suc, ◌+◌, ◌-◌, ◌*◌, ◌<◌, ◌≤◌}
use native.Mathlib.Omega.{arith}
use native.Mathlib.Numerals.{add-one}
use mathlib.Core.Bool.{Bool, true, false, not, ◌&&◌, ◌||◌}
use mathlib.Core.List.{List, [], ◌∷◌}
use lib.ListN.{length, drop, get_or, drop_of_length-le}
use lib.Seq.{drop-cons}
use lib.Dec.{eqb, ltb, leb}
use Rattle.std.specs.Prelude.{max}
use Rattle.std.proofs.Math.Bool.{and_assoc, and-true}
use borrow.Author.Rules.{rules}
use borrow.Author.Tests.{ne_eqb, lt-ltb, le-ltb, ltb-true, ltb-false, leb-true, leb-false}
use Rattle.definitions.specs.Limits.{accepted, max_controllers, max_rule_nodes, max_open_brackets, max_line_bytes, rule_limits, line_form, brackets_deep}
use Rattle.definitions.specs.Bounded.{pick, or_else}
use Rattle.definitions.specs.OneLineSigns.{Sign, true_sign, atom_sign, prefix_sign, infix_sign, open_bracket, close_bracket, Not, Next, Prev, Future, Always, Implies, Or, And, Until, Since}
use Rattle.definitions.specs.OneLineGrammar.{larger, most_open, open_at_once}
use Rattle.theorems.proofs.Choice.{by_test, pick_true, pick_false}
use Rattle.theorems.proofs.Phrases.{Due, operand, operator, flat, prefix_nodes, infix_nodes, sign_nodes, weight, sign_low, low_atoms, larger_second}
use Rattle.theorems.proofs.FlatRefusal.{flat_refusal}
use Rattle.rules.proofs.RefusalLaws.{refusals}
use Rattle.one_line_signs.specs.Signs.{sign_in, signs_in}
use Rattle.one_line_signs.specs.Tallies.{may_stand, due_after, open_after, Few, Stepped, ended, Tallied}
use Rattle.one_line_signs.specs.declared.sign.Sign.{Sign as SignCode}
use Rattle.one_line_signs.specs.declared.tally.Tally.{Tally}

-- ---- `with`

-- a sign adds few nodes
pub sign_nodes_few : (x : Sign) → sign_nodes x ≤ 4
unfolding sign_nodes prefix_nodes infix_nodes
sign_nodes_few true_sign = omega arith
sign_nodes_few (atom_sign n) = omega arith
sign_nodes_few (prefix_sign Not) = omega arith
sign_nodes_few (prefix_sign Next) = omega arith
sign_nodes_few (prefix_sign Prev) = omega arith
sign_nodes_few (prefix_sign Future) = omega arith
sign_nodes_few (prefix_sign Always) = omega arith
sign_nodes_few (infix_sign Implies) = omega arith
sign_nodes_few (infix_sign Or) = omega arith
sign_nodes_few (infix_sign And) = omega arith
sign_nodes_few (infix_sign Until) = omega arith
sign_nodes_few (infix_sign Since) = omega arith
sign_nodes_few open_bracket = omega arith
sign_nodes_few close_bracket = omega arith

pub larger_max : (m n : ℕ) → max m n ≡ larger m n
unfolding larger
larger_max m n =
    by_test (ltb m n)
    (λ e. let h = ltb-true m n e in rw (pick_true (ltb m n) n m e) (omega arith))
    (λ e. let h = ltb-false m n e in rw (pick_false (ltb m n) n m e) (omega arith))

pub ruleset with_laws = (sign_nodes_few, larger_max)

-- ---- `count`
abbrev due_of : Bool → Due
due_of true = operand
due_of false = operator

flat_step : (x : Sign) (s : List Sign) (due : Bool) (k : ℕ) → flat (x ∷ s) (due_of due) k ≡ (may_stand x due k && flat s (due_of (due_after x)) (open_after x k))
unfolding flat
flat_step true_sign s true k = refl
flat_step true_sign s false k = refl
flat_step (atom_sign n) s true k = refl
flat_step (atom_sign n) s false k = refl
flat_step (prefix_sign x) s true k = refl
flat_step (prefix_sign x) s false k = refl
flat_step (infix_sign x) s true k = refl
flat_step (infix_sign x) s false k = refl
flat_step open_bracket s true k = rw (add-one k)
flat_step open_bracket s false k = refl
flat_step close_bracket s true k = refl
flat_step close_bracket s false zero = refl
flat_step close_bracket s false (suc k) = let e : suc k - 1 ≡ k = omega arith in rw (lt-ltb 0 (suc k) (omega arith), e)

flat_end : (due : Bool) (k : ℕ) → flat [] (due_of due) k ≡ (not due && eqb k 0)
unfolding flat
flat_end true k = refl
flat_end false zero = refl
flat_end false (suc k) = sym (ne_eqb (suc k) 0 (λ e. omega arith))

larger_stays : (m k : ℕ) → k ≤ m → larger m k ≡ m
unfolding larger
larger_stays m k h = pick_false (ltb m k) k m (le-ltb m k h)

most_step : (x : Sign) (s : List Sign) (most k : ℕ) → k ≤ most → most_open most k (x ∷ s) ≡ most_open (larger most (open_after x k)) (open_after x k) s
unfolding most_open
most_step true_sign s most k h = rw (larger_stays most k h)
most_step (atom_sign n) s most k h = rw (larger_stays most k h)
most_step (prefix_sign x) s most k h = rw (larger_stays most k h)
most_step (infix_sign x) s most k h = rw (larger_stays most k h)
most_step open_bracket s most k h = refl
most_step close_bracket s most k h = rw (larger_stays most (k - 1) (omega arith))

open_few : (x : Sign) (k : ℕ) → open_after x k ≤ k + 1
open_few true_sign k = omega arith
open_few (atom_sign n) k = omega arith
open_few (prefix_sign x) k = omega arith
open_few (infix_sign x) k = omega arith
open_few open_bracket k = omega arith
open_few close_bracket k = omega arith

-- the signs before sign i are counted
pub record Counting (signs : List SignCode) (t : Tally) (i : ℕ) : Type 0 where
  pub sentence : (t.placed && flat (signs_in (drop i signs)) (due_of t.due) t.opened) ≡ flat (signs_in signs) operand 0
  pub most : most_open t.most t.opened (signs_in (drop i signs)) ≡ open_at_once (signs_in signs)
  pub over : t.opened ≤ t.most
  pub nodes : t.nodes + weight (signs_in (drop i signs)) ≡ weight (signs_in signs)
  pub low_atoms_lem : (t.low_atoms && low_atoms (signs_in (drop i signs))) ≡ low_atoms (signs_in signs)
  pub few_opened : t.opened ≤ i
  pub few_nodes : t.nodes ≤ i * 4

-- `count`, `Tallied`: before the first turn
pub count_start : (signs : List SignCode) → Counting signs (record { placed = true; due = true; opened = 0; most = 0; nodes = 0; low_atoms = true }) 0
count_start signs = record { sentence = refl; most = refl; over = omega arith; nodes = omega arith; low_atoms_lem = refl; few_opened = omega arith; few_nodes = omega arith }

module _ (signs : List SignCode) (t : Tally) (i : ℕ) (v : Counting signs t i) where
  pub count_few : i ≤ max_line_bytes → Few t
  count_few h = record { opened = omega (arith, v.few_opened); nodes = omega (arith, v.few_nodes) }

  -- `count`, `Tallied`: after the last sign
  pub count_done : length signs ≤ i → Tallied signs t
  unfolding most_open weight low_atoms
  count_done h =
      let e : drop i signs ≡ [] = drop_of_length-le signs {i = i} h in
      let f : flat (signs_in (drop i signs)) (due_of t.due) t.opened ≡ (not t.due && eqb t.opened 0) = rw e (flat_end t.due t.opened) in
      record {
        sentence = and_assoc t.placed (not t.due) (eqb t.opened 0) ∙ (ap (λ (z : Bool). t.placed && z) (sym f) ∙ v.sentence);
        most = ap (λ (s : List SignCode). most_open t.most t.opened (signs_in s)) (sym e) ∙ v.most;
        nodes = omega (arith, v.nodes, ap (λ (s : List SignCode). weight (signs_in s)) e);
        low_atoms_lem = sym (and-true t.low_atoms) ∙ (ap (λ (s : List SignCode). t.low_atoms && low_atoms (signs_in s)) (sym e) ∙ v.low_atoms_lem);
      }

  -- `count`, `Tallied`: a turn, one sign more
  pub count_again : (r : Tally) (none : SignCode) → i < length signs → Stepped t (get_or signs i none) r → Counting signs r (i + 1)
  unfolding weight low_atoms
  count_again r none h s =
      let x = sign_in (get_or signs i none) in
      let u = signs_in (drop (i + 1) signs) in
      let d : drop i signs ≡ (get_or signs i none ∷ drop (i + 1) signs) = rw (add-one, drop-cons signs i none h) in
      let e : signs_in (drop i signs) ≡ (x ∷ u) = ap signs_in d in
      record {
        sentence =
            rw (s.placed, s.due, s.opened)
            (and_assoc t.placed (may_stand x t.due t.opened) (flat u (due_of (due_after x)) (open_after x t.opened))
            ∙ (ap (λ (z : Bool). t.placed && z) (sym (flat_step x u t.due t.opened))
            ∙ (ap (λ (l : List Sign). t.placed && flat l (due_of t.due) t.opened) (sym e) ∙ v.sentence)));
        most =
            rw (s.most, s.opened)
            (sym (most_step x u t.most t.opened v.over)
            ∙ (ap (λ (l : List Sign). most_open t.most t.opened l) (sym e) ∙ v.most));
        over = omega (arith, s.most, s.opened, larger_second t.most (open_after x t.opened));
        nodes = omega (arith, s.nodes, v.nodes, ap weight e);
        low_atoms_lem = rw s.low_atoms_lem (and_assoc t.low_atoms (sign_low x) (low_atoms u) ∙ (ap (λ (l : List Sign). t.low_atoms && low_atoms l) (sym e) ∙ v.low_atoms_lem));
        few_opened = omega (arith, s.opened, v.few_opened, open_few x t.opened);
        few_nodes = omega (arith, s.nodes, v.few_nodes, sign_nodes_few x);
      }

pub ruleset count_laws = (rules, count_start, count_few, count_done, count_again)

-- ---- `check`

in_turn : (z : Bool) (number other : ℕ) → (number ≡ accepted → ⊥) → or_else (pick z accepted number) other ≡ pick z other number
unfolding or_else pick
in_turn true number other n = refl
in_turn false number other n = rw (ne_eqb number 0 n)

pick_not : {A : Type 0} (z : Bool) (a b : A) → pick z a b ≡ pick (not z) b a
unfolding pick
pick_not true a b = refl
pick_not false a b = refl

not_most : (a b : ℕ) → not (leb a b) ≡ ltb b a
not_most a b = by_test (leb a b) (λ e. rw (e, le-ltb b a (leb-true a b e))) (λ e. rw (e, lt-ltb b a (leb-false a b e)))

not_within : (nodes controller : ℕ) (low : Bool) → not (leb nodes max_rule_nodes && low && ltb controller max_controllers) ≡ (ltb max_rule_nodes nodes || not low || leb max_controllers controller)
not_within nodes controller low = rw (← (not_most nodes max_rule_nodes), leb_ltb max_controllers controller) (go (leb nodes max_rule_nodes) low (ltb controller max_controllers))
  where
    leb_ltb : (a b : ℕ) → leb a b ≡ not (ltb b a)
    leb_ltb a b = by_test (leb a b) (λ e. rw (e, le-ltb b a (leb-true a b e))) (λ e. rw (e, lt-ltb b a (leb-false a b e)))

    go : (x y z : Bool) → not (x && y && z) ≡ (not x || not y || not z)
    go true true z = refl
    go true false z = refl
    go false y z = refl

-- `check`, `flat_refusal`: the tests in turn
pub check_turns : (controller k : ℕ) (signs : List SignCode) (t : Tally) → Tallied signs t
    → k ≡ or_else (pick (ended t) accepted line_form) (or_else (pick (leb t.most max_open_brackets) accepted brackets_deep)
    (pick (leb t.nodes max_rule_nodes && t.low_atoms && ltb controller max_controllers) accepted rule_limits)) → k ≡ flat_refusal controller (signs_in signs)
unfolding flat_refusal
check_turns controller k signs t v e =
    let within = leb t.nodes max_rule_nodes && t.low_atoms && ltb controller max_controllers in
    let limits : pick within accepted rule_limits ≡ pick (not within) rule_limits accepted = pick_not within accepted rule_limits in
    let deep : (other : ℕ) → or_else (pick (leb t.most max_open_brackets) accepted brackets_deep) other ≡ pick (not (leb t.most max_open_brackets)) brackets_deep other
    = λ other. in_turn (leb t.most max_open_brackets) brackets_deep other (omega arith) ∙ pick_not (leb t.most max_open_brackets) other brackets_deep in
    e ∙ rw (← v.sentence, ← v.most, ← v.nodes, ← v.low_atoms_lem, ← (not_within t.nodes controller t.low_atoms), ← (not_most t.most max_open_brackets), limits, deep _, in_turn (ended t) line_form _ (omega arith))

pub ruleset check_laws = (refusals, check_turns)
