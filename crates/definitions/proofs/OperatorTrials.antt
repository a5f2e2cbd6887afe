-- Trials of each operator over R, for the controller 0 (atom 0 own, local words 2, 1 and a last place) or 1 (atom 1 own, local words 3, 0 and a last
-- place, which is the last state). They were chosen by changing the lists of the rewriting, one operand or one kind at a time.
use mathlib.Core.Path.{◌≡◌, refl}
use mathlib.Core.Bool.{true}
use mathlib.Core.List.{[], ◌∷◌}
use lib.ListN.{replicate}
use Rattle.definitions.specs.Nodes.{True, Atom, Not, Or, Next, Until, Prev, Since, node}
use Rattle.definitions.specs.Operations.{rewrite_table}
use Rattle.definitions.proofs.Samples.{computed, R, Z, rule_for, rule, yes, no, judged, agreed}

pub record Operators : Type 0 where
  -- the opening, node by node, and `true` after it, as words
  pub opening : rewrite_table true (rule (node True 0 0 ∷ [])) 0 (replicate 1024 7)
      ≡ 8 ∷ 2 ∷ 262 ∷ 9 ∷ 770 ∷ 4194819 ∷ 1282 ∷ 6291459 ∷ 1794 ∷ 774 ∷ 2306 ∷ 0 ∷ replicate 1012 0
  -- or keeps its reading; of tolerant operands it is tolerant, of others not
  pub or_of_foreign : judged (rule (node Atom 1 0 ∷ node Or 0 0 ∷ [])) Z ≡ agreed yes no 26 26
  pub or_of_own : judged (rule (node Atom 0 0 ∷ node Not 0 0 ∷ node Or 0 1 ∷ [])) R ≡ agreed yes yes 24 16
  pub or_foreign_first : judged (rule (node Atom 1 0 ∷ node Atom 0 0 ∷ node Or 0 1 ∷ node Next 2 0 ∷ [])) R ≡ agreed yes yes 37 37
  pub or_foreign_second : judged (rule (node Atom 1 0 ∷ node Atom 0 0 ∷ node Or 1 0 ∷ node Next 2 0 ∷ [])) R ≡ agreed yes yes 37 37
  -- the last place is the last state
  pub next_in_last_state : judged (rule_for 1 (node Atom 1 0 ∷ node Next 0 0 ∷ node Next 1 0 ∷ [])) R ≡ agreed yes yes 40 36
  -- prev and since keep their readings; before the first place there is none
  pub prev_of_next : judged (rule (node True 0 0 ∷ node Next 0 0 ∷ node Next 1 0 ∷ node Next 2 0 ∷ node Prev 3 0 ∷ node Next 4 0 ∷ [])) R ≡ agreed yes no 70 62
  pub prev_at_first : judged (rule_for 1 (node True 0 0 ∷ node Prev 0 0 ∷ [])) R ≡ agreed no no 30 22
  pub since_of_next : judged (rule (node True 0 0 ∷ node Next 0 0 ∷ node Next 1 0 ∷ node Next 2 0 ∷ node Since 0 3 ∷ node Next 4 0 ∷ [])) R ≡ agreed yes no 70 66
  pub next_since_foreign : judged (rule (node Atom 1 0 ∷ node Next 0 0 ∷ node Since 1 0 ∷ node Next 2 0 ∷ [])) R ≡ agreed yes no 54 54
  pub since_of_until : judged (rule_for 1 (node True 0 0 ∷ node Not 0 0 ∷ node Until 1 0 ∷ node Since 0 2 ∷ [])) R ≡ agreed yes yes 43 22
  pub since_of_since : judged (rule (node Atom 0 0 ∷ node Not 0 0 ∷ node Until 0 0 ∷ node Since 1 2 ∷ node Since 3 3 ∷ [])) R ≡ agreed no no 53 24
  -- until of own atoms: met at once, at the next place, never, and not held
  pub until_at_once : judged (rule (node True 0 0 ∷ node Until 0 0 ∷ [])) R ≡ agreed yes yes 31 18
  pub until_met : judged (rule_for 1 (node Atom 1 0 ∷ node Not 0 0 ∷ node Until 0 1 ∷ [])) R ≡ agreed yes yes 33 20
  pub until_met_next : judged (rule_for 1 (node Atom 1 0 ∷ node Not 0 0 ∷ node Until 1 0 ∷ node Next 2 0 ∷ [])) R ≡ agreed yes yes 43 34
  pub until_never : judged (rule (node True 0 0 ∷ node Not 0 0 ∷ node Until 0 1 ∷ [])) R ≡ agreed yes no 33 20
  pub until_not_held : judged (rule (node Atom 0 0 ∷ node True 0 0 ∷ node Not 1 0 ∷ node Until 0 2 ∷ node Next 3 0 ∷ [])) R ≡ agreed no no 44 35
  pub until_not_met : judged (rule_for 1 (node Atom 1 0 ∷ node Until 0 0 ∷ node Next 1 0 ∷ [])) R ≡ agreed no no 41 32
  -- until of operands that aren't tolerant, asked at each place only
  pub until_foreign : judged (rule (node True 0 0 ∷ node Atom 1 0 ∷ node Until 0 1 ∷ node Next 2 0 ∷ [])) R ≡ agreed yes no 46 42
  pub until_next_foreign : judged (rule_for 1 (node Atom 0 0 ∷ node Not 0 0 ∷ node Until 1 0 ∷ node Next 2 0 ∷ [])) R ≡ agreed yes no 47 43
  pub until_of_next : judged (rule_for 1 (node Atom 0 0 ∷ node Next 0 0 ∷ node Until 1 1 ∷ [])) R ≡ agreed no no 45 37
  pub until_fails_at_last : judged (rule (node True 0 0 ∷ node Prev 0 0 ∷ node Prev 1 0 ∷ node Not 2 0 ∷ node Not 0 0 ∷ node Until 3 4 ∷ [])) R ≡ agreed no no 55 42
  pub until_of_since : judged (rule_for 1 (node True 0 0 ∷ node Next 0 0 ∷ node Since 1 1 ∷ node Until 2 2 ∷ [])) R ≡ agreed yes yes 51 39
  pub until_of_until : judged (rule_for 1 (node Atom 0 0 ∷ node Until 0 0 ∷ node Not 1 0 ∷ node Until 1 2 ∷ [])) R ≡ agreed yes yes 48 35

operators : Operators
unfolding computed
operators = record {
  opening = refl;
  or_of_foreign = refl;
  or_of_own = refl;
  or_foreign_first = refl;
  or_foreign_second = refl;
  next_in_last_state = refl;
  prev_of_next = refl;
  prev_at_first = refl;
  since_of_next = refl;
  next_since_foreign = refl;
  since_of_until = refl;
  since_of_since = refl;
  until_at_once = refl;
  until_met = refl;
  until_met_next = refl;
  until_never = refl;
  until_not_held = refl;
  until_not_met = refl;
  until_foreign = refl;
  until_next_foreign = refl;
  until_of_next = refl;
  until_fails_at_last = refl;
  until_of_since = refl;
  until_of_until = refl;
}
