-- Trials of shorter rules about the past: for each number, edge and trap of the request. In R and Z atom 0 is own and atom 1 foreign, for controller 0.
use mathlib.Core.Path.{◌≡◌, refl}
use mathlib.Core.Bool.{false}
use mathlib.Core.List.{List, [], ◌∷◌}
use Rattle.definitions.specs.Nodes.{True, Atom, Not, Or, Next, Until, Prev, Since, Node, node}
use Rattle.definitions.specs.Readings.{whole, verdicts}
use Rattle.definitions.specs.Rewriting.{rewriting}
use Rattle.definitions.specs.Operations.{verdict_values}
use Rattle.definitions.proofs.Samples.{computed, R, Z, rule_for, rule, yes, no, judged, agreed}

-- "Prev becomes tolerant, with its present image": no closing, also of a foreign atom, and a short next over it
abbrev prev_of_foreign : List Node
prev_of_foreign = node Atom 1 0 ∷ node Prev 0 0 ∷ []

abbrev next_of_prev : List Node
next_of_prev = node True 0 0 ∷ node Prev 0 0 ∷ node Next 1 0 ∷ []

-- "Since of two tolerant operands becomes tolerant, with image since a b for each reading (2 nodes)": two nodes also where w and s are the same
abbrev since_of_own : List Node
since_of_own = node Atom 0 0 ∷ node Since 0 0 ∷ []

-- "Other sinces stay as they were": one operand is foreign, the first or the second
abbrev since_foreign_first : List Node
since_foreign_first = node Atom 0 0 ∷ node Atom 1 0 ∷ node Since 1 0 ∷ []

abbrev since_foreign_second : List Node
since_foreign_second = node Atom 0 0 ∷ node Atom 1 0 ∷ node Since 0 1 ∷ []

abbrev held_own : List Node
held_own = node Atom 1 0 ∷ node Since 0 0 ∷ []

pub record Past : Type 0 where
  pub prev_foreign_r : judged (rule prev_of_foreign) R ≡ agreed no no 34 26
  pub prev_foreign_z : judged (rule prev_of_foreign) Z ≡ agreed no no 34 26
  pub next_prev_r : judged (rule next_of_prev) R ≡ agreed yes yes 40 36
  pub next_prev_z : judged (rule next_of_prev) Z ≡ agreed yes no 40 36
  pub since_own_r : judged (rule since_of_own) R ≡ agreed no no 30 14
  pub since_own_z : judged (rule since_of_own) Z ≡ agreed no no 30 14
  pub foreign_first_r : judged (rule since_foreign_first) R ≡ agreed no no 35 35
  pub foreign_first_z : judged (rule since_foreign_first) Z ≡ agreed no no 35 35
  pub foreign_second_r : judged (rule since_foreign_second) R ≡ agreed yes yes 35 35
  pub foreign_second_z : judged (rule since_foreign_second) Z ≡ agreed yes no 35 35
  -- such a since isn't tolerant: a next and a since over it are plain. In state 1 its image is yes, at the next place no
  pub next_of_foreign : judged (rule (node Atom 1 0 ∷ node Since 0 0 ∷ node Next 1 0 ∷ [])) R ≡ agreed no no 44 44
  pub next_of_other : judged (rule (node Atom 0 0 ∷ node Atom 1 0 ∷ node Since 0 1 ∷ node Next 2 0 ∷ [])) R ≡ agreed yes yes 45 45
  pub since_of_other : judged (rule (node Atom 0 0 ∷ node Atom 1 0 ∷ node Since 1 0 ∷ node Since 2 0 ∷ [])) R ≡ agreed no no 45 45
  -- what is newly tolerant counts for or, not, next, until and since, and for the missing closing
  pub or_of_prev : judged (rule (node Atom 1 0 ∷ node Prev 0 0 ∷ node Atom 0 0 ∷ node Or 1 2 ∷ [])) R ≡ agreed no no 37 29
  pub since_of_prev : judged (rule (node Atom 0 0 ∷ node Prev 0 0 ∷ node Not 1 0 ∷ node Since 0 2 ∷ node Next 3 0 ∷ [])) R ≡ agreed yes yes 52 40
  pub until_of_past : judged (rule (node Atom 1 0 ∷ node Prev 0 0 ∷ node Not 1 0 ∷ node Since 1 2 ∷ node Until 3 1 ∷ [])) R ≡ agreed yes yes 57 36
  -- prev keeps its image: with an idle state before the second place, the neighbouring recorded state has what the first place hasn't
  pub until_of_prev : judged (rule (node Atom 0 0 ∷ node Prev 0 0 ∷ node Atom 1 0 ∷ node Until 2 1 ∷ [])) R ≡ agreed no no 46 38
  -- in state 0, before the first step of controller 1, the short image of a since is right as it stands; the plain one, nodes 16 and 21, is not
  pub since_before_first : judged (rule_for 1 held_own) R ≡ agreed yes yes 30 14
  pub plain_before_first : verdict_values (verdicts (whole R 1) (rewriting false 2 held_own).nodes 16 21) ≡ no ∷ no ∷ []
  -- prev and since below two nexts: the first next is short, the second and the closing are plain
  pub past_below_next : judged (rule (
      node Atom 0 0 ∷ node Prev 0 0 ∷ node Prev 1 0 ∷ node Not 2 0 ∷ node Since 1 3 ∷ node Next 4 0 ∷ node Next 5 0 ∷ [])) R ≡ agreed yes yes 72 60

past : Past
unfolding computed
past = record {
  prev_foreign_r = refl;
  prev_foreign_z = refl;
  next_prev_r = refl;
  next_prev_z = refl;
  since_own_r = refl;
  since_own_z = refl;
  foreign_first_r = refl;
  foreign_first_z = refl;
  foreign_second_r = refl;
  foreign_second_z = refl;
  next_of_foreign = refl;
  next_of_other = refl;
  since_of_other = refl;
  or_of_prev = refl;
  since_of_prev = refl;
  until_of_past = refl;
  until_of_prev = refl;
  since_before_first = refl;
  plain_before_first = refl;
  past_below_next = refl;
}
