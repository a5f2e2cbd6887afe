-- Trials of document 02's projection while counting: "after each K of them it holds the local trace of that beginning, length and words".
use mathlib.Core.Path.{◌≡◌, refl}
use Prim.Native.Nat.{ℕ}
use mathlib.Core.List.{List, [], ◌∷◌}
use Rattle.definitions.specs.Recordings.{recording_of, recording_refusal, state_of}
use Rattle.definitions.specs.Projection.{local_trace}
use Rattle.definitions.proofs.Samples.{computed}

-- six states: controller 0 runs in three of them that follow each other, both controllers have a mark in the last one
abbrev states : List ℕ
states = state_of 1 2 ∷ state_of 3 3 ∷ state_of 1 2 ∷ state_of 2 3 ∷ state_of 1 1 ∷ state_of 3 0 ∷ []

-- the local trace of the first K of them
abbrev begun : (K c : ℕ) → List ℕ
begun K c = local_trace (recording_of 2 K (1 ∷ 2 ∷ []) states) c

pub record EachBeginning : Type 0 where
  pub accepted : recording_refusal (recording_of 2 6 (1 ∷ 2 ∷ []) states) ≡ 0
  -- a run that follows a run: the last place becomes its place, and a new one follows
  pub one : begun 1 0 ≡ 0 ∷ []
  pub two : begun 2 0 ≡ 2 ∷ 1 ∷ []
  pub three : begun 3 0 ≡ 2 ∷ 3 ∷ 0 ∷ []
  pub four : begun 4 0 ≡ 2 ∷ 3 ∷ 2 ∷ 1 ∷ []
  -- no run: the same places
  pub five : begun 5 0 ≡ 2 ∷ 3 ∷ 2 ∷ 1 ∷ []
  pub six : begun 6 0 ≡ 2 ∷ 3 ∷ 2 ∷ 1 ∷ 0 ∷ []
  -- the other controller, whose own atom is the other one
  pub other_one : begun 1 1 ≡ 2 ∷ []
  pub other_two : begun 2 1 ≡ 2 ∷ []
  pub other_three : begun 3 1 ≡ 3 ∷ 2 ∷ []
  pub other_four : begun 4 1 ≡ 3 ∷ 2 ∷ []
  pub other_five : begun 5 1 ≡ 3 ∷ 3 ∷ 0 ∷ []
  pub other_six : begun 6 1 ≡ 3 ∷ 3 ∷ 0 ∷ []

each_beginning : EachBeginning
unfolding computed
each_beginning = record {
  accepted = refl;
  one = refl;
  two = refl;
  three = refl;
  four = refl;
  five = refl;
  six = refl;
  other_one = refl;
  other_two = refl;
  other_three = refl;
  other_four = refl;
  other_five = refl;
  other_six = refl;
}
