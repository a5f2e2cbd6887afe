-- "Every beginning of an accepted recording, of one state or more and with N lowered, is then accepted itself" (document 02).
use mathlib.Core.Path.{◌≡◌, refl, sym, ap, ◌∙◌}
use Prim.Native.Nat.{ℕ, zero, suc, ◌+◌, ◌≤◌, ◌<◌}
use native.Mathlib.Omega.{arith}
use mathlib.Core.List.{List, [], ◌∷◌}
use lib.ListN.{length, take, length-take}
use lib.Seq.{take-take}
use borrow.Author.Tests.{le-ltb, le-leb}
use Rattle.definitions.specs.Limits.{max_controllers, max_states}
use Rattle.definitions.specs.Bounded.{pick}
use Rattle.definitions.specs.Recordings.{Recording, first_states, masks_of, states_of, state_refusal, recording_heading_refusal, masks_refusal, states_refusal, recording_lines_refusal, recording_refusal}
use Rattle.theorems.proofs.Choice.{or_else_none, none_or_else}
use Rattle.theorems.proofs.RecordingLaws.{Checked, checked}

-- S is a beginning of R: the same controllers and masks, and of the states the first ones
pub record Beginning (S R : Recording) : Type 0 where
  pub some : 0 < S.count
  pub few : S.count ≤ R.count
  pub controllers : S.controllers ≡ R.controllers
  pub masks : masks_of S ≡ masks_of R
  pub states : states_of S ≡ take S.count (states_of R)

states_beginning : (C : ℕ) (masks : List ℕ) (n k prior : ℕ) (ss : List ℕ) → states_refusal C masks k prior ss ≡ 0 → states_refusal C masks k prior (take n ss) ≡ 0
unfolding states_refusal
states_beginning C masks zero k prior ss h = refl
states_beginning C masks (suc n) k prior [] h = refl
states_beginning C masks (suc n) k prior (s ∷ ss) h =
    let both = or_else_none (state_refusal C masks k prior s) (states_refusal C masks (k + 1) s ss) h in
    none_or_else (state_refusal C masks k prior s) (states_refusal C masks (k + 1) s (take n ss)) both.0 (states_beginning C masks n (k + 1) s ss both.1)

-- a list from which n can be taken has so many
enough : (n : ℕ) (l : List ℕ) → length (take n l) ≡ n → n ≤ length l
enough n l h = omega (arith, length-take n l)

module _ (S R : Recording) (B : Beginning S R) (good : recording_refusal R ≡ 0) where
  K : Checked R
  K = checked R good

  heading_fine : recording_heading_refusal S.controllers S.count ≡ 0
  unfolding recording_heading_refusal pick
  heading_fine = rw (
    le-leb 1 S.controllers (omega (arith, K.some_controller, B.controllers)),
    le-leb S.controllers max_controllers (omega (arith, K.few_controllers, B.controllers)),
    le-leb 1 S.count (omega (arith, B.some)),
    le-leb S.count max_states (omega (arith, K.few_states, B.few)),
  )

  states_fine : states_refusal S.controllers (masks_of S) 0 0 (states_of S) ≡ 0
  states_fine = rw (B.masks, B.states, B.controllers) (states_beginning R.controllers (masks_of R) S.count 0 0 (states_of R) K.each_state)

  lines_fine : recording_lines_refusal S ≡ 0
  unfolding recording_lines_refusal pick
  lines_fine =
      let m : length (masks_of S) ≡ S.controllers = ap length B.masks ∙ (K.masks ∙ sym B.controllers) in
      let s : length (states_of S) ≡ S.count = ap length B.states ∙ omega (arith, length-take S.count (states_of R), K.states, B.few) in
      rw (
        le-ltb (length S.masks) S.controllers (enough S.controllers S.masks m),
        le-ltb (length S.states) S.count (enough S.count S.states s),
      )

  pub beginnings_accepted : recording_refusal S ≡ 0
  unfolding recording_refusal
  beginnings_accepted =
      none_or_else (recording_heading_refusal S.controllers S.count) _ heading_fine
      (none_or_else (masks_refusal [] (masks_of S)) _ (ap (masks_refusal []) B.masks ∙ K.each_mask)
      (none_or_else (states_refusal S.controllers (masks_of S) 0 0 (states_of S)) (recording_lines_refusal S) states_fine lines_fine))

pub first_beginning : (R : Recording) (n : ℕ) → 0 < n → n ≤ R.count → Beginning (first_states n R) R
first_beginning R n some few = record { some = some; few = few; controllers = refl; masks = refl; states = sym (take-take n R.count R.states few) }

-- "with N lowered"
pub first_states_accepted : (R : Recording) (n : ℕ) → recording_refusal R ≡ 0 → 0 < n → n ≤ R.count → recording_refusal (first_states n R) ≡ 0
first_states_accepted R n good some few = beginnings_accepted (first_states n R) R (first_beginning R n some few) good
