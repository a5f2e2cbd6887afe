-- What an accepted recording gives the pass, and what the pass gives of its local trace.
use mathlib.Core.Path.{◌≡◌, refl, ap, ◌∙◌}
use Prim.Native.Nat.{ℕ, ◌+◌, ◌-◌, ◌≤◌, ◌<◌}
use native.Mathlib.Omega.{arith}
use mathlib.Core.List.{List}
use lib.ListN.{length, length-take}
use Rattle.definitions.specs.Limits.{max_states}
use Rattle.definitions.specs.Recordings.{Recording, first_states, mask_of, runs_at, recording_refusal}
use Rattle.definitions.specs.Projection.{local_trace}
use Rattle.theorems.proofs.RecordingLaws.{Checked, checked}
use Rattle.theorems.proofs.LastMarks.{last_adds_none}
use Rattle.theorems.proofs.RunStates.{few_runs}
use Rattle.lent.specs.Space.{laid}
use Rattle.projection.specs.declared.pass.Pass.{Pass}
use Rattle.projection.specs.Passes.{Holds, Passed, Closed, Counted}
use Rattle.projection.specs.Places.{states_only, runs_in, places_in, Projectable, Countable}
use Rattle.projection.proofs.LengthLaws.{length_of}
use Rattle.projection.proofs.PassLaws.{sole, sole_mask}

module _ (N mask c : ℕ) (states entry : List ℕ) (held : Pass) (places : List ℕ) (H : Passed N mask c states entry held places) where
  abbrev R : Recording
  R = first_states N (sole mask c states)

  whole : Holds R c entry held places
  whole = H.holds (sole mask c states) refl (sole_mask mask c states)

  -- the local trace, of the parts of a recording that it depends on
  content : local_trace R c ≡ places_in N mask c states
  unfolding places_in
  content = ap (λ (m : ℕ). places_in N m c states) (sole_mask mask c states)

  runs_are : length (local_trace R c) ≡ length (runs_in N c states) + 1
  runs_are = ap length content ∙ length_of N c mask states

  -- `project_counted`, its answer: one more than the runs (`runs_in`)
  pub into_counted : (r : ℕ) → Counted held r → r ≡ length (runs_in N c states) + 1
  into_counted r f = f.long R c entry places whole ∙ runs_are

  -- `project_counted`, the lent places: the local trace (`places_in`) is laid over their start
  pub into_laid : (exit : List ℕ) → Closed held places exit → exit ≡ laid (places_in N mask c states) entry
  into_laid exit f = f.places R c entry whole ∙ ap (λ (l : List ℕ). laid l entry) content

pub ruleset counted_laws = (into_counted, into_laid)

-- ---- an accepted recording can be projected, and its places are its local trace
pub projectable : (R : Recording) (c : ℕ) (places : List ℕ) → recording_refusal R ≡ 0 → c < R.controllers → max_states ≤ length places →
    Projectable R.count c R.states places
projectable R c places h l room =
    let K : Checked R = checked R h in
    record {
      some_state = K.some_state;
      few_states = K.few_states;
      all_there = omega (arith, K.states, length-take R.count R.states);
      room = room;
      controller = omega (arith, K.few_controllers);
    }

pub countable : (R : Recording) (c : ℕ) → recording_refusal R ≡ 0 → c < R.controllers → Countable R.count c R.states
countable R c h l =
    let K : Checked R = checked R h in
    record {
      some_state = K.some_state;
      few_states = K.few_states;
      all_there = omega (arith, K.states, length-take R.count R.states);
      controller = omega (arith, K.few_controllers);
    }

pub local_places : (R : Recording) (c : ℕ) → places_in R.count (mask_of R c) c R.states ≡ local_trace R c
unfolding places_in
local_places R c = refl

-- an accepted recording has fewer runs of a controller than states
pub few_local : (N c : ℕ) (states places : List ℕ) → Projectable N c states places → length (runs_in N c states) < N
few_local N c states places P =
    rw (last_adds_none (states_only N states) c P.some_state) (omega (arith, few_runs (runs_at (states_only N states) c) (N - 1), P.some_state))
