-- Projection as an operation: a law for each return.
use Rattle.std.proofs.Common.{rules, ℕ, ◌+◌, ◌≤◌, ◌<◌, ◌≡◌, refl, sym, ◌∙◌, List, [], ◌∷◌, Ok, Err, length, get_or, arith, ltb, lt-ltb, le-ltb, ltb-true}
use Rattle.definitions.specs.Limits.{accepted, max_states, lent_short, no_controller}
use Rattle.definitions.specs.Bounded.{pick}
use Rattle.definitions.specs.Recordings.{Recording, recording_of, recording_refusal, controller_refusal}
use Rattle.definitions.specs.Projection.{local_trace}
use Rattle.definitions.specs.Operations.{project_number, project_answer, project_places}
use Rattle.theorems.proofs.Choice.{accept_yes, or_else_none}
use Rattle.lent.specs.Space.{laid, cleared}
use Rattle.lent.proofs.LeftLaws.{laid_past, laid_begins, left_untouched, left_zeroed, left_filled}
use Rattle.rules.specs.Refusals.{number_of}
use Rattle.rules.specs.declared.refusal.Refusal.{Refusal}
use Rattle.rules.specs.declared.refusal.Refusal.TheVariants.{LentShort}
use Rattle.rules.proofs.RefusalLaws.{number_some}
use Rattle.recordings.specs.Joining.{joined_refusal}
use Rattle.recordings.proofs.NumberLaws.{joined_below, refusal_alone}
use Rattle.recordings.proofs.WordLaws.{own_mask_lem}
use Rattle.projection.specs.Places.{runs_in, places_in, Projectable}
use Rattle.projection.specs.Answers.{ProjectIs}
use Rattle.projection.proofs.LengthLaws.{length_local}
use Rattle.projection.proofs.PlaceLaws.{projectable, local_places, few_local}

module _ (C N : ℕ) (masks states : List ℕ) (c : ℕ) (entry : List ℕ) where
  abbrev R : Recording
  R = recording_of C N masks states

  -- `project`, lent space is short: 13 alone, and what was lent
  pub project_short : length entry < max_states → ProjectIs R c entry (Err LentShort) entry
  unfolding project_answer project_places project_number pick
  project_short h =
      let short : project_number R c entry ≡ lent_short = unfold project_number pick in rw (lt-ltb (length entry) max_states h) in
      record { answered = refusal_alone LentShort _ _ (sym short); lent = left_untouched _ _ _ _ short }

  module _ (room : max_states ≤ length entry) where
    number_is : project_number R c entry ≡ joined_refusal R c
    unfolding project_number pick
    number_is = rw (le-ltb (length entry) max_states room)

    -- `project`, a refusal: its number alone, and zeros
    pub project_refused : (e : Refusal) → number_of e ≡ joined_refusal R c → (exit : List ℕ) → exit ≡ cleared entry 0 max_states → ProjectIs R c entry (Err e) exit
    unfolding project_answer project_places
    project_refused e r exit x =
        let number : number_of e ≡ project_number R c entry = r ∙ sym number_is in
        record {
          answered = refusal_alone e _ _ number;
          lent = left_zeroed _ _ _ entry entry exit refl (λ z. omega (arith, joined_below R c, number_is)) (λ z. number_some e (number ∙ z)) x;
        }

    module _ (none : accepted ≡ joined_refusal R c) where
      both : (recording_refusal R ≡ 0) × (controller_refusal C c ≡ 0)
      both = or_else_none (recording_refusal R) (controller_refusal C c) (sym none)

      below : c < C
      unfolding controller_refusal
      below = ltb-true c C (accept_yes (ltb c C) no_controller (omega arith) both.1)

      pub project_ready : Projectable N c states entry
      project_ready = projectable R c entry both.0 below room

      pub project_fits : (L : ℕ) → L ≡ length (runs_in N c states) + 1 → L ≤ max_states
      project_fits L le = omega (arith, few_local N c states entry project_ready, project_ready.few_states)

      module _ (m : ℕ) (me : m ≡ get_or masks c 0) (o' : List ℕ) (p : o' ≡ laid (places_in N m c states) entry)
          (L : ℕ) (le : L ≡ length (runs_in N c states) + 1) where
        places : L ≡ length (local_trace R c)
        places = length_local R c L le

        -- `project`, accepted: the local length, the local trace and zeros
        pub project_accepted : (exit : List ℕ) → exit ≡ cleared o' L max_states → ProjectIs R c entry (Ok L) exit
        unfolding project_answer project_places
        project_accepted exit x =
            let number : project_number R c entry ≡ accepted = number_is ∙ sym none in
            let content : places_in N m c states ≡ local_trace R c = rw (me, own_mask_lem R c below) (local_places R c) in
            let over : o' ≡ laid (local_trace R c) entry = rw (← content) p in
            record {
              answered = rw (number, places);
              lent = left_filled _ max_states (local_trace R c) entry o' exit (laid_past max_states (local_trace R c) entry o' (omega (arith, places, project_fits L le)) over)
                  L number (sym places) (laid_begins L (local_trace R c) entry o' (sym places) over) x;
            }

pub ruleset project_laws = (rules, project_short, project_ready, project_fits)
