-- One law for each return and each turn of the functions of the check, over plain variables.
use Rattle.std.proofs.Common.{ℕ, ◌+◌, ◌-◌, ◌^◌, ◌≤◌, ◌<◌, ◌≡◌, refl, sym, ◌∙◌, Bool, true, false, not, ◌&&◌, List, [], ◌∷◌, length, take, drop, get_or, get_or-take, drop_of_length-le, drop-cons, add-one, arith, eqb, ltb, leb, lt-ltb, le-ltb, leb-true, le-leb}
use Rattle.std.specs.Int.Bits.{bit_and}
use Rattle.std.proofs.lemmas.Bool.{lt-leb}
use native.Mathlib.Decide.{dec_lt}
use Rattle.definitions.specs.Limits.{max_controllers, max_states, recording_limits, output_rule, accepted}
use Rattle.definitions.specs.Bounded.{pick, within, or_else}
use Rattle.definitions.specs.Recordings.{state_of, atoms_of, marks_of, marked, output_broken, state_refusal, recording_heading_refusal, states_refusal}
use Rattle.theorems.proofs.Choice.{accept_yes, both_true}
use Rattle.theorems.proofs.Recursions.{some_cong}
use Rattle.rules.specs.Refusals.{number_of}
use Rattle.rules.specs.declared.refusal.Refusal.{Refusal}
use Rattle.rules.proofs.RefusalLaws.{refusals, first_refusal, next_refusal}
use Rattle.recordings.specs.Turns.{step_refusal}
use Rattle.recordings.specs.Held.{TablesOf, held_at, held_changed}
use Rattle.recordings.specs.declared.held.Tables.{Tables}
use Rattle.recordings.proofs.HeldLaws.{held_broken}

-- ---- choice by a test
pub pick_not : (a : Bool) (x y : ℕ) → pick (not a) x y ≡ pick a y x
unfolding pick
pick_not true x y = refl
pick_not false x y = refl

-- ---- heading
-- `check_recording`, the heading is accepted: C is within its limit
pub heading_few : (C N : ℕ) → accepted ≡ recording_heading_refusal C N → C ≤ max_controllers
unfolding recording_heading_refusal
heading_few C N z =
    let limits = accept_yes (within 1 max_controllers C && within 1 max_states N) recording_limits (omega arith) (sym z) in
    leb-true C max_controllers (both_true (leb 1 C) (leb C max_controllers) (both_true (within 1 max_controllers C) (within 1 max_states N) limits).0).1

-- ---- one state
-- a word below the limit has its run marks below 2 ^ C
state_step : (C : ℕ) (masks : List ℕ) (k prior s : ℕ) →
    state_refusal C masks k prior s ≡ step_refusal (state_of (2 ^ C) 0) s (ltb 0 k && output_broken C masks prior s)
unfolding state_refusal step_refusal or_else pick
state_step C masks k prior s = go (dec_lt (marks_of s) (2 ^ C)) (ltb 0 k && output_broken C masks prior s)
  where
    go : Dec (marks_of s < 2 ^ C) → (broken : Bool) → pick (leb (2 ^ C) (marks_of s)) recording_limits (pick broken output_rule accepted) ≡ or_else (pick (ltb s (state_of (2 ^ C) 0)) accepted recording_limits) (pick (not broken) accepted output_rule)
    go (yes h) broken = rw (lt-leb (2 ^ C) (marks_of s) h, lt-ltb s (state_of (2 ^ C) 0) (omega arith)) (sym (pick_not broken accepted output_rule))
    go (no h) broken = rw (le-leb (2 ^ C) (marks_of s) (omega arith), le-ltb s (state_of (2 ^ C) 0) (omega arith))

-- `check_state`: the step of state k, by its limit and the output rule, is `state_refusal`
pub state_is : (C : ℕ) (masks : List ℕ) (k prior s limit r : ℕ) (broken : Bool) → limit ≡ state_of (2 ^ C) 0 → broken ≡ output_broken C masks prior s →
    r ≡ step_refusal limit s (ltb 0 k && broken) → r ≡ state_refusal C masks k prior s
state_is C masks k prior s limit r broken l b e = e ∙ (rw (b, l) (sym (state_step C masks k prior s)))

-- ---- states
-- what is left to check at state k of these, and the output rule by the atoms that the prior state holds
pub record StatesLeft (C : ℕ) (masks ss : List ℕ) (prior held k : ℕ) : Type 0 where
  pub left : states_refusal C masks 0 0 ss ≡ states_refusal C masks k prior (drop k ss)
  pub rule : (s : ℕ) → held_changed held prior s ≡ (ltb 0 k && output_broken C masks prior s)

-- `check_states`, before state 0: all of `states_refusal` is left, and nothing is held
pub states_start : (C : ℕ) (masks ss : List ℕ) → StatesLeft C masks ss 0 0 0
unfolding held_changed
states_start C masks ss = record { left = refl; rule = λ s. refl }

module _ (C : ℕ) (masks ss : List ℕ) (prior held k : ℕ) (inv : StatesLeft C masks ss prior held k) where
  -- `check_states`, no state is left: `states_refusal` is 0
  pub states_end : length ss ≤ k → accepted ≡ states_refusal C masks 0 0 ss
  unfolding states_refusal
  states_end h = sym (inv.left ∙ rw (drop_of_length-le ss h))

  module _ (h : k < length ss) (limit : ℕ) (changed : Bool) (l : limit ≡ state_of (2 ^ C) 0) (d : changed ≡ held_changed held prior (get_or ss k 0)) where
    one_left : states_refusal C masks 0 0 ss ≡ or_else (step_refusal limit (get_or ss k 0) changed) (states_refusal C masks (k + 1) (get_or ss k 0) (drop (k + 1) ss))
    unfolding states_refusal
    one_left = inv.left ∙ rw (drop-cons ss k 0 h, add-one k, state_step C masks k prior (get_or ss k 0), d, inv.rule (get_or ss k 0), l)

    -- `check_states`, state k is refused: its number is `states_refusal`
    pub states_refused : (e : Refusal) → number_of e ≡ step_refusal limit (get_or ss k 0) changed → number_of e ≡ states_refusal C masks 0 0 ss
    states_refused e r = first_refusal e _ _ r ∙ sym one_left

    -- `check_states`, state k is accepted: `states_refusal` is left from the next on, with what state k holds
    pub states_next : accepted ≡ step_refusal limit (get_or ss k 0) changed → C ≤ max_controllers → (t : Tables) → TablesOf (take C masks) t →
        (marks held' : ℕ) → marks ≡ marks_of (get_or ss k 0) → held' ≡ held_at C t marks → StatesLeft C masks ss (get_or ss k 0) held' (k + 1)
    states_next a few t of marks held' m e =
        record {
          left = one_left ∙ sym (next_refusal _ _ _ a refl);
          rule = λ s. rw (lt-ltb 0 (k + 1) (omega arith)) (held_broken C masks (get_or ss k 0) s few t of marks held' m e);
        }

-- ---- the output rule depends on the masks of the controllers only
output_own : (C : ℕ) (masks : List ℕ) (prior s : ℕ) → output_broken C masks prior s ≡ output_broken C (take C masks) prior s
output_own C masks prior s =
    some_cong
    (λ (c : ℕ). not (marked c prior) && not (eqb (bit_and (atoms_of prior) (get_or masks c 0)) (bit_and (atoms_of s) (get_or masks c 0))))
    (λ (c : ℕ). not (marked c prior) && not (eqb (bit_and (atoms_of prior) (get_or (take C masks) c 0)) (bit_and (atoms_of s) (get_or (take C masks) c 0))))
    (C - 0) 0 (λ c a b. rw (get_or-take C masks c 0 (omega arith)))

pub state_own : (C : ℕ) (masks : List ℕ) (k prior s : ℕ) → state_refusal C masks k prior s ≡ state_refusal C (take C masks) k prior s
state_own C masks k prior s = cc (state_step C masks k prior s, state_step C (take C masks) k prior s, output_own C masks prior s)

pub states_own : (C : ℕ) (masks : List ℕ) (k prior : ℕ) (ss : List ℕ) → states_refusal C masks k prior ss ≡ states_refusal C (take C masks) k prior ss
unfolding states_refusal
states_own C masks k prior [] = refl
states_own C masks k prior (s ∷ ss) = rw (state_own C masks k prior s, states_own C masks (k + 1) s ss)

pub ruleset state_laws = (refusals, state_is, states_start, states_end, states_refused, states_next)

pub ruleset recording_laws = (refusals, heading_few, states_own, pick_not)
