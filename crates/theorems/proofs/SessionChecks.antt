-- The checks of a session: an opening is checked as judging checks its masks and rule, and an arrival as the recording with it.
use mathlib.Core.Path.{◌≡◌, refl, sym, ◌∙◌}
use Prim.Native.Nat.{ℕ, suc, ◌+◌, ◌-◌, ◌≤◌, ◌<◌, ◌^◌}
use native.Mathlib.Omega.{arith}
use native.Mathlib.Decide.{dec_lt}
use mathlib.Core.Bool.{false, and-true, or-false}
use mathlib.Core.List.{List, [], ◌∷◌, ◌++◌}
use lib.ListN.{length, take, get_or, length-append, length-map}
use lib.Seq.{take-length, length-take-le}
use lib.Pow.{pow_pos}
use lib.Dec.{ltb}
use borrow.Author.Tests.{le-ltb, le-leb, lt-leb, ltb-true}
use Rattle.definitions.specs.Limits.{max_controllers, max_states, max_rule_nodes, no_controller, accepted}
use Rattle.definitions.specs.Bounded.{pick, or_else, within}
use Rattle.definitions.specs.Nodes.{node_of}
use Rattle.definitions.specs.Tables.{Rule, rule_refusal}
use Rattle.definitions.specs.Recordings.{Recording, recording_of, state_refusal, recording_heading_refusal, masks_refusal, states_refusal, recording_lines_refusal, recording_refusal, controller_refusal}
use Rattle.definitions.specs.Operations.{judge_local_number}
use Rattle.definitions.specs.Sessions.{Held, recording_held, controllers_refusal, open_masks_refusal, open_refusal, replacement_refusal, rule_read, opened, with_rule, one_more, one_less, Sound}
use Rattle.theorems.proofs.Choice.{accept_yes, or_else_none, or_else_accepted, or_else_assoc}
use Rattle.theorems.proofs.Inversions.{first_accepted}
use Rattle.theorems.proofs.RuleNodes.{rule_few, rule_length_lem}
use Rattle.theorems.proofs.RecordingLaws.{Checked, checked}
use Rattle.theorems.proofs.Beginnings.{Beginning, beginnings_accepted}
use Rattle.theorems.proofs.ScheduleIndependence.{Accepted, local_accepted}
use Rattle.theorems.proofs.RoundTrips.{nodes_past_lem}

-- ---- the opening

-- a recording of these masks whose only state is zero
abbrev pub one_state : (C : ℕ) (masks : List ℕ) → Recording
one_state C masks = recording_of C 1 masks (0 ∷ [])

one_heading : (C : ℕ) → recording_heading_refusal C 1 ≡ controllers_refusal C
unfolding recording_heading_refusal controllers_refusal
one_heading C = rw (and-true (within 1 max_controllers C))

zero_state : (C : ℕ) (masks : List ℕ) → states_refusal C masks 0 0 (0 ∷ []) ≡ 0
unfolding states_refusal state_refusal or_else pick
zero_state C masks = rw (lt-leb (2 ^ C) 0 (pow_pos C))

one_lines : (C : ℕ) (masks : List ℕ) → recording_lines_refusal (one_state C masks) ≡ pick (ltb (length masks) C) 8 accepted
unfolding recording_lines_refusal
one_lines C masks = rw (or-false (ltb (length masks) C))

one_state_lem : (C : ℕ) (masks : List ℕ) → recording_refusal (one_state C masks) ≡ or_else (controllers_refusal C) (open_masks_refusal C masks)
unfolding recording_refusal open_masks_refusal
one_state_lem C masks =
    rw (one_heading C, zero_state C (take C masks), one_lines C masks, first_accepted 0 (pick (ltb (length masks) C) 8 accepted) refl)

-- "checked as document 01 checks them": as in judging the rule on a recording of these masks whose only state is zero
pub open_as_judged : (C : ℕ) (masks : List ℕ) (r : Rule) → open_refusal C masks r ≡ judge_local_number r (one_state C masks)
unfolding open_refusal judge_local_number
open_as_judged C masks r =
    rw (one_state_lem C masks, or_else_assoc (controllers_refusal C) (open_masks_refusal C masks) (controller_refusal C r.controller))

below_count : (C c : ℕ) → controller_refusal C c ≡ 0 → c < C
unfolding controller_refusal
below_count C c h = ltb-true c C (accept_yes (ltb c C) no_controller (omega arith) h)

pub open_accepts : (C : ℕ) (masks : List ℕ) (r : Rule) → open_refusal C masks r ≡ 0 → Accepted r (one_state C masks)
unfolding judge_local_number
open_accepts C masks r e =
    let R = one_state C masks in
    let (rule, more) = or_else_none (rule_refusal r) (or_else (recording_refusal R) (controller_refusal C r.controller)) (sym (open_as_judged C masks r) ∙ e) in
    let (recording, controller) = or_else_none (recording_refusal R) (controller_refusal C r.controller) more in
    record { rule = rule; recording = recording; controller = below_count C r.controller controller }

-- ---- the rule as it is held

pub rule_read_lem : (r : Rule) → rule_refusal (rule_read r) ≡ rule_refusal r
unfolding rule_refusal
rule_read_lem r = rw (nodes_past_lem false 0 r.count r.nodes)

rule_there_lem : (r : Rule) → rule_refusal r ≡ 0 → length (take r.count r.nodes) ≡ r.count
rule_there_lem r h = sym (length-map (take r.count r.nodes) node_of) ∙ rule_length_lem r h

-- ---- what may be held
module _ (a : Held) (k : Sound a) where
  opens : Accepted a.rule (one_state (length a.masks) a.masks)
  opens = open_accepts (length a.masks) a.masks a.rule k.opens

  masks_checked : Checked (one_state (length a.masks) a.masks)
  masks_checked = checked (one_state (length a.masks) a.masks) opens.recording

  pub held_rule : rule_refusal a.rule ≡ 0
  held_rule = opens.rule

  pub held_controller : a.rule.controller < length a.masks
  held_controller = opens.controller

  pub some_masks : 1 ≤ length a.masks
  some_masks = masks_checked.some_controller

  pub few_masks : length a.masks ≤ max_controllers
  few_masks = masks_checked.few_controllers

  pub few_nodes : length a.rule.nodes ≤ max_rule_nodes
  few_nodes = omega (arith, k.nodes, rule_few a.rule held_rule)

  pub held_masks : masks_refusal [] a.masks ≡ 0
  held_masks = rw (take-length a.masks) at masks_checked.each_mask

  pub held_limits : controllers_refusal (length a.masks) ≡ 0
  unfolding controllers_refusal pick
  held_limits = rw (le-leb 1 (length a.masks) some_masks, le-leb (length a.masks) max_controllers few_masks)

  pub few_states_lem : length a.states ≤ max_states
  few_states_lem = go (dec_lt 0 (length a.states))
    where
      go : Dec (0 < length a.states) → length a.states ≤ max_states
      go (yes p) = (checked (recording_held a) (k.states p)).few_states
      go (no p) = omega arith

-- the states are accepted, also where there is none
no_states : (C : ℕ) (masks ss : List ℕ) → (0 < length ss → states_refusal C masks 0 0 ss ≡ 0) → states_refusal C masks 0 0 ss ≡ 0
unfolding states_refusal
no_states C masks [] f = refl
no_states C masks (s ∷ ss) f = f (omega arith)

held_states : (a : Held) → Sound a → states_refusal (length a.masks) a.masks 0 0 a.states ≡ 0
held_states a k =
    no_states (length a.masks) a.masks a.states
    (λ p. rw (take-length a.masks, take-length a.states) at (checked (recording_held a) (k.states p)).each_state)

-- ---- one state more

-- the states, then one more: what they are refused with, then what it is refused with against the last of them
states_more : (C : ℕ) (masks : List ℕ) (k prior : ℕ) (ss : List ℕ) (s : ℕ) →
    states_refusal C masks k prior (ss ++ (s ∷ [])) ≡ or_else (states_refusal C masks k prior ss) (state_refusal C masks (k + length ss) (get_or (prior ∷ ss) (length ss) 0) s)
unfolding states_refusal
states_more C masks k prior [] s =
    let e : k + 0 ≡ k = omega arith in
    rw e (or_else_accepted (state_refusal C masks k prior s) ∙ sym (first_accepted accepted (state_refusal C masks k prior s) refl))
states_more C masks k prior (x ∷ ss) s =
    let e : (k + 1) + length ss ≡ k + suc (length ss) = omega arith in
    rw (states_more C masks (k + 1) x ss s, e)
    (sym (or_else_assoc (state_refusal C masks k prior x) (states_refusal C masks (k + 1) x ss) (state_refusal C masks (k + suc (length ss)) (get_or (x ∷ ss) (length ss) 0) s)))

-- the first state is refused by itself alone
pub first_state : (C : ℕ) (masks : List ℕ) (p q s : ℕ) → state_refusal C masks 0 p s ≡ state_refusal C masks 0 q s
unfolding state_refusal
first_state C masks p q s = refl

last_state_lem : (C : ℕ) (masks ss : List ℕ) (s : ℕ) →
    state_refusal C masks (length ss) (get_or (0 ∷ ss) (length ss) 0) s ≡ state_refusal C masks (length ss) (get_or ss (length ss - 1) 0) s
last_state_lem C masks [] s = refl
last_state_lem C masks (x ∷ ss) s = let e : suc (length ss) - 1 ≡ length ss = omega arith in rw e

state_more : (C : ℕ) (masks ss : List ℕ) (s : ℕ) → states_refusal C masks 0 0 ss ≡ 0 →
    states_refusal C masks 0 0 (ss ++ (s ∷ [])) ≡ state_refusal C masks (length ss) (get_or ss (length ss - 1) 0) s
state_more C masks ss s h =
    let e : 0 + length ss ≡ length ss = omega arith in
    let m = states_more C masks 0 0 ss s in
    (rw e at m) ∙ (first_accepted (states_refusal C masks 0 0 ss) (state_refusal C masks (length ss) (get_or (0 ∷ ss) (length ss) 0) s) h ∙ last_state_lem C masks ss s)

heading_accepted : (C N : ℕ) → 1 ≤ C → C ≤ max_controllers → 1 ≤ N → N ≤ max_states → recording_heading_refusal C N ≡ 0
unfolding recording_heading_refusal pick
heading_accepted C N a b c d = rw (le-leb 1 C a, le-leb C max_controllers b, le-leb 1 N c, le-leb N max_states d)

lines_accepted : (a : Held) → recording_lines_refusal (recording_held a) ≡ 0
unfolding recording_lines_refusal pick
lines_accepted a = rw (le-ltb (length a.masks) (length a.masks) (omega arith), le-ltb (length a.states) (length a.states) (omega arith))

-- the recording with one state more is refused as that state is against the last one
pub recording_more : (a : Held) (s : ℕ) → Sound a → length a.states < max_states →
    recording_refusal (recording_held (one_more s a))
    ≡ state_refusal (length a.masks) a.masks (length a.states) (get_or a.states (length a.states - 1) 0) s
unfolding recording_refusal
recording_more a s k l =
    let ss : List ℕ = a.states ++ (s ∷ []) in
    let n : length ss ≡ length a.states + 1 = length-append a.states (s ∷ []) in
    let C : ℕ = length a.masks in
    rw (take-length a.masks, take-length ss, lines_accepted (one_more s a), or_else_accepted (states_refusal C a.masks 0 0 ss))
    (first_accepted (recording_heading_refusal C (length ss)) (or_else (masks_refusal [] a.masks) (states_refusal C a.masks 0 0 ss))
    (heading_accepted C (length ss) (some_masks a k) (few_masks a k) (omega arith) (omega arith))
    ∙ (first_accepted (masks_refusal [] a.masks) (states_refusal C a.masks 0 0 ss) (held_masks a k) ∙ state_more C a.masks a.states s (held_states a k)))

-- ---- what is held stays such

-- what an accepted opening leaves
pub opened_sound : (C : ℕ) (masks : List ℕ) (r : Rule) → open_refusal C masks r ≡ 0 → Sound (opened C masks r)
opened_sound C masks r e =
    let A = open_accepts C masks r e in
    let n : length (take C masks) ≡ C = (checked (one_state C masks) A.recording).masks in
    let S : Recording = one_state (length (take C masks)) (take C masks) in
    let B : Beginning S (one_state C masks) = record { some = omega arith; few = omega arith; controllers = n; masks = take-length (take C masks); states = refl } in
    record {
      opens = open_as_judged (length (take C masks)) (take C masks) (rule_read r)
          ∙ local_accepted (rule_read r) S (record { rule = rule_read_lem r ∙ A.rule; recording = beginnings_accepted S (one_state C masks) B A.recording; controller = rw n A.controller });
      nodes = rule_there_lem r A.rule;
      states = λ p. absurd (omega arith);
    }

-- a new rule
pub replaced_sound : (r : Rule) (a : Held) → Sound a → replacement_refusal (length a.masks) r ≡ 0 → Sound (with_rule a (rule_read r))
unfolding replacement_refusal
replaced_sound r a k e =
    let C : ℕ = length a.masks in
    let (rule, below) = or_else_none (rule_refusal r) (controller_refusal C r.controller) e in
    record {
      opens = open_as_judged C a.masks (rule_read r)
          ∙ local_accepted (rule_read r) (one_state C a.masks) (record { rule = rule_read_lem r ∙ rule; recording = (opens a k).recording; controller = below_count C r.controller below });
      nodes = rule_there_lem r rule;
      states = k.states;
    }

-- and then a session opens on it and the masks that are held
pub replacement_opens : (r : Rule) (a : Held) → Sound a → replacement_refusal (length a.masks) r ≡ 0 → open_refusal (length a.masks) a.masks r ≡ 0
unfolding replacement_refusal
replacement_opens r a k e =
    let C : ℕ = length a.masks in
    let (rule, below) = or_else_none (rule_refusal r) (controller_refusal C r.controller) e in
    open_as_judged C a.masks r
    ∙ local_accepted r (one_state C a.masks) (record { rule = rule; recording = (opens a k).recording; controller = below_count C r.controller below })

pub length_less : (ss : List ℕ) → length (take (length ss - 1) ss) ≡ length ss - 1
length_less ss = length-take-le (length ss - 1) ss (omega arith)

-- a beginning of what is held
less_beginning : (a : Held) → 0 < length (one_less a).states → Beginning (recording_held (one_less a)) (recording_held a)
less_beginning a p =
    let n = length_less a.states in
    record {
      some = p;
      few = omega (arith, n);
      controllers = refl;
      masks = refl;
      states = rw (take-length a.states, take-length (take (length a.states - 1) a.states), n);
    }

-- a withdrawal
pub less_sound : (a : Held) → Sound a → Sound (one_less a)
less_sound a k = record {
  opens = k.opens;
  nodes = k.nodes;
  states = λ p. beginnings_accepted (recording_held (one_less a)) (recording_held a) (less_beginning a p) (k.states (omega (arith, length_less a.states)));
}
