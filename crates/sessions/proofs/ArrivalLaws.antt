-- An arrival (`check_controllers`, `check_arrival`, `arrive`): a law for each return.
use mathlib.Core.Path.{◌≡◌, sym, ◌∙◌}
use Prim.Native.Nat.{ℕ, ◌+◌, ◌-◌, ◌≤◌, ◌<◌}
use native.Mathlib.Omega.{arith}
use mathlib.Core.Bool.{◌&&◌}
use mathlib.Core.List.{List, []}
use lib.ListN.{length, take, get_or, set}
use lib.Dec.{leb}
use borrow.Author.Rules.{rules}
use borrow.Author.Tests.{le-leb, lt-leb, le-ltb, lt-ltb, leb-true, leb-false}
use mir.Val.{Fits}
use mir.Syntax.{w64}
use Rattle.definitions.specs.Limits.{max_controllers, max_states, recording_limits, lent_short, session_full, accepted}
use Rattle.definitions.specs.Bounded.{pick}
use Rattle.definitions.specs.Recordings.{state_refusal}
use Rattle.definitions.specs.Sessions.{Space, lent_space, controllers_refusal, arrival_refusal, arrive_number, Arrive, arrived}
use Rattle.theorems.proofs.Choice.{accept_yes, both_true, refuse_no}
use Rattle.rules.specs.Refusals.{number_of}
use Rattle.rules.specs.declared.refusal.Refusal.{Refusal}
use Rattle.rules.specs.declared.refusal.Refusal.TheVariants.{LentShort}
use Rattle.rules.proofs.RefusalLaws.{first_refusal, next_refusal}
use Rattle.recordings.proofs.CheckLaws.{state_own}
use Rattle.sessions.specs.Calls.{ArriveIs}
use Rattle.sessions.proofs.CallLaws.{refused_leaves, taken_leaves}

pub controllers_few : (C : ℕ) → accepted ≡ controllers_refusal C → C ≤ max_controllers
unfolding controllers_refusal
controllers_few C e = leb-true C max_controllers (both_true (leb 1 C) (leb C max_controllers) (accept_yes (leb 1 C && leb C max_controllers) recording_limits (omega arith) (sym e))).1

-- `check_arrival`, 128 states are held: `arrival_refusal` is 17
pub arrival_full_lem : (C : ℕ) (masks : List ℕ) (held : ℕ) (states : List ℕ) (s : ℕ) → max_states ≤ held → session_full ≡ arrival_refusal C masks held states s
unfolding arrival_refusal pick
arrival_full_lem C masks held states s h = rw (le-leb max_states held h)

module _ (C : ℕ) (masks : List ℕ) (held : ℕ) (states : List ℕ) (s : ℕ) (h : held < max_states) where
  -- `check_arrival`, C is outside its limits: its number is `arrival_refusal`
  pub arrival_limits : (k : Refusal) → number_of k ≡ controllers_refusal C → number_of k ≡ arrival_refusal C masks held states s
  unfolding arrival_refusal pick
  arrival_limits k e = rw (lt-leb max_states held h) (first_refusal k (controllers_refusal C) (state_refusal C (take C masks) held (get_or states (held - 1) 0) s) e)

  -- `check_arrival`: the state's number against the last one is `arrival_refusal`
  pub arrival_is : (i r : ℕ) → accepted ≡ controllers_refusal C → i ≡ held - 1 → r ≡ state_refusal C masks held (get_or states i 0) s → r ≡ arrival_refusal C masks held states s
  unfolding arrival_refusal pick
  arrival_is i r z j e =
      let own : r ≡ state_refusal C (take C masks) held (get_or states (held - 1) 0) s = e ∙ (rw j (state_own C masks held (get_or states (held - 1) 0) s)) in
      rw (lt-leb max_states held h) (next_refusal (controllers_refusal C) (state_refusal C (take C masks) held (get_or states (held - 1) 0) s) r z own)

pub ruleset check_laws = (rules, controllers_few, arrival_full_lem, arrival_limits, arrival_is)

module _ (s : ℕ) (heading masks states : List ℕ) where
  abbrev h : Space
  h = lent_space heading masks [] states

  refused : (k : Refusal) → number_of k ≡ arrive_number s h → ArriveIs s heading masks states (number_of k) heading states
  refused k e = record { answered = e; left = refused_leaves (Arrive s) h k e }

  -- `arrive`, the states are short: 13
  pub arrive_short : length states < max_states → ArriveIs s heading masks states lent_short heading states
  unfolding arrive_number pick
  arrive_short l = refused LentShort (rw (lt-ltb (length states) max_states l))

  module _ (b : max_states ≤ length states) where
    number_is : arrive_number s h ≡ arrival_refusal (get_or heading 0 0) masks (get_or heading 3 0) states s
    unfolding arrive_number pick
    number_is = rw (le-ltb (length states) max_states b)

    -- `arrive`, refused: `leaves` changes nothing
    pub arrive_refused : (k : Refusal) → number_of k ≡ arrival_refusal (get_or heading 0 0) masks (get_or heading 3 0) states s → ArriveIs s heading masks states (number_of k) heading states
    arrive_refused k e = refused k (e ∙ sym number_is)

    module _ (e : accepted ≡ arrival_refusal (get_or heading 0 0) masks (get_or heading 3 0) states s) where
      pub arrive_room : get_or heading 3 0 < max_states
      unfolding arrival_refusal
      arrive_room = leb-false max_states (get_or heading 3 0) (refuse_no (leb max_states (get_or heading 3 0)) session_full _ (omega arith) (sym e)).0

      pub arrive_fits : Fits w64 (get_or heading 3 0 + 1)
      arrive_fits = omega (arith, arrive_room)

      pub arrive_in : get_or heading 3 0 < length states
      arrive_in = omega (arith, arrive_room)

      -- `arrive`, taken: the state after the last one, and one more is held, as `arrived` says
      pub arrive_taken : ArriveIs s heading masks states accepted (set heading 3 (get_or heading 3 0 + 1)) (set states (get_or heading 3 0) s)
      unfolding arrived
      arrive_taken = let taken : accepted ≡ arrive_number s h = e ∙ sym number_is in record { answered = taken; left = taken_leaves (Arrive s) h taken }

pub ruleset arrive_laws = (rules, arrive_short, arrive_refused, arrive_in, arrive_fits, arrive_taken)
