-- A withdrawal (`withdraw`): a law for each return.
use mathlib.Core.Path.{◌≡◌}
use Prim.Native.Nat.{ℕ, ◌-◌, ◌≤◌, ◌<◌}
use mathlib.Core.Bool.{false}
use mathlib.Core.List.{List, []}
use lib.ListN.{length, get_or, set}
use lib.Dec.{ltb}
use borrow.Author.Rules.{rules}
use borrow.Author.Tests.{lt-ltb, le-ltb, ne_eqb}
use Rattle.definitions.specs.Limits.{max_states, lent_short, recording_limits, session_empty, accepted}
use Rattle.definitions.specs.Bounded.{pick}
use Rattle.definitions.specs.Sessions.{Space, lent_space, withdrawal_refusal, withdraw_number, Withdraw, withdrawn}
use Rattle.rules.specs.Refusals.{number_of}
use Rattle.rules.specs.declared.refusal.Refusal.{Refusal}
use Rattle.rules.specs.declared.refusal.Refusal.TheVariants.{LentShort, SessionEmpty, RecordingLimits}
use Rattle.sessions.specs.Calls.{WithdrawIs}
use Rattle.sessions.proofs.CallLaws.{refused_leaves, taken_leaves}

module _ (heading states : List ℕ) where
  abbrev h : Space
  h = lent_space heading [] [] states

  refused : (k : Refusal) → number_of k ≡ withdraw_number h → WithdrawIs heading states (number_of k) heading states
  refused k e = record { answered = e; left = refused_leaves Withdraw h k e }

  -- `withdraw`, the states are short: 13
  pub withdraw_short : length states < max_states → WithdrawIs heading states lent_short heading states
  unfolding withdraw_number pick
  withdraw_short l = refused LentShort (rw (lt-ltb (length states) max_states l))

  module _ (b : max_states ≤ length states) where
    t : ltb (length states) max_states ≡ false
    t = le-ltb (length states) max_states b

    -- none is held: 18
    pub withdraw_none : get_or heading 3 0 ≡ 0 → WithdrawIs heading states session_empty heading states
    unfolding withdraw_number withdrawal_refusal pick
    withdraw_none z = refused SessionEmpty (rw (t, z))

    module _ (n : get_or heading 3 0 ≡ 0 → ⊥) where
      -- over 128 are held: 6
      pub withdraw_over : max_states < get_or heading 3 0 → WithdrawIs heading states recording_limits heading states
      unfolding withdraw_number withdrawal_refusal pick
      withdraw_over o = refused RecordingLimits (rw (t, ne_eqb (get_or heading 3 0) 0 n, lt-ltb max_states (get_or heading 3 0) o))

      -- taken: zero for the last state, and one less is held, as `withdrawn` says
      pub withdraw_taken : get_or heading 3 0 ≤ max_states → WithdrawIs heading states accepted (set heading 3 (get_or heading 3 0 - 1)) (set states (get_or heading 3 0 - 1) 0)
      unfolding withdraw_number withdrawal_refusal pick withdrawn
      withdraw_taken o =
          let taken : accepted ≡ withdraw_number h = rw (t, ne_eqb (get_or heading 3 0) 0 n, le-ltb max_states (get_or heading 3 0) o) in
          record { answered = taken; left = taken_leaves Withdraw h taken }

pub ruleset withdraw_laws = (rules, withdraw_short, withdraw_none, withdraw_over, withdraw_taken)
