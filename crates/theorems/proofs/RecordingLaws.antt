-- What the acceptance of a recording says of each of its states.
use mathlib.Core.Path.{◌≡◌}
use Prim.Native.Nat.{ℕ, zero, suc, ◌+◌, ◌-◌, ◌^◌, ◌≤◌, ◌<◌}
use native.Mathlib.Omega.{arith}
use mathlib.Core.Bool.{Bool, false, not, ◌&&◌, ◌||◌}
use mathlib.Core.List.{List, [], ◌∷◌}
use lib.ListN.{length, take, get_or, length-take}
use lib.Dec.{eqb, ltb, leb}
use lib.Bits.{bit_and}
use borrow.Author.Tests.{ltb-false, leb-true, eqb-true, lt-ltb, le-ltb, not-false}
use Rattle.definitions.specs.Limits.{max_controllers, max_states, recording_limits, recording_lines, output_rule, accepted}
use Rattle.definitions.specs.Bounded.{pick, within, or_else}
use Rattle.definitions.specs.Recordings.{Recording, atoms_of, marks_of, marked, masks_of, states_of, mask_of, state_at, word_at, runs_at, output_broken, state_refusal, recording_heading_refusal, masks_refusal, states_refusal, recording_lines_refusal, recording_refusal}
use Rattle.theorems.proofs.Choice.{both_true, both_false, refuse_no, accept_yes, or_else_none, some_no}

-- the parts of the check
pub record Checked (R : Recording) : Type 0 where
  pub some_controller : 0 < R.controllers
  pub few_controllers : R.controllers ≤ max_controllers
  pub some_state : 0 < R.count
  pub few_states : R.count ≤ max_states
  pub masks : length (masks_of R) ≡ R.controllers
  pub states : length (states_of R) ≡ R.count
  pub each_mask : masks_refusal [] (masks_of R) ≡ 0
  pub each_state : states_refusal R.controllers (masks_of R) 0 0 (states_of R) ≡ 0

taken : (n : ℕ) (l : List ℕ) → ltb (length l) n ≡ false → length (take n l) ≡ n
taken n l h = simp length-take (omega (arith, ltb-false (length l) n h))

pub checked : (R : Recording) → recording_refusal R ≡ 0 → Checked R
unfolding recording_refusal recording_heading_refusal recording_lines_refusal
checked R h =
    let C : ℕ = R.controllers in
    let N : ℕ = R.count in
    let (heading, more) = or_else_none (recording_heading_refusal C N) (or_else (masks_refusal [] (masks_of R)) (or_else (states_refusal C (masks_of R) 0 0 (states_of R)) (recording_lines_refusal R))) h in
    let (ms, others) = or_else_none (masks_refusal [] (masks_of R)) (or_else (states_refusal C (masks_of R) 0 0 (states_of R)) (recording_lines_refusal R)) more in
    let (ss, count) = or_else_none (states_refusal C (masks_of R) 0 0 (states_of R)) (recording_lines_refusal R) others in
    let limits = accept_yes (within 1 max_controllers C && within 1 max_states N) recording_limits (omega arith) heading in
    let (cs, ns) = both_true (within 1 max_controllers C) (within 1 max_states N) limits in
    let c = both_true (leb 1 C) (leb C max_controllers) cs in
    let n = both_true (leb 1 N) (leb N max_states) ns in
    let lines = refuse_no (ltb (length R.masks) C || ltb (length R.states) N) recording_lines accepted (omega arith) count in
    let enough = both_false (ltb (length R.masks) C) (ltb (length R.states) N) lines.0 in
    record {
      some_controller = leb-true 1 C c.0;
      few_controllers = leb-true C max_controllers c.1;
      some_state = leb-true 1 N n.0;
      few_states = leb-true N max_states n.1;
      masks = taken C R.masks enough.0;
      states = taken N R.states enough.1;
      each_mask = ms;
      each_state = ss;
    }

-- each state met no row, against the state before it
state_accepted : (C : ℕ) (masks ss : List ℕ) (k prior : ℕ) → states_refusal C masks k prior ss ≡ 0 → (j : ℕ) → j < length ss →
    state_refusal C masks (k + j) (get_or (prior ∷ ss) j 0) (get_or ss j 0) ≡ 0
unfolding states_refusal
state_accepted C masks [] k prior h j l = absurd (omega arith)
state_accepted C masks (s ∷ ss) k prior h zero l =
    let e : k + 0 ≡ k = omega arith in
    rw e (or_else_none (state_refusal C masks k prior s) (states_refusal C masks (k + 1) s ss) h).0
state_accepted C masks (s ∷ ss) k prior h (suc j) l =
    let e : k + suc j ≡ (k + 1) + j = omega arith in
    rw e (state_accepted C masks ss (k + 1) s (or_else_none (state_refusal C masks k prior s) (states_refusal C masks (k + 1) s ss) h).1 j (omega arith))

module _ (C : ℕ) (masks : List ℕ) (k prior s : ℕ) (h : state_refusal C masks k prior s ≡ 0) where
  -- the test of a state against the prior one
  output_test : Bool
  output_test = ltb 0 k && output_broken C masks prior s

  output_fine : output_test ≡ false
  unfolding state_refusal output_test
  output_fine =
      let more = (refuse_no (leb (2 ^ C) (marks_of s)) recording_limits (pick (ltb 0 k && output_broken C masks prior s) output_rule accepted) (omega arith) h).1 in
      (refuse_no (ltb 0 k && output_broken C masks prior s) output_rule accepted (omega arith) more).0

  -- the output rule holds for each controller
  output_kept_lem : 0 < k → (c : ℕ) → c < C → marked c prior ≡ false → bit_and (atoms_of prior) (get_or masks c 0) ≡ bit_and (atoms_of s) (get_or masks c 0)
  unfolding output_test
  output_kept_lem p c l m =
      let t : output_broken C masks prior s ≡ false = rw (lt-ltb 0 k p) at output_fine in
      let u = some_no (λ (c : ℕ). not (marked c prior) && not (eqb (bit_and (atoms_of prior) (get_or masks c 0)) (bit_and (atoms_of s) (get_or masks c 0)))) (C - 0) 0 c t (omega arith) (omega arith) in
      let v : not (eqb (bit_and (atoms_of prior) (get_or masks c 0)) (bit_and (atoms_of s) (get_or masks c 0))) ≡ false = rw m at u in
      eqb-true (bit_and (atoms_of prior) (get_or masks c 0)) (bit_and (atoms_of s) (get_or masks c 0)) (not-false (eqb (bit_and (atoms_of prior) (get_or masks c 0)) (bit_and (atoms_of s) (get_or masks c 0))) v)

-- an accepted recording, as its projection for a controller that runs at `run` and owns `mask` needs it
pub record Recorded (run : ℕ → Bool) (word : ℕ → ℕ) (mask N : ℕ) : Type 0 where
  pub some : 0 < N
  pub off : (k : ℕ) → N ≤ k → run k ≡ false
  pub last_idle : (k : ℕ) → suc k ≡ N → run k ≡ false
  pub output : (k : ℕ) → suc k < N → run k ≡ false → bit_and (word k) mask ≡ bit_and (word (suc k)) mask

pub recorded : (R : Recording) (c : ℕ) → recording_refusal R ≡ 0 → c < R.controllers → Recorded (runs_at R c) (word_at R) (mask_of R c) R.count
recorded R c h l =
    let K : Checked R = checked R h in
    let each = state_accepted R.controllers (masks_of R) (states_of R) 0 0 K.each_state in
    record {
      some = K.some_state;
      off = λ k b. rw (le-ltb (suc k) R.count (omega arith));
      last_idle = λ k e. rw (le-ltb (suc k) R.count (omega arith));
      output = λ k b r. let i : suc k < length (states_of R) = omega (arith, K.states) in
          let unmarked : marked c (state_at R k) ≡ false = rw (lt-ltb (suc k) R.count b) at r in
          output_kept_lem R.controllers (masks_of R) (0 + suc k) (get_or (0 ∷ states_of R) (suc k) 0) (get_or (states_of R) (suc k) 0) (each (suc k) i) (omega arith) c l unmarked;
    }
