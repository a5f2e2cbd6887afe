-- No check of a table or a recording refuses with 13 or above: 13 is for lent space alone. None of a recording refuses with 9.
use mathlib.Core.Path.{◌≡◌}
use Prim.Native.Nat.{ℕ, zero, suc, ◌+◌, ◌<◌}
use native.Mathlib.Omega.{arith}
use mathlib.Core.Bool.{Bool, true, false}
use mathlib.Core.List.{List, [], ◌∷◌}
use lib.Dec.{eqb}
use Rattle.definitions.specs.Limits.{rule_limits, rule_operand, recording_limits, masks_meet, recording_lines, output_rule, no_controller, lent_short, accepted, gauge_bit_set}
use Rattle.definitions.specs.Bounded.{pick, or_else}
use Rattle.definitions.specs.Nodes.{Node, node_of}
use Rattle.definitions.specs.Tables.{Rule, Table, node_refusal, nodes_refusal, rule_heading_refusal, rule_refusal, tops_refusal, table_refusal}
use Rattle.definitions.specs.Recordings.{Recording, masks_of, states_of, state_refusal, recording_heading_refusal, mask_refusal, masks_refusal, states_refusal, recording_lines_refusal, recording_refusal, controller_refusal}
use Rattle.definitions.specs.Gauges.{Gauges}
use Rattle.definitions.specs.RecordingText.{Measured, finished_state, at_refusal}

pub pick_of : (P : ℕ → Type 0) (z : Bool) (a b : ℕ) → P a → P b → P (pick z a b)
unfolding pick
pick_of P true a b p q = p
pick_of P false a b p q = q

pub or_else_of : (P : ℕ → Type 0) (a b : ℕ) → P a → P b → P (or_else a b)
unfolding or_else
or_else_of P a b p q = pick_of P (eqb a 0) b a q p

pub pick_low : (z : Bool) (a b n : ℕ) → a < n → b < n → pick z a b < n
pick_low z a b n p q = pick_of (λ m. m < n) z a b p q

pub or_else_low : (a b n : ℕ) → a < n → b < n → or_else a b < n
or_else_low a b n p q = or_else_of (λ m. m < n) a b p q

node_low : (rewritten : Bool) (i : ℕ) (n : Node) → node_refusal rewritten i n < lent_short
unfolding node_refusal
node_low rewritten i n =
    pick_low _ rule_limits _ lent_short (omega arith)
    (pick_low _ rule_limits _ lent_short (omega arith)
    (pick_low _ rule_limits _ lent_short (omega arith)
    (pick_low _ rule_limits _ lent_short (omega arith) (pick_low _ rule_operand accepted lent_short (omega arith) (omega arith)))))

nodes_low : (rewritten : Bool) (i left : ℕ) (ws : List ℕ) → nodes_refusal rewritten i left ws < lent_short
unfolding nodes_refusal
nodes_low rewritten i zero ws = omega arith
nodes_low rewritten i (suc left) [] = omega arith
nodes_low rewritten i (suc left) (w ∷ ws) =
    or_else_low (node_refusal rewritten i (node_of w)) (nodes_refusal rewritten (i + 1) left ws) lent_short (node_low rewritten i (node_of w)) (nodes_low rewritten (i + 1) left ws)

pub rule_low : (r : Rule) → rule_refusal r < lent_short
unfolding rule_refusal rule_heading_refusal
rule_low r =
    or_else_low _ _ lent_short (pick_low _ accepted rule_limits lent_short (omega arith) (omega arith)) (nodes_low false 0 r.count r.nodes)

pub table_low : (t : Table) → table_refusal t < lent_short
unfolding table_refusal tops_refusal
table_low t =
    or_else_low _ _ lent_short (pick_low _ accepted rule_limits lent_short (omega arith) (omega arith))
    (or_else_low _ _ lent_short (nodes_low true 0 t.count t.nodes) (pick_low _ accepted rule_limits lent_short (omega arith) (omega arith)))

-- what holds of 0, 6, 7, 8 and 10 holds of the number of every recording
module _ (P : ℕ → Type 0) (none : P accepted) where
  masks_number : P masks_meet → (earlier ms : List ℕ) → P (masks_refusal earlier ms)
  unfolding masks_refusal mask_refusal
  masks_number meet earlier [] = none
  masks_number meet earlier (m ∷ ms) = or_else_of P _ _ (pick_of P _ masks_meet accepted meet none) (masks_number meet (m ∷ earlier) ms)

  module _ (limits : P recording_limits) (output : P output_rule) where
    pub state_number : (C : ℕ) (masks : List ℕ) (k prior s : ℕ) → P (state_refusal C masks k prior s)
    unfolding state_refusal
    state_number C masks k prior s = pick_of P _ recording_limits _ limits (pick_of P _ output_rule accepted output none)

    pub at_number : P gauge_bit_set → (C : ℕ) (masks : List ℕ) (g : Gauges) (k prior : ℕ) (m : Measured) → P (at_refusal C masks g k prior m)
    unfolding at_refusal
    at_number set C masks g k prior m =
        pick_of P _ recording_limits _ limits (pick_of P _ gauge_bit_set _ set (state_number C masks k prior (finished_state g m)))

    pub states_number : (C : ℕ) (masks : List ℕ) (k prior : ℕ) (ss : List ℕ) → P (states_refusal C masks k prior ss)
    unfolding states_refusal
    states_number C masks k prior [] = none
    states_number C masks k prior (s ∷ ss) = or_else_of P _ _ (state_number C masks k prior s) (states_number C masks (k + 1) s ss)

    pub recording_number : P masks_meet → P recording_lines → (R : Recording) → P (recording_refusal R)
    unfolding recording_refusal recording_heading_refusal recording_lines_refusal
    recording_number meet lines R =
        or_else_of P _ _ (pick_of P _ accepted recording_limits none limits)
        (or_else_of P _ _ (masks_number meet [] (masks_of R))
        (or_else_of P _ _ (states_number R.controllers (masks_of R) 0 0 (states_of R)) (pick_of P _ recording_lines accepted lines none)))

pub recording_low : (R : Recording) → recording_refusal R < lent_short
recording_low = recording_number (λ n. n < lent_short) (omega arith) (omega arith) (omega arith) (omega arith) (omega arith)

-- "Number 9 is no longer given" (document 02)
pub recording_not_nine : (R : Recording) → recording_refusal R ≡ 9 → ⊥
recording_not_nine = recording_number (λ n. n ≡ 9 → ⊥) (λ e. omega arith) (λ e. omega arith) (λ e. omega arith) (λ e. omega arith) (λ e. omega arith)

pub controller_low : (C c : ℕ) → controller_refusal C c < lent_short
unfolding controller_refusal
controller_low C c = pick_low _ accepted no_controller lent_short (omega arith) (omega arith)
