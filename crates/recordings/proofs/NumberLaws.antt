-- The number of a check, of a table or of a recording, is below that of lent space; and a refusal is its number alone.
use Rattle.std.proofs.Common.{ℕ, zero, suc, ◌+◌, ◌<◌, ◌≡◌, Bool, true, false, not, ◌&&◌, ◌||◌, List, [], ◌∷◌, length, take, arith, eqb, ltb, leb, ne_eqb}
use Rattle.definitions.specs.Limits.{max_controllers, max_states, max_rule_nodes, max_table_nodes, atom_count, accepted, lent_short}
use Rattle.definitions.specs.Bounded.{pick, within, or_else}
use Rattle.definitions.specs.Nodes.{Node, node_of}
use Rattle.definitions.specs.Tables.{Rule, Table, is_unknown, is_rewritten, is_atom, unused_set, operand_late, node_refusal, nodes_refusal, rule_heading_refusal, rule_refusal, tops_refusal, table_refusal}
use Rattle.definitions.specs.Operations.{answer}
use Rattle.definitions.specs.Recordings.{Recording, output_broken, meets, state_refusal, recording_heading_refusal, mask_refusal, masks_refusal, states_refusal, recording_lines_refusal, recording_refusal, controller_refusal}
use Rattle.rules.specs.Refusals.{number_of}
use Rattle.rules.specs.declared.refusal.Refusal.{Refusal}
use Rattle.rules.proofs.RefusalLaws.{number_some}
use Rattle.recordings.specs.Joining.{joined_refusal}

-- ---- below a number
pub pick_below : (n : ℕ) (t : Bool) (a b : ℕ) → a < n → b < n → pick t a b < n
unfolding pick
pick_below n true a b p q = p
pick_below n false a b p q = q

pub or_else_below : (n a b : ℕ) → a < n → b < n → or_else a b < n
unfolding or_else
or_else_below n a b p q = pick_below n (eqb a 0) b a q p

node_below : (rewritten : Bool) (i : ℕ) (n : Node) → node_refusal rewritten i n < lent_short
unfolding node_refusal
node_below rewritten i n =
    pick_below _ (is_unknown n.kind) _ _ (omega arith)
    (pick_below _ (is_rewritten n.kind && not rewritten) _ _ (omega arith)
    (pick_below _ (is_atom n.kind && leb atom_count n.first) _ _ (omega arith)
    (pick_below _ (unused_set n) _ _ (omega arith)
    (pick_below _ (not (is_atom n.kind) && operand_late i n) _ _ (omega arith) (omega arith)))))

nodes_below : (rewritten : Bool) (i count : ℕ) (ws : List ℕ) → nodes_refusal rewritten i count ws < lent_short
unfolding nodes_refusal
nodes_below rewritten i zero ws = omega arith
nodes_below rewritten i (suc count) [] = omega arith
nodes_below rewritten i (suc count) (w ∷ ws) = or_else_below _ _ _ (node_below rewritten i (node_of w)) (nodes_below rewritten (i + 1) count ws)

pub rule_below : (r : Rule) → rule_refusal r < lent_short
unfolding rule_refusal rule_heading_refusal
rule_below r =
    or_else_below _ _ _ (pick_below _ (ltb r.controller max_controllers && within 1 max_rule_nodes r.count) _ _ (omega arith) (omega arith)) (nodes_below false 0 r.count r.nodes)

pub table_below : (t : Table) → table_refusal t < lent_short
unfolding table_refusal tops_refusal
table_below t =
    or_else_below _ _ _ (pick_below _ (within 1 max_table_nodes t.count) _ _ (omega arith) (omega arith))
    (or_else_below _ _ _ (nodes_below true 0 t.count t.nodes) (pick_below _ (ltb t.weak_top t.count && ltb t.strong_top t.count) _ _ (omega arith) (omega arith)))

masks_below : (earlier ms : List ℕ) → masks_refusal earlier ms < lent_short
unfolding masks_refusal mask_refusal
masks_below earlier [] = omega arith
masks_below earlier (m ∷ ms) = or_else_below _ _ _ (pick_below _ (meets earlier m) _ _ (omega arith) (omega arith)) (masks_below (m ∷ earlier) ms)

states_below : (C : ℕ) (masks : List ℕ) (k prior : ℕ) (ss : List ℕ) → states_refusal C masks k prior ss < lent_short
unfolding states_refusal state_refusal
states_below C masks k prior [] = omega arith
states_below C masks k prior (s ∷ ss) =
    or_else_below _ _ _ (pick_below _ _ _ _ (omega arith) (pick_below _ (ltb 0 k && output_broken C masks prior s) _ _ (omega arith) (omega arith))) (states_below C masks (k + 1) s ss)

recording_below : (R : Recording) → recording_refusal R < lent_short
unfolding recording_refusal recording_heading_refusal recording_lines_refusal
recording_below R =
    or_else_below _ _ _ (pick_below _ (within 1 max_controllers R.controllers && within 1 max_states R.count) _ _ (omega arith) (omega arith))
    (or_else_below _ _ _ (masks_below [] (take R.controllers R.masks))
    (or_else_below _ _ _ (states_below R.controllers (take R.controllers R.masks) 0 0 (take R.count R.states))
    (pick_below _ (ltb (length R.masks) R.controllers || ltb (length R.states) R.count) _ _ (omega arith) (omega arith))))

pub joined_below : (R : Recording) (c : ℕ) → joined_refusal R c < lent_short
unfolding controller_refusal
joined_below R c = or_else_below _ _ _ (recording_below R) (pick_below _ (ltb c R.controllers) _ _ (omega arith) (omega arith))

-- ---- an answer
pub refusal_alone : (e : Refusal) (n : ℕ) (values : List ℕ) → number_of e ≡ n → answer (number_of e) [] ≡ answer n values
unfolding answer pick
refusal_alone e n values h = rw (← h, ne_eqb (number_of e) accepted (number_some e))
